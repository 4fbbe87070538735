use Rattle.std.proofs.Common.{replicate, arith}
use Rattle.std.proofs.lemmas.List.{append-nil}
use Rattle.kinds.specs.Recalls.{under_full}
use Rattle.kinds.proofs.rings.Ring.new.Goals as goal

pub returns-clause-held : goal.returns-clause-held
returns-clause-held c = let u = under_full _ 96 c.args.«cap» (append-nil (replicate 96 c.args.«cap»)) in (omega arith, u.0, u.1)

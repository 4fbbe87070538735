use Rattle.std.proofs.Common.{rules, tests}
use Rattle.windows.proofs.Firsts.{first_of}
use Rattle.windows.proofs.judging.check_levels.Goals as goal

pub returns : goal.returns
returns c = rw (first_of c.args.«cap» c.args.«record».now, ← c.first_place_above.ensures) (search (rules, tests))

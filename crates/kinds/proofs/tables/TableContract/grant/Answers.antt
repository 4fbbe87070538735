use Rattle.std.proofs.Common.{length, sym, refl, ap, ◌∙◌, arith}
use Rattle.contract.specs.Meaning.{granted}
use Rattle.contract.proofs.Admitted.{admitted_cap}
use Rattle.kinds.specs.Listed.{listed}
use Rattle.kinds.specs.Tables.{table_meaning}
use Rattle.kinds.specs.Recalls.{granted_ring}
use Rattle.kinds.proofs.tables.TableContract.grant.Goals as goal

pub invariant_of-self : goal.invariant_of-self
invariant_of-self c =
    let s = c.args.self.now in
    let told = c.in_ok-level.ensures in
    let below = admitted_cap (table_meaning s) c.args.level (sym told.answer) in
    record { sizes = s.sizes; most = s.most; held = c.push.ensures.held s.«cap» s.held (omega (arith, below, told.value)) }

pub returns-clause-after : goal.returns-clause-after
returns-clause-after c =
    let s = c.args.self.now in
    let xs = listed s.needs in
    granted_ring s.«cap» (length xs) xs refl s.ring c.push.new.self c.in_ok-level.level s.sizes.3 c.push.ensures.after
    ∙ ap (granted (table_meaning s)) c.in_ok-level.ensures.value

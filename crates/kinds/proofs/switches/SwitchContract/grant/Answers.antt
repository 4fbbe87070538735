use Rattle.std.proofs.Common.{sym, ap, ◌∙◌, arith}
use Rattle.contract.specs.Meaning.{granted}
use Rattle.contract.proofs.Admitted.{admitted_cap}
use Rattle.kinds.specs.Kinds.{switch_need, needs_by}
use Rattle.kinds.specs.Switches.{switch_meaning}
use Rattle.kinds.specs.Places.{length-needs_by}
use Rattle.kinds.specs.Recalls.{granted_ring}
use Rattle.kinds.proofs.switches.SwitchContract.grant.Goals as goal

pub invariant_of-self : goal.invariant_of-self
invariant_of-self c =
    let s = c.args.self.now in
    let told = c.in_ok-level.ensures in
    let below = admitted_cap (switch_meaning s) c.args.level (sym told.answer) in
    record { sizes = s.sizes; held = c.push.ensures.held s.«cap» s.held (omega (arith, below, told.value)) }

pub returns-clause-after : goal.returns-clause-after
returns-clause-after c =
    let s = c.args.self.now in
    let f = switch_need s.«cap» s.allowance in
    granted_ring s.«cap» s.memory (needs_by f s.memory) (length-needs_by f s.memory) s.ring c.push.new.self c.in_ok-level.level s.sizes.3 c.push.ensures.after
    ∙ ap (granted (switch_meaning s)) c.in_ok-level.ensures.value

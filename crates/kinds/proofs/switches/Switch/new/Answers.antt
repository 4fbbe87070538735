use Rattle.std.proofs.Common.{ap, ◌∙◌}
use Rattle.kinds.specs.Kinds.{switch_need, needs_by, new_switch}
use Rattle.kinds.specs.Places.{length-needs_by, need_by_most, switch_need_most}
use Rattle.kinds.specs.Recalls.{begun_ring, new_ring}
use Rattle.kinds.proofs.switches.Switch.new.Goals as goal

pub returns-clause-made : goal.returns-clause-made
returns-clause-made c =
    let allowance = c.args.allowance in
    let top = c.in_ok-cap.cap in
    let memory = c.in_ok-cap.memory in
    let told = c.in_ok-cap.ensures in
    let f = switch_need top allowance in
    begun_ring top memory (needs_by f memory) (length-needs_by f memory) c.new.result told.sizes.3 c.new.ensures.full
    ∙ ap (λ t. new_switch t memory allowance) told.taken.0
    ∙ ap (λ n. new_switch c.args.«cap» n allowance) told.taken.1

pub returns-clause-begun : goal.returns-clause-begun
returns-clause-begun c =
    let allowance = c.args.allowance in
    let top = c.in_ok-cap.cap in
    let memory = c.in_ok-cap.memory in
    let f = switch_need top allowance in
    new_ring top memory (needs_by f memory) (length-needs_by f memory) c.new.result c.in_ok-cap.ensures.sizes
    (need_by_most f memory top (λ k low high. switch_need_most top allowance k))
    c.new.ensures.held
    c.new.ensures.full

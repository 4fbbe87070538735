use Rattle.std.proofs.Common.{sym, ◌∙◌, arith}
use Rattle.kinds.specs.Kinds.{switch_need, needs_by}
use Rattle.kinds.specs.Places.{place_zero, need_by, need_by_past}
use Rattle.kinds.proofs.switches.SwitchContract.need.Goals as goal
use Rattle.kinds.proofs.switches.SwitchContract.need.Goals.{then-length-eq0-via-then-length-eq0, then-length-eq0-via-else-length-eq0+then-length-self}

pub returns-then-length-eq0 : goal.returns-then-length-eq0
returns-then-length-eq0 c =
    let s = c.args.self.now in
    let f = switch_need s.«cap» s.allowance in
    elim c.then-length-eq0.branch [
      | then-length-eq0-via-then-length-eq0 w ↦ sym (place_zero (needs_by f s.memory) c.args.length w.if-length-eq0.true)
      | then-length-eq0-via-else-length-eq0+then-length-self w ↦ sym (need_by_past f s.memory c.args.length w.if-length-self.true)
    ]

pub returns : goal.returns
returns c =
    let s = c.args.self.now in
    c.saturating_sub.ensures ∙ sym (need_by (switch_need s.«cap» s.allowance) s.memory c.args.length (omega arith) (omega arith))

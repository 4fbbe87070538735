use Rattle.desk.proofs.Known.{known_end}
use Rattle.desk.proofs.answer_lines.Goals as goal

pub returns-then-branch-eq0 : goal.returns-then-branch-eq0
returns-then-branch-eq0 g c =
    known_end _ _ _ _ c.loop-count.invariant.known (c.in_ok-read_until.ensures.end c.if-branch-eq0.true) c.in_ok-read_until.ensures.none_lost

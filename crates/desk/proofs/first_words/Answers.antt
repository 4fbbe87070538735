use Rattle.std.proofs.Common.{List, length, ap, arith}
use Rattle.desk.proofs.Firsts.{taken_more, taken_all}
use Rattle.desk.proofs.first_words.Goals as goal

pub loop-word-preserved : goal.loop-word-preserved
loop-word-preserved c =
    let inv = c.loop-word.invariant in
    let step = c.in-Some.ensures.steps in
    record {
      many = omega (arith, inv.many, step.0.1, ap (λ (ws : List _). length ws) step.0.0);
      room = omega (arith, inv.room, step.1, c.push.ensures.len);
      whole = taken_more _ _ _ _ _ _ _ _ inv.whole step.0.0 step.1 c.push.ensures.items;
    }

pub returns : goal.returns
returns c = taken_all _ _ _ _ c.loop-word.invariant.whole (λ some. omega (arith, c.loop-word.invariant.many, (c.in-None.ensures.steps some).0))

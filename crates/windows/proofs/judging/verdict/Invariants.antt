use Rattle.std.proofs.Common.{reverse, take}
use Rattle.windows.specs.Sums.{Ending}
use Rattle.windows.specs.Verdicts.{Tells}
use Rattle.windows.proofs.judging.verdict.Given as goal

-- the tightest window of the slots before i, and the sums of those that end there
abbrev pub invariant-loop-i : goal.invariant-loop-i
invariant-loop-i g l =
    let m = g.C.Contract.meaning l.contract in
    record {
      tightest : Tells m l.«record» l.i l.tightest;
      sums : Ending m (reverse (take l.i l.«record»)) l.windows.sums;
    }

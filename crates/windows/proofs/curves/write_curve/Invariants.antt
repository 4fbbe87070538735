use Rattle.std.proofs.Common.{◌≡◌, ℕ, suc, ◌<◌, length, get_or}
use Rattle.curve.specs.Curve.{curve}
use Rattle.windows.proofs.curves.write_curve.Given as goal

abbrev pub invariant-loop-i : goal.invariant-loop-i
invariant-loop-i g l = (length l.list ≡ length l.initial.list) × ((k : ℕ) → k < l.i → get_or l.list k 0 ≡ curve (g.C.Contract.meaning l.contract) (suc k))

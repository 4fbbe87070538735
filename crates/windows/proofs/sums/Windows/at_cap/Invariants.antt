use Rattle.std.proofs.Common.{◌≡◌, ℕ, suc, ◌*◌, ◌<◌, get_or}
use Rattle.windows.specs.Sums.{Low}
use Rattle.windows.proofs.sums.Windows.at_cap.Given as goal

abbrev pub invariant-loop-k : goal.invariant-loop-k
invariant-loop-k l = ((j : ℕ) → j < l.k → get_or l.sum-items j 0 ≡ suc j * l.conditions.«cap») × Low l.sum-items

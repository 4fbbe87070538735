use Rattle.std.proofs.Common.{ℕ, ◌<◌, ◌<ℤ◌}
use Rattle.windows.specs.Windows.{margin_of}
use Rattle.windows.proofs.sums.Windows.shortest.Given as goal

abbrev pub invariant-loop-k : goal.invariant-loop-k
invariant-loop-k l = (j : ℕ) → j < l.k → l.margin <ℤ margin_of l.conditions l.self j

use Rattle.std.proofs.Common.{ℕ, ◌<◌, ◌≤ℤ◌}
use Rattle.windows.specs.Windows.{lengths, margin_of}
use Rattle.windows.proofs.sums.Windows.least_margin.Given as goal

-- not above any margin so far, and not below all of them
abbrev pub invariant-loop-k : goal.invariant-loop-k
invariant-loop-k l =
    ((k : ℕ) → k < l.k → l.least ≤ℤ margin_of l.conditions l.self k) × ((k : ℕ) × (k < lengths l.conditions) × (margin_of l.conditions l.self k ≤ℤ l.least))

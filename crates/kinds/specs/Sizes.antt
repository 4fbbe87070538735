-- The limits of cap and memory.
use Rattle.std.specs.Prelude.{ℕ, ◌≤◌}

abbrev pub Sizes : ℕ → ℕ → Type 0
Sizes top memory = (1 ≤ top) × (top ≤ 20000) × (1 ≤ memory) × (memory ≤ 96)

-- Windows beside the conditions that they are held against.
use Rattle.std.specs.Prelude.{ℕ, ℤ, length}
use Rattle.contract.specs.Meaning.{Meaning}
use Rattle.windows.specs.Sums.{Copies, Recent, margin_at}
use Rattle.windows.specs.declared.conditions.Conditions.{Conditions}
use Rattle.windows.specs.declared.sums.Windows.{Windows}

-- how many lengths have a need
abbrev pub lengths : Conditions → ℕ
lengths c = length c.needs.items

-- the margin of the window of k + 1 slots
abbrev pub margin_of : Conditions → Windows → ℕ → ℤ
margin_of c w = margin_at c.needs.items w.sums

-- they are those of the recalled levels, beside what the contract asks
pub record Recalled (m : Meaning) (c : Conditions) (w : Windows) : Type 0 where
  pub conditions : Copies m c
  pub sums : Recent m w.sums

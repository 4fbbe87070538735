-- Sums of windows, by length.
use Rattle.std.specs.Prelude.{◌≡◌, ℕ, suc, ◌+◌, ◌-◌, ◌*◌, ◌<◌, ◌≤◌, List, ◌∷◌, ℤ, pos, ◌-ℤ◌, ◌≤ℤ◌, ◌<ℤ◌, slice_index}
use Rattle.contract.specs.Meaning.{Meaning, memory, newest}
use Rattle.curve.specs.Lawful.{energy}
use Rattle.windows.specs.declared.conditions.Conditions.{Conditions}

-- what was read of a contract is its cap and its needs
abbrev pub Copies : Meaning → Conditions → Type 0
Copies m c = (c.«cap» ≡ m.«cap») × (c.needs.items ≡ m.needs)

-- no slot of a window has more than the greatest cap
abbrev pub Low : List ℕ → Type 0
Low sums = (k : ℕ) → slice_index sums k ≤ suc k * 20000

-- the sums are those of the newest recalled levels, from one level on
abbrev pub Recent : Meaning → List ℕ → Type 0
Recent m sums = (k : ℕ) → suc k < memory m → slice_index sums k ≡ newest m (suc k)

-- the sums are those of the windows that end with the newest of the past, from length 1 on
abbrev pub Ending : Meaning → List ℕ → List ℕ → Type 0
Ending m past sums = (k : ℕ) → k < memory m → slice_index sums k ≡ energy m.«cap» past (suc k)

-- one slot on: each window is the level and the window before that is a slot shorter
abbrev pub Slid : ℕ → ℕ → List ℕ → List ℕ → Type 0
Slid level n old new = (k : ℕ) → k < n → slice_index new k ≡ level + slice_index (0 ∷ old) k

-- what the next slot owes to the window of k slots that ends in it, by the sums of those that end before it
abbrev pub owed_by : List ℕ → List ℕ → ℕ → ℕ
owed_by needs sums k = slice_index needs (k - 1) - slice_index (0 ∷ sums) (k - 1)

-- the margin of the window of k + 1 slots
abbrev pub margin_at : List ℕ → List ℕ → ℕ → ℤ
margin_at needs sums k = pos (slice_index sums k) -ℤ pos (slice_index needs k)

-- z is the least of f 0 to f (n - 1)
pub record Least (f : ℕ → ℤ) (n : ℕ) (z : ℤ) : Type 0 where
  pub bound : (k : ℕ) → k < n → z ≤ℤ f k
  pub attained : (k : ℕ) × (k < n) × (f k ≤ℤ z)

-- k - 1 is the first place below n where f is not above z
pub record First (f : ℕ → ℤ) (n : ℕ) (z : ℤ) (k : ℕ) : Type 0 where
  pub low : 1 ≤ k
  pub high : k ≤ n
  pub here : f (k - 1) ≤ℤ z
  pub before : (j : ℕ) → suc j < k → z <ℤ f j

-- The service curve of a contract: what a run of so many slots is owed.
use Rattle.std.specs.Prelude.{◌≡◌, ℕ, zero, suc, ◌+◌, ◌≤◌, max, List, [], ◌∷◌, map, sum, slice_index}
use Rattle.contract.specs.Meaning.{Meaning, memory, need}

-- every number of the list has the property
abbrev pub Each : (ℕ → Type 0) → List ℕ → Type 0
Each P [] = Unit
Each P (x ∷ xs) = P x × Each P xs

-- the length L cut into parts, none of them empty and none longer than the memory
pub record Way (m : Meaning) (L : ℕ) (parts : List ℕ) : Type 0 where
  pub lengths : Each (λ k. (1 ≤ k) × (k ≤ memory m)) parts
  pub fills : sum parts ≡ L

-- the needs of its parts added up
abbrev pub needs_of : Meaning → List ℕ → ℕ
needs_of m parts = sum (map (need m) parts)

-- some way to cut L has needs that add up to e, and none has more
pub record IsCurve (m : Meaning) (L e : ℕ) : Type 0 where
  pub some_way : (parts : List ℕ) × Way m L parts × (needs_of m parts ≡ e)
  pub no_more : (parts : List ℕ) → Way m L parts → needs_of m parts ≤ e

-- the greatest of the sums of the k-th need and the k-th entry
abbrev pub best : List ℕ → List ℕ → ℕ
best [] cs = 0
best (n ∷ ns) [] = 0
best (n ∷ ns) (c ∷ cs) = max (n + c) (best ns cs)

-- the curve at L, L - 1, and so on down to 0: a first part of k slots leaves L - k to be split
abbrev pub curves : Meaning → ℕ → List ℕ
curves m zero = 0 ∷ []
curves m (suc L) = best m.needs (curves m L) ∷ curves m L

-- the curve at L, computed
abbrev pub curve : Meaning → ℕ → ℕ
curve m L = slice_index (curves m L) 0

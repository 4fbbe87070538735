-- Lawful lists of levels. A past stands newest first, and every slot before it counts as granted at the cap.
use Rattle.std.specs.Prelude.{ℕ, zero, suc, ◌+◌, ◌≤◌, List, [], ◌∷◌, ◌++◌, reverse, length, take}
use Rattle.contract.specs.Meaning.{Meaning}
use Rattle.curve.specs.Curve.{Each, curve}

-- the energy of the window of so many slots that ends with the newest level
abbrev pub energy : ℕ → List ℕ → ℕ → ℕ
energy top past zero = 0
energy top [] (suc L) = top + energy top [] L
energy top (y ∷ past) (suc L) = y + energy top past L

-- the levels ys, put after the past in their order: each is at most the cap, and every window, of whatever
-- length L, that ends with the i-th of them holds at least the curve
pub record Lawful (m : Meaning) (past ys : List ℕ) : Type 0 where
  pub within_cap : Each (λ y. y ≤ m.«cap») ys
  pub windows : (i L : ℕ) → 1 ≤ i → i ≤ length ys → curve m L ≤ energy m.«cap» (reverse (take i ys) ++ past) L

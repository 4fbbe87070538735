-- The first element of a list that fails a test.
use Rattle.std.specs.Prelude.{ℕ, ◌+◌, Bool, List, [], ◌∷◌, None, Option}
use Rattle.contract.specs.Faults.{refuse_if}

-- the elements stand at the places k, k + 1 and so on, and the refusal is told by the place
abbrev pub first_failing : {F : Type 0} → (ℕ → ℕ → Bool) → (ℕ → F) → ℕ → List ℕ → Option F
first_failing bad fault k [] = None
first_failing bad fault k (x ∷ xs) = refuse_if (bad k x) (fault k) (first_failing bad fault (k + 1) xs)

-- The books of an evening from line to line, and what they come to.
use Rattle.std.proofs.Common.{◌≡◌, ℕ, List, [], ◌∷◌, ◌++◌, reverse, None, ap, ◌∙◌}
use Rattle.std.proofs.lemmas.List.{reverse-append, reverse-reverse}
use Rattle.contract.specs.Faults.{grant_refusal}
use Rattle.contract.specs.Meaning.{Meaning, New, granted}
use Rattle.curve.specs.Lawful.{Lawful}
use Rattle.curve.specs.Reached.{standing, Reached, then_call, granting, at_first}
use Rattle.curve.proofs.Dispatched.{lawful_now}

-- no level is granted when an evening begins
pub kept_at_first : (m : Meaning) (xs : List ℕ) → xs ≡ [] → New m → Reached m (standing m (reverse xs))
kept_at_first m xs none new = rw none (at_first new)

-- a granted level goes to the end of the levels and to the front of the history
pub granted_on : (first m n : Meaning) (xs ys : List ℕ) (level : ℕ) → grant_refusal m level ≡ None → n ≡ granted m level → ys ≡ xs ++ (level ∷ []) →
    Reached first (standing m (reverse xs)) → Reached first (standing n (reverse ys))
granted_on first m n xs ys level taken left levels r =
    let behind : reverse ys ≡ level ∷ reverse xs = ap reverse levels ∙ reverse-append xs (level ∷ []) in
    rw (behind, left) (rw taken at (then_call (granting level) r))

-- the levels of an evening are a lawful record
pub levels_lawful : (first m : Meaning) (xs : List ℕ) → Reached first (standing m (reverse xs)) → Lawful m [] xs
levels_lawful first m xs r = rw reverse-reverse at (lawful_now first (standing m (reverse xs)) r)

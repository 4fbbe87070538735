-- Going through a list for the first element that fails.
use Rattle.std.proofs.Common.{◌≡◌, ℕ, zero, suc, ◌+◌, ◌<◌, ◌≤◌, Bool, true, false, List, [], ◌∷◌, length, get_or, drop, Some, None, Option, refl, ap, ◌∙◌, subst, add-zero, arith}
use Rattle.std.proofs.lemmas.List.{drop_more, drop_all}
use Rattle.contract.specs.Faults.{refuse_if}
use Rattle.contract.specs.Scans.{first_failing}

module _ {F : Type 0} (bad : ℕ → ℕ → Bool) (fault : ℕ → F) where
  module _ (xs : List ℕ) (k j : ℕ) where
    step : j < length xs → first_failing bad fault k (drop j xs) ≡ refuse_if (bad k (get_or xs j 0)) (fault k) (first_failing bad fault (k + 1) (drop (j + 1) xs))
    step h = ap (first_failing bad fault k) (drop_more xs j 0 h)

    pub fails_here : j < length xs → bad k (get_or xs j 0) ≡ true → first_failing bad fault k (drop j xs) ≡ Some (fault k)
    fails_here h e = step h ∙ ap (λ t. refuse_if t (fault k) (first_failing bad fault (k + 1) (drop (j + 1) xs))) e

    pub fails_later : j < length xs → bad k (get_or xs j 0) ≡ false → first_failing bad fault k (drop j xs) ≡ first_failing bad fault (k + 1) (drop (j + 1) xs)
    fails_later h e = step h ∙ ap (λ t. refuse_if t (fault k) (first_failing bad fault (k + 1) (drop (j + 1) xs))) e

    pub fails_nowhere : length xs ≤ j → first_failing bad fault k (drop j xs) ≡ None
    fails_nowhere h = ap (first_failing bad fault k) (drop_all j xs h)

  passes : (b : Bool) (f : F) (rest : Option F) → refuse_if b f rest ≡ None → (b ≡ false) × (rest ≡ None)
  passes true f rest e = absurd (cc)
  passes false f rest e = (refl, e)

  -- where none fails, each element passes
  pub each_passes : (k : ℕ) (xs : List ℕ) → first_failing bad fault k xs ≡ None → (j : ℕ) → j < length xs → bad (k + j) (get_or xs j 0) ≡ false
  each_passes k [] e j h = absurd (omega arith)
  each_passes k (x ∷ xs) e zero h = rw add-zero (passes (bad k x) (fault k) (first_failing bad fault (k + 1) xs) e).0
  each_passes k (x ∷ xs) e (suc j) h =
      let rest = (passes (bad k x) (fault k) (first_failing bad fault (k + 1) xs) e).1 in
      let s : (k + 1) + j ≡ k + suc j = omega arith in
      subst (λ t. bad t (get_or xs j 0) ≡ false) s (each_passes (k + 1) xs rest j (omega arith))

-- Whether a level is under the cap, one recalled level after the other.
use Rattle.std.proofs.Common.{◌≡◌, ℕ, zero, suc, ◌+◌, ◌-◌, ◌<◌, ◌≤◌, true, false, ltb, ◌||◌, List, ◌∷◌, length, get_or, drop, ap, ◌∙◌, arith}
use Rattle.std.proofs.lemmas.List.{drop_more, drop_all}
use Rattle.std.proofs.lemmas.Bool.{lt-ltb, le-ltb}
use Rattle.layers.specs.Layers.{any_under}

module _ (top : ℕ) (xs : List ℕ) where
  step : (j : ℕ) → j < length xs → any_under top (drop j xs) ≡ (ltb (get_or xs j 0) top || any_under top (drop (j + 1) xs))
  step j h = ap (any_under top) (drop_more xs j 0 h)

  pub under_here : (i : ℕ) → 1 ≤ i → i ≤ length xs → get_or (0 ∷ xs) i 0 < top → any_under top (drop (i - 1) xs) ≡ true
  under_here zero a b h = absurd (omega arith)
  under_here (suc j) a b h =
      let d : suc j - 1 ≡ j = omega arith in
      rw d (step j (omega arith) ∙ ap (λ t. t || any_under top (drop (j + 1) xs)) (lt-ltb (get_or xs j 0) top h))

  pub under_later : (i : ℕ) → 1 ≤ i → i ≤ length xs → top ≤ get_or (0 ∷ xs) i 0 → any_under top (drop (i - 1) xs) ≡ any_under top (drop ((i + 1) - 1) xs)
  under_later zero a b h = absurd (omega arith)
  under_later (suc j) a b h =
      let d : suc j - 1 ≡ j = omega arith in
      let e : (suc j + 1) - 1 ≡ j + 1 = omega arith in
      rw (d, e) (step j (omega arith) ∙ ap (λ t. t || any_under top (drop (j + 1) xs)) (le-ltb (get_or xs j 0) top h))

  pub under_nowhere : (i : ℕ) → length xs < i → any_under top (drop (i - 1) xs) ≡ false
  under_nowhere i h = ap (any_under top) (drop_all (i - 1) xs (omega arith))

-- A list of some size read in a ring: from a place on, and then from its front.
use Rattle.std.proofs.Common.{◌≡◌, ℕ, ◌+◌, ◌-◌, ◌<◌, ◌≤◌, ◌⊎◌, List, [], ◌∷◌, ◌++◌, length, get_or, take, drop, set, sym, ap, ◌∙◌, ⊎_elim, arith}
use Rattle.std.proofs.lemmas.List.{length-drop, length-take-le, length-append, append_assoc, append-nil, get_or_append_left, get_or-append_right, get_or-drop, get_or-take, drop-set, take-set, take_more, take_at, take_all, drop_all}

module _ (xs : List ℕ) (size : ℕ) (long : length xs ≡ size) where
  pub turn_near : (n i : ℕ) → n + i < size → get_or xs (n + i) 0 ≡ get_or (drop n xs ++ take n xs) i 0
  turn_near n i h =
      let l : i < length (drop n xs) = simp length-drop (omega arith) in
      sym (get_or_append_left (drop n xs) (take n xs) 0 i l ∙ get_or-drop n xs i 0)

  pub turn_far : (n i : ℕ) → n ≤ size → i < size → size ≤ n + i → get_or xs ((n + i) - size) 0 ≡ get_or (drop n xs ++ take n xs) i 0
  turn_far n i p q h =
      let l : length (drop n xs) ≡ size - n = length-drop n xs ∙ ap (λ t. t - n) long in
      let e : i - (size - n) ≡ (n + i) - size = omega arith in
      let b : i - (size - n) < n = omega arith in
      sym (get_or-append_right (drop n xs) (take n xs) (size - n) i 0 l (omega arith) ∙ get_or-take n xs (i - (size - n)) 0 b ∙ ap (λ t. get_or xs t 0) e)

  -- what stands at a is the oldest of what is read from a + 1 on
  turned : (a : ℕ) → a < size → drop (a + 1) xs ++ take a xs ≡ take (size - 1) (drop (a + 1) xs ++ take (a + 1) xs)
  turned a h =
      let w : a < length xs = omega arith in
      let y = get_or xs a 0 in
      let e : drop (a + 1) xs ++ take (a + 1) xs ≡ (drop (a + 1) xs ++ take a xs) ++ (y ∷ []) = ap (λ t. drop (a + 1) xs ++ t) (take_more xs a 0 w) ∙ sym (append_assoc (drop (a + 1) xs) (take a xs) (y ∷ [])) in
      let t : length (take a xs) ≡ a = length-take-le a xs (omega arith) in
      let l : length (drop (a + 1) xs ++ take a xs) ≡ size - 1 = simp (length-append, length-drop, t) (omega arith) in
      sym (ap (take (size - 1)) e ∙ take_at (drop (a + 1) xs ++ take a xs) (y ∷ []) (size - 1) l)

  -- at the end of the list the ring goes round
  round : drop size xs ++ take size xs ≡ drop 0 xs ++ take 0 xs
  round =
      let d : drop size xs ≡ [] = drop_all size xs (omega arith) in
      let t : take size xs ≡ xs = take_all size xs (omega arith) in
      ap (λ u. u ++ take size xs) d ∙ t ∙ sym (append-nil xs)

  -- a write at a, the place before n
  pub turn_push : (n a x : ℕ) → a < size → ((a + 1 ≡ n) ⊎ ((n ≡ 0) × (a + 1 ≡ size))) → drop a (set xs a x) ++ take a (set xs a x) ≡ x ∷ take (size - 1) (drop n xs ++ take n xs)
  turn_push n a x h before =
      let w : a < length xs = omega arith in
      let at : ℕ → List ℕ = λ i. drop i xs ++ take i xs in
      let same : at (a + 1) ≡ at n = ⊎_elim (λ e. ap at e) (λ e. ap at e.1 ∙ round ∙ ap at (sym e.0)) before in
      rw (drop-set xs a x w, take-set xs a x) (ap (λ t. x ∷ t) (turned a h ∙ ap (take (size - 1)) same))

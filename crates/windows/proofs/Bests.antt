-- The best way to cut a length, by the curve at every shorter one.
use Rattle.std.proofs.Common.{◌≡◌, ℕ, zero, suc, ◌+◌, ◌*◌, ◌<◌, ◌≤◌, max, ◌≢◌, ◌⊎◌, List, [], ◌∷◌, ◌++◌, reverse, length, get_or, take, set, sym, refl, ap, ◌∙◌, inl, inr, mul-le-mul, add-one, arith, below_more}
use Rattle.std.proofs.lemmas.List.{take_more, reverse-append, get_or-set_same, get_or-set_other, get_or-take, length-take, length-reverse}
use Rattle.std.proofs.lemmas.List.Elements.{All-from_get_or}
use Rattle.windows.specs.Curves.{InRange}
use Rattle.contract.specs.Meaning.{Meaning, Limits}
use Rattle.curve.specs.Curve.{best, curves, curve}
use Rattle.curve.proofs.Windows.{energy_past}
use Rattle.curve.proofs.Kept.{kept_curve}

none : (ns : List ℕ) → best ns [] ≡ 0
none [] = refl
none (n ∷ ns) = refl

-- parts longer than the whole do not count
pub best_whole : (ns cs : List ℕ) (k j : ℕ) → length cs ≤ k → k ≤ j → best (take k ns) cs ≡ best (take j ns) cs
best_whole ns [] k j h l = none (take k ns) ∙ sym (none (take j ns))
best_whole [] (c ∷ cs) k j h l = ap (λ (xs : List ℕ). best xs (c ∷ cs)) (empty k ∙ sym (empty j))
  where
    empty : (i : ℕ) → ◌≡◌ {A = List ℕ} (take i []) []
    empty zero = refl
    empty (suc i) = refl
best_whole (n ∷ ns) (c ∷ cs) zero j h l = absurd (omega arith)
best_whole (n ∷ ns) (c ∷ cs) (suc k) zero h l = absurd (omega arith)
best_whole (n ∷ ns) (c ∷ cs) (suc k) (suc j) h l = ap (λ (t : ℕ). max (n + c) t) (best_whole ns cs k j (omega arith) (omega arith))

whole_part : (ns cs : List ℕ) → max (get_or ns (length cs) 0) (best ns cs) ≡ best ns (cs ++ (0 ∷ []))
whole_part [] cs = refl
whole_part (n ∷ ns) [] = omega (arith, none ns)
whole_part (n ∷ ns) (c ∷ cs) = omega (arith, whole_part ns cs)

-- the whole as one part leaves nothing; the other cuts are still to be looked at
pub best_none : (ns cs rest before : List ℕ) (most : ℕ) → rest ≡ ns → before ≡ cs → most ≡ get_or ns (length cs) 0 → max most (best rest (reverse before)) ≡ best ns (reverse cs ++ (0 ∷ []))
best_none ns cs rest before most p q e =
    let same : best rest (reverse before) ≡ best ns (reverse cs) = ap (λ (t : List ℕ). best t (reverse before)) p ∙ ap (λ (t : List ℕ). best ns (reverse t)) q in
    let long : get_or ns (length (reverse cs)) 0 ≡ get_or ns (length cs) 0 = ap (λ (t : ℕ). get_or ns t 0) (length-reverse cs) in
    omega (arith, same, long, e, whole_part ns (reverse cs))

-- one more part is looked at: the front of what is left, and the last of what stands before it
pub best_more : (ns cs rest before : List ℕ) (n c most now all : ℕ) → ns ≡ n ∷ rest → cs ≡ before ++ (c ∷ []) → now ≡ max most (n + c) → max most (best ns (reverse cs)) ≡ all → max now (best rest (reverse before)) ≡ all
best_more ns cs rest before n c most now all p q is e =
    let front : best ns (reverse cs) ≡ max (n + c) (best rest (reverse before)) =
    ap (λ (t : List ℕ). best t (reverse cs)) p ∙ ap (λ (t : List ℕ). best (n ∷ rest) (reverse t)) q ∙ ap (best (n ∷ rest)) (reverse-append before (c ∷ [])) in
    omega (arith, is, e, front)

pub best_all : (ns cs : List ℕ) (most all : ℕ) → (length ns ≡ 0) ⊎ (length cs ≡ 0) → max most (best ns (reverse cs)) ≡ all → most ≡ all
best_all ns cs most all done e = omega (arith, e, left ns cs done)
  where
    left : (ns cs : List ℕ) → (length ns ≡ 0) ⊎ (length cs ≡ 0) → best ns (reverse cs) ≡ 0
    left [] cs done = refl
    left (n ∷ ns) [] done = refl
    left (n ∷ ns) (c ∷ cs) (inl e) = absurd (omega arith)
    left (n ∷ ns) (c ∷ cs) (inr e) = absurd (omega arith)

-- the curve at every shorter length, longest first, is what was written so far, and 0 at length 0
pub curves_written : (m : Meaning) (xs : List ℕ) (i : ℕ) → i ≤ length xs → ((k : ℕ) → k < i → get_or xs k 0 ≡ curve m (suc k)) → reverse (take i xs) ++ (0 ∷ []) ≡ curves m i
curves_written m xs zero h same = refl
curves_written m xs (suc i) h same =
    ap (λ (t : ℕ). reverse (take t xs) ++ (0 ∷ [])) (sym (add-one i))
    ∙ ap (λ (l : List ℕ). reverse l ++ (0 ∷ [])) (take_more xs i 0 h)
    ∙ ap (λ (l : List ℕ). l ++ (0 ∷ [])) (reverse-append (take i xs) (get_or xs i 0 ∷ []))
    ∙ ap (λ (l : List ℕ). get_or xs i 0 ∷ l) (curves_written m xs i (omega arith) (λ k l. same k (omega arith)))
    ∙ ap (λ (t : ℕ). t ∷ curves m i) (same i (omega arith))

-- no curve is above its length times the cap
curve_most : (m : Meaning) → Limits m → (L : ℕ) → curve m L ≤ L * m.«cap»
curve_most m s L = omega (arith, kept_curve m s.memory_least (λ k. s.need_most (suc k)) [] tt L, energy_past m.«cap» L)

curve_limit : (m : Meaning) → Limits m → (L : ℕ) → L ≤ 65535 → curve m L ≤ 1310700000
curve_limit m s L h =
    let p : L * m.«cap» ≤ 65535 * 20000 = mul-le-mul h s.cap_most in
    omega (arith, p, curve_most m s L)

module _ (m : Meaning) (s : Limits m) (xs : List ℕ) (i : ℕ) (same : (k : ℕ) → k < i → get_or xs k 0 ≡ curve m (suc k)) where
  -- what was written so far is in range
  pub written_low : i ≤ 65535 → InRange (take i xs)
  written_low few =
      All-from_get_or (λ (e : ℕ). e ≤ 1310700000) (take i xs) 0
      (λ k (h : k < length (take i xs)).
      let within : k < i = omega (arith, length-take {A = ℕ} i xs) in
      omega (arith, get_or-take {A = ℕ} i xs k 0 within, same k within, curve_limit m s (suc k) (omega arith)))

  -- the next entry is the curve at the next length
  pub written_more : (ns : List ℕ) (r : ℕ) → i < length xs → ns ≡ m.needs → r ≡ best ns (reverse (take i xs) ++ (0 ∷ [])) →
      (k : ℕ) → k < i + 1 → get_or (set xs i r) k 0 ≡ curve m (suc k)
  written_more ns r h read is =
      let next : r ≡ curve m (suc i) =
      is
      ∙ ap (best ns) (curves_written m xs i (omega arith) same)
      ∙ ap (λ (l : List ℕ). best l (curves m i)) read in
      below_more (λ k. get_or (set xs i r) k 0 ≡ curve m (suc k)) i
      (λ k (l : k < i). let ne : k ≢ i = omega arith in get_or-set_other xs i k r 0 ne ∙ same k l)
      (get_or-set_same xs i r 0 h ∙ next)

-- `curve` is the curve: the greatest sum of needs over all ways to split the length.
use Rattle.std.proofs.Common.{◌≡◌, ℕ, zero, suc, ◌+◌, ◌-◌, ◌<◌, ◌≤◌, ◌⊎◌, List, [], ◌∷◌, map, length, get_or, refl, ap, subst, inl, inr, zero-le, arith}
use native.Mathlib.Nat.{suc-sub-suc, sub-zero}
use Rattle.std.proofs.lemmas.Bool.{cases_lt}
use Rattle.contract.specs.Meaning.{Meaning, memory, need}
use Rattle.curve.specs.Curve.{Way, needs_of, IsCurve, best, curves, curve}
use Rattle.curve.proofs.Totals.{sum-cons}

-- each entry of the table is the curve at the length of what stands behind it
abbrev Right : Meaning → List ℕ → Type 0
Right m [] = Unit
Right m (c ∷ cs) = IsCurve m (length cs) c × Right m cs

right_at : (m : Meaning) (cs : List ℕ) (k : ℕ) → Right m cs → k < length cs → IsCurve m (length cs - suc k) (get_or cs k 0)
right_at m [] k right h = absurd (omega arith)
right_at m (c ∷ cs) zero right h = rw (suc-sub-suc, sub-zero) right.0
right_at m (c ∷ cs) (suc k) right h = rw suc-sub-suc (right_at m cs k right.1 (omega arith))

-- the best is one of the sums
abbrev Best : List ℕ → List ℕ → Type 0
Best ns cs = (k : ℕ) × (k < length ns) × (k < length cs) × (get_or ns k 0 + get_or cs k 0 ≡ best ns cs)

best_some : (ns cs : List ℕ) → 1 ≤ length ns → 1 ≤ length cs → Best ns cs
best_some [] cs hn hc = absurd (omega arith)
best_some (n ∷ ns) [] hn hc = absurd (omega arith)
best_some (n ∷ []) (c ∷ cs) hn hc = (0, omega arith, omega arith, omega arith)
best_some (n ∷ n₂ ∷ ns) (c ∷ []) hn hc = (0, omega arith, omega arith, omega arith)
best_some (n ∷ n₂ ∷ ns) (c ∷ c₂ ∷ cs) hn hc = pick (best_some (n₂ ∷ ns) (c₂ ∷ cs) (omega arith) (omega arith)) (cases_lt (n + c) (best (n₂ ∷ ns) (c₂ ∷ cs)))
  where
    pick : Best (n₂ ∷ ns) (c₂ ∷ cs) → (n + c < best (n₂ ∷ ns) (c₂ ∷ cs)) ⊎ (best (n₂ ∷ ns) (c₂ ∷ cs) ≤ n + c) → Best (n ∷ n₂ ∷ ns) (c ∷ c₂ ∷ cs)
    pick b (inl h) = (suc b.0, omega arith, omega arith, omega arith)
    pick b (inr h) = (0, omega arith, omega arith, omega arith)

-- and none is more
best_no_more : (ns cs : List ℕ) (k : ℕ) → k < length ns → k < length cs → get_or ns k 0 + get_or cs k 0 ≤ best ns cs
best_no_more [] cs k hn hc = absurd (omega arith)
best_no_more (n ∷ ns) [] k hn hc = absurd (omega arith)
best_no_more (n ∷ ns) (c ∷ cs) zero hn hc = omega arith
best_no_more (n ∷ ns) (c ∷ cs) (suc k) hn hc = omega (arith, best_no_more ns cs k (omega arith) (omega arith))

-- the table's next entry
module _ (m : Meaning) (some_need : 1 ≤ memory m) where
  next_some : (cs : List ℕ) → 1 ≤ length cs → Right m cs → (parts : List ℕ) × Way m (length cs) parts × (needs_of m parts ≡ best m.needs cs)
  next_some cs hc right =
      let b = best_some m.needs cs some_need hc in
      let rest = (right_at m cs b.0 right b.2).some_way in (
        suc b.0 ∷ rest.0,
        record { lengths = ((omega arith, b.1), rest.1.lengths); fills = omega (arith, rest.1.fills, b.2, sum-cons (suc b.0) rest.0) },
        omega (arith, rest.2, b.3, sum-cons (need m (suc b.0)) (map (need m) rest.0)),
      )

  next_no_more : (cs : List ℕ) → 1 ≤ length cs → Right m cs → (parts : List ℕ) → Way m (length cs) parts → needs_of m parts ≤ best m.needs cs
  next_no_more cs hc right [] way = zero-le
  next_no_more cs hc right (zero ∷ parts) way = absurd (omega (arith, way.lengths.0.0))
  next_no_more cs hc right (suc k ∷ parts) way =
      let within : k < length cs = omega (arith, way.fills, sum-cons (suc k) parts) in
      let rest = (right_at m cs k right within).no_more parts (record { lengths = way.lengths.1; fills = omega (arith, way.fills, sum-cons (suc k) parts) }) in
      omega (arith, rest, best_no_more m.needs cs k way.lengths.0.1 within, sum-cons (need m (suc k)) (map (need m) parts))

  none_no_more : (parts : List ℕ) → Way m 0 parts → needs_of m parts ≤ 0
  none_no_more [] way = zero-le
  none_no_more (k ∷ parts) way = absurd (omega (arith, way.lengths.0.0, way.fills, sum-cons k parts))

  table : (L : ℕ) → Right m (curves m L) × (length (curves m L) ≡ suc L)
  table zero = ((record { some_way = ([], record { lengths = tt; fills = refl }, refl); no_more = none_no_more }, tt), refl)
  table (suc L) =
      let before = table L in
      let some : 1 ≤ length (curves m L) = omega (arith, before.1) in
      ((record { some_way = next_some (curves m L) some before.0; no_more = next_no_more (curves m L) some before.0 }, before.0), ap suc before.1)

  pub curve_is : (L : ℕ) → IsCurve m L (curve m L)
  curve_is L =
      let t = table L in
      let e : length (curves m L) - 1 ≡ L = omega (arith, t.1) in
      subst (λ (n : ℕ). IsCurve m n (curve m L)) e (right_at m (curves m L) 0 t.0 (omega (arith, t.1)))

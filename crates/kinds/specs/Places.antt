-- A list that is read from place 1 on, with 0 outside it.
use Rattle.std.specs.Prelude.{◌≡◌, ℕ, zero, suc, ◌-◌, ◌*◌, ◌<◌, ◌≤◌, List, ◌∷◌, length, take, slice_index, slice_index_or}
use Rattle.std.proofs.Common.{sym, ◌∙◌, subst, ⊎_elim, arith}
use Rattle.std.proofs.lemmas.List.FromFn.{length-map-range_with_len, get_or-map-range_with_len}
use Rattle.std.proofs.lemmas.List.{get_or_past, get_or-take}
use Rattle.std.proofs.lemmas.Bool.{cases_lt}
use Rattle.kinds.specs.Kinds.{needs_by, switch_need}

place_in : (xs : List ℕ) (k : ℕ) → 1 ≤ k → slice_index (0 ∷ xs) k ≡ slice_index xs (k - 1)
place_in xs zero h = absurd (omega arith)
place_in xs (suc j) h = let d : suc j - 1 ≡ j = omega arith in rw d

pub place_zero : (xs : List ℕ) (k : ℕ) → k ≡ 0 → slice_index (0 ∷ xs) k ≡ 0
place_zero xs k e = rw e

pub place_past : (xs : List ℕ) (k : ℕ) → length xs < k → slice_index (0 ∷ xs) k ≡ 0
place_past xs k h = place_in xs k (omega arith) ∙ get_or_past xs (k - 1) 0 (omega arith)

pub place_front : (xs : List ℕ) (n k : ℕ) → 1 ≤ k → k ≤ n → slice_index (0 ∷ take n xs) k ≡ slice_index xs (k - 1)
place_front xs n k low high = place_in (take n xs) k low ∙ get_or-take n xs (k - 1) 0 (omega arith)

-- what holds of 0 and of each element holds at each place
pub place_all : (P : ℕ → ℕ → Type 0) (xs : List ℕ) → ((k : ℕ) → P k 0) → ((k : ℕ) → 1 ≤ k → k ≤ length xs → P k (slice_index xs (k - 1))) → (k : ℕ) → P k (slice_index (0 ∷ xs) k)
place_all P xs none each zero = none zero
place_all P xs none each (suc j) =
    let d : suc j - 1 ≡ j = omega arith in
    ⊎_elim
    (λ h. subst (λ i. P (suc j) (slice_index xs i)) d (each (suc j) (omega arith) (omega arith)))
    (λ h. subst (λ v. P (suc j) v) (sym (get_or_past xs j 0 h)) (none (suc j)))
    (cases_lt j (length xs))

module _ (f : ℕ → ℕ) (n : ℕ) where
  pub length-needs_by : length (needs_by f n) ≡ n
  length-needs_by = length-map-range_with_len f 1 n

  pub need_by : (k : ℕ) → 1 ≤ k → k ≤ n → slice_index (0 ∷ needs_by f n) k ≡ f k
  need_by k low high = place_in (needs_by f n) k low ∙ get_or-map-range_with_len f 1 n (k - 1) k 0 (omega arith) (omega arith)

  pub need_by_past : (k : ℕ) → n < k → slice_index (0 ∷ needs_by f n) k ≡ 0
  need_by_past k h = place_past (needs_by f n) k (simp length-needs_by h)

  pub need_by_most : (top : ℕ) → ((k : ℕ) → 1 ≤ k → k ≤ n → f k ≤ k * top) → (k : ℕ) → slice_index (0 ∷ needs_by f n) k ≤ k * top
  need_by_most top each =
      place_all (λ k v. v ≤ k * top) (needs_by f n) (λ k. omega arith)
      (λ k low high.
      let h : k ≤ n = omega (arith, length-needs_by) in
      let e : slice_index_or (needs_by f n) (k - 1) 0 ≡ f k = get_or-map-range_with_len f 1 n (k - 1) k 0 (omega arith) (omega arith) in
      rw e (each k low h))

-- a switch owes no window more than the cap in each slot
pub switch_need_most : (top allowance k : ℕ) → switch_need top allowance k ≤ k * top
switch_need_most top allowance k = omega arith

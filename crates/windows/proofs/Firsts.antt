-- The first level above the cap, by its place.
use Rattle.std.proofs.Common.{◌≡◌, ℕ, zero, suc, ◌+◌, ◌<◌, ◌≤◌, true, false, ltb, List, length, get_or, drop, Some, None, Option, refl, ap, ◌∙◌, ⊎_elim, add-one, arith}
use Rattle.std.specs.List.{position, position_or_len}
use Rattle.std.specs.Option.{option_map}
use Rattle.std.proofs.lemmas.List.Quantifiers.{position-Some}
use Rattle.std.proofs.lemmas.Bool.{cases_lt, lt-ltb}
use Rattle.std.proofs.lemmas.List.Sums.{fails_before_first}
use Rattle.windows.specs.declared.refusals.ListFault.TheVariants.{AboveCap}
use Rattle.windows.specs.Verdicts.{first_above}
use Rattle.contract.proofs.Scans.{fails_here, fails_later, fails_nowhere}

module _ (top : ℕ) (xs : List ℕ) where
  -- levels that are not above the cap are passed by
  passed_by : (n : ℕ) → n ≤ length xs → ((k : ℕ) → k < n → ltb top (get_or xs k 0) ≡ false) → first_above top 1 xs ≡ first_above top (n + 1) (drop n xs)
  passed_by zero h low = refl
  passed_by (suc n) h low =
      passed_by n (omega arith) (λ k l. low k (omega arith))
      ∙ fails_later (λ i x. ltb top x) AboveCap xs (n + 1) n h (low n (omega arith))
      ∙ ap (λ (t : ℕ). first_above top (t + 1) (drop t xs)) (add-one n)

  pub first_at : (i : ℕ) → i < length xs → ltb top (get_or xs i 0) ≡ true → ((k : ℕ) → k < i → ltb top (get_or xs k 0) ≡ false) → first_above top 1 xs ≡ Some (AboveCap (i + 1))
  first_at i h here low = passed_by i (omega arith) low ∙ fails_here (λ i x. ltb top x) AboveCap xs (i + 1) i h here

  pub first_nowhere : position (ltb top) xs ≡ None → first_above top 1 xs ≡ None
  first_nowhere none = passed_by (length xs) (omega arith) fails ∙ fails_nowhere (λ i x. ltb top x) AboveCap xs (length xs + 1) (length xs) (omega arith)
    where
      at : ℕ
      at = position_or_len (ltb top) xs

      fails : (k : ℕ) → k < length xs → ltb top (get_or xs k 0) ≡ false
      fails k h =
          ⊎_elim
          (λ (l : k < at). fails_before_first (ltb top) xs k 0 l)
          (λ (l : at ≤ k). let some : ltb at (length xs) ≡ true = lt-ltb at (length xs) (omega arith) in let e = rw some at none in cc)
          (cases_lt k at)

  -- the fault by its place
  pub first_of : first_above top 1 xs ≡ option_map (λ i. AboveCap (i + 1)) (position (ltb top) xs)
  first_of = by_place (position (ltb top) xs) refl
    where
      by_place : (o : Option ℕ) → position (ltb top) xs ≡ o → first_above top 1 xs ≡ option_map (λ i. AboveCap (i + 1)) o
      by_place None e = first_nowhere e
      by_place (Some i) e = let p = position-Some (ltb top) xs i 0 e in first_at i p.0 p.1 p.2

-- A forecast one slot longer, and what it leaves in the caller's list.
use Rattle.std.proofs.Common.{◌≡◌, ℕ, zero, suc, ◌+◌, ◌<◌, ◌≤◌, List, [], ◌∷◌, ◌++◌, length, get_or, take, drop, set, None, sum, Option, sym, refl, ap, ◌∙◌, add-one, arith}
use Rattle.std.proofs.lemmas.List.{append_assoc, append-nil, take_at, drop_at, set_at, drop_more, drop_all, length-append, length-drop}
use Rattle.std.proofs.lemmas.List.Sums.{sum_by_push}
use Rattle.std.proofs.lemmas.Bool.Decides.{nat_tests}
use Rattle.windows.specs.declared.refusals.ListFault.{ListFault}
use Rattle.contract.specs.Meaning.{Meaning, lowest, granted}
use Rattle.contract.specs.Faults.{unless_refused}
use Rattle.windows.specs.Forecasts.{forecast_levels, forecast_energy, forecast_refusal, list_after}

-- the contract after n of its lowest levels
abbrev pub ahead : Meaning → ℕ → Meaning
ahead m zero = m
ahead m (suc n) = granted (ahead m n) (lowest (ahead m n))

pub ahead_more : (m : Meaning) (n : ℕ) → ahead m (n + 1) ≡ granted (ahead m n) (lowest (ahead m n))
ahead_more m n = ap (ahead m) (add-one n)

ahead_front : (m : Meaning) (n : ℕ) → ahead (granted m (lowest m)) n ≡ ahead m (suc n)
ahead_front m zero = refl
ahead_front m (suc n) = ap (λ (t : Meaning). granted t (lowest t)) (ahead_front m n)

levels_push : (m : Meaning) (n : ℕ) → forecast_levels m (suc n) ≡ forecast_levels m n ++ (lowest (ahead m n) ∷ [])
levels_push m zero = refl
levels_push m (suc n) =
    ap (λ (xs : List ℕ). lowest m ∷ xs)
    (levels_push (granted m (lowest m)) n ∙ ap (λ (t : Meaning). forecast_levels (granted m (lowest m)) n ++ (lowest t ∷ [])) (ahead_front m n))

pub levels_count : (n : ℕ) (m : Meaning) → length (forecast_levels m n) ≡ n
levels_count zero m = refl
levels_count (suc n) m = ap suc (levels_count n (granted m (lowest m)))

module _ (m : Meaning) where
  levels_more : (n : ℕ) → forecast_levels m (n + 1) ≡ forecast_levels m n ++ (lowest (ahead m n) ∷ [])
  levels_more n = ap (forecast_levels m) (add-one n) ∙ levels_push m n

  pub energy_more : (n : ℕ) → forecast_energy m (n + 1) ≡ forecast_energy m n + lowest (ahead m n)
  energy_more n = ap sum (levels_more n) ∙ sum_by_push (λ x. x) (forecast_levels m n) (lowest (ahead m n))

  -- the next level is written behind the others
  pub write_more : (xs items : List ℕ) (n x : ℕ) → items ≡ forecast_levels m n ++ drop n xs → x ≡ lowest (ahead m n) → n < length items →
      set items n x ≡ forecast_levels m (n + 1) ++ drop (n + 1) xs
  write_more xs items n x are is h =
      let done = forecast_levels m n in
      let within : n < length xs = omega (arith, ap (λ (t : List ℕ). length t) are, length-append {A = ℕ} done (drop n xs), length-drop {A = ℕ} n xs, levels_count n m) in
      ap (λ (t : List ℕ). set t n x) are
      ∙ ap (λ (t : List ℕ). set (done ++ t) n x) (drop_more xs n 0 within)
      ∙ set_at done (get_or xs n 0) (drop (n + 1) xs) x n (levels_count n m)
      ∙ ap (λ (t : ℕ). done ++ (t ∷ drop (n + 1) xs)) is
      ∙ sym (append_assoc done (lowest (ahead m n) ∷ []) (drop (n + 1) xs))
      ∙ ap (λ (t : List ℕ). t ++ drop (n + 1) xs) (sym (levels_more n))

  -- all n are written
  pub write_all : (xs items : List ℕ) (n i : ℕ) → items ≡ forecast_levels m i ++ drop i xs → i ≡ n → length xs ≤ n → items ≡ forecast_levels m n
  write_all xs items n i are done few =
      are
      ∙ ap (λ (t : ℕ). forecast_levels m t ++ drop t xs) done
      ∙ ap (λ (t : List ℕ). forecast_levels m n ++ t) (drop_all n xs few)
      ∙ append-nil (forecast_levels m n)

pub forecast_taken : (n places : ℕ) → n ≤ 192 → n ≤ places → forecast_refusal n places ≡ None
forecast_taken n places few fits = grind (arith, nat_tests)

module _ (m : Meaning) (n : ℕ) (xs : List ℕ) (few : n ≤ 192) (fits : n ≤ length xs) where
  pub list_is : list_after m n xs ≡ forecast_levels m n ++ drop n xs
  list_is = ap (λ (o : Option ListFault). unless_refused o xs (forecast_levels m n ++ drop n xs)) (forecast_taken n (length xs) few fits)

  pub written_is : take n (list_after m n xs) ≡ forecast_levels m n
  written_is = ap (take n) list_is ∙ take_at (forecast_levels m n) (drop n xs) n (levels_count n m)

  pub others_kept : drop n (list_after m n xs) ≡ drop n xs
  others_kept = ap (drop n) list_is ∙ drop_at (forecast_levels m n) (drop n xs) n (levels_count n m)

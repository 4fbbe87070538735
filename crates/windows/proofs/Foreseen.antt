-- Every contract keeps what is promised of its forecasts.
use Rattle.std.proofs.Common.{◌≡◌, ℕ, zero, suc, ◌≤◌, List, [], ◌∷◌, length, take, sum, sym, refl, ap, subst, arith}
use Rattle.contract.specs.Meaning.{Meaning, lowest, granted}
use Rattle.curve.specs.Lawful.{Lawful}
use Rattle.curve.specs.Reached.{Standing, standing}
use Rattle.windows.specs.Forecasts.{forecast_levels, forecast_energy}
use Rattle.windows.specs.Planned.{Worst, Forecast, ContractPromise, Foreseen}
use Rattle.curve.proofs.Totals.{total, sum_total}
use Rattle.curve.proofs.Kept.{Stands}
use Rattle.curve.proofs.Places.{Stepwise}
use Rattle.curve.proofs.Dispatched.{Stays, reached_stays, level_then, here, there, promise}
use Rattle.windows.proofs.Ahead.{levels_count, forecast_taken, written_is, others_kept}
use Rattle.windows.proofs.Least.{delivers_least}

-- the lowest level over and over is a lawful list
levels_steps : (n : ℕ) (m : Meaning) (past : List ℕ) → Stands m past → Stepwise m past (forecast_levels m n)
levels_steps zero m past s = tt
levels_steps (suc n) m past s =
    let next = granted m (lowest m) in
    level_then m past s (lowest m) (omega arith) (omega arith) (forecast_levels next n) (levels_steps n next (lowest m ∷ past))

module _ (first : Meaning) (s : Standing) (st : Stays first s) where
  delivered : (n : ℕ) (ys : List ℕ) → length ys ≡ n → Lawful first s.history ys → (i : ℕ) → i ≤ n → sum (take i (forecast_levels s.meaning n)) ≤ sum (take i ys)
  delivered n ys count lawful i h =
      let levels = forecast_levels s.meaning in
      let least = delivers_least s.history s.meaning [] [] st.stands refl (λ j. omega arith) ys st.stands.kept (here first s st ys lawful) i (omega arith) in
      let same : total (take i (levels (length ys))) ≡ total (take i (levels n)) = ap (λ (k : ℕ). total (take i (levels k))) count in
      omega (arith, least, same, sum_total (take i (levels n)), sum_total (take i ys))

  worst : (n : ℕ) → Worst first s.history n (forecast_energy s.meaning n) (forecast_levels s.meaning n)
  worst n = record {
    count = levels_count n s.meaning;
    lawful = there first s st s.history (forecast_levels s.meaning n) (levels_steps n s.meaning s.history st.stands);
    energy_is = refl;
    least = delivered n;
  }

  forecasted : (n : ℕ) (xs : List ℕ) → n ≤ 192 → n ≤ length xs → Forecast first s n xs
  forecasted n xs few fits = record {
    not_refused = forecast_taken n (length xs) few fits;
    worst = subst (Worst first s.history n (forecast_energy s.meaning n)) (sym (written_is s.meaning n xs few fits)) (worst n);
    others_kept = others_kept s.meaning n xs few fits;
  }

pub contract_promise : ContractPromise
contract_promise first s r = record { dispatch = promise first s r; forecast = forecasted first s (reached_stays first s r) }

-- one forecast, by the energy that it gave and the list that it left
pub foreseen : (m : Meaning) (n e : ℕ) (list : List ℕ) → e ≡ forecast_energy m n → take n list ≡ forecast_levels m n → Foreseen m n e list
foreseen m n e list gave left first past r =
    let w = worst first (standing m past) (reached_stays first (standing m past) r) n in
    subst (λ (levels : List ℕ). Worst first past n e levels) (sym left) (subst (λ (t : ℕ). Worst first past n t (forecast_levels m n)) (sym gave) w)

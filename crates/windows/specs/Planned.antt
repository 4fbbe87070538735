-- What is promised to whoever plans by a forecast, beside what the dispatcher is promised.
use Rattle.std.specs.Prelude.{◌≡◌, ℕ, ◌≤◌, List, length, take, drop, None, sum}
use Rattle.contract.specs.Meaning.{Meaning}
use Rattle.curve.specs.Lawful.{Lawful}
use Rattle.curve.specs.Reached.{Standing, standing, Reached}
use Rattle.curve.specs.Promise.{Dispatch}
use Rattle.windows.specs.Forecasts.{forecast_energy, forecast_refusal, list_after}

-- What n levels and their energy e tell him who plans, of a contract that was new as `first` and has granted the
-- past since: they are the worst that can still come.
pub record Worst (first : Meaning) (past : List ℕ) (n e : ℕ) (levels : List ℕ) : Type 0 where
  pub count : length levels ≡ n
  -- they may come
  pub lawful : Lawful first past levels
  pub energy_is : e ≡ sum levels
  -- after each slot every other lawful list of n levels has delivered at least as much
  pub least : (ys : List ℕ) → length ys ≡ n → Lawful first past ys → (i : ℕ) → i ≤ n → sum (take i levels) ≤ sum (take i ys)

-- What a forecast of n slots into the list xs gives at s.
pub record Forecast (first : Meaning) (s : Standing) (n : ℕ) (xs : List ℕ) : Type 0 where
  pub not_refused : forecast_refusal n (length xs) ≡ None
  -- the first n places hold the worst, and the others what they held
  pub worst : Worst first s.history n (forecast_energy s.meaning n) (take n (list_after s.meaning n xs))
  pub others_kept : drop n (list_after s.meaning n xs) ≡ drop n xs

-- Both promises of a contract that was new as `first` and that calls have brought to s.
pub record Holds (first : Meaning) (s : Standing) : Type 0 where
  pub dispatch : Dispatch first s
  pub forecast : (n : ℕ) (xs : List ℕ) → n ≤ 192 → n ≤ length xs → Forecast first s n xs

abbrev pub ContractPromise : Type 0
ContractPromise = (first : Meaning) (s : Standing) → Reached first s → Holds first s

-- One forecast of n slots that gave the energy e and left the list, by what the contract meant: for whatever new
-- contract and history led to it, the first n places are the worst that can still come.
abbrev pub Foreseen : Meaning → ℕ → ℕ → List ℕ → Type 0
Foreseen m n e list = (first : Meaning) (past : List ℕ) → Reached first (standing m past) → Worst first past n e (take n list)

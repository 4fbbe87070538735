-- What a contract forecasts: the worst that can still come.
use Rattle.std.specs.Prelude.{ℕ, zero, suc, ◌||◌, List, [], ◌∷◌, ◌++◌, length, drop, None, sum, Option, nat_lt}
use Rattle.windows.specs.declared.refusals.ListFault.{ListFault}
use Rattle.windows.specs.declared.refusals.ListFault.TheVariants.{TooFar}
use Rattle.contract.specs.Meaning.{Meaning, lowest, granted}
use Rattle.contract.specs.Faults.{refuse_if, unless_refused}

-- the levels of the next n slots if each is granted the lowest
abbrev pub forecast_levels : Meaning → ℕ → List ℕ
forecast_levels m zero = []
forecast_levels m (suc n) = lowest m ∷ forecast_levels (granted m (lowest m)) n

abbrev pub forecast_energy : Meaning → ℕ → ℕ
forecast_energy m n = sum (forecast_levels m n)

-- a forecast of n slots into a list of so many places is refused over 192, and where the list is shorter
abbrev pub forecast_refusal : ℕ → ℕ → Option ListFault
forecast_refusal n places = refuse_if (nat_lt 192 n || nat_lt places n) TooFar None

-- what the caller's list holds after a forecast of n slots: the levels in its first n places, and the rest as it was
abbrev pub list_after : Meaning → ℕ → List ℕ → List ℕ
list_after m n xs = unless_refused (forecast_refusal n (length xs)) xs (forecast_levels m n ++ drop n xs)

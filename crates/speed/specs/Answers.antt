-- What the benchmark's calls answer, in numbers alone.
use Rattle.std.specs.Prelude.{◌≡◌, ℕ, Bool, true, false, ◌||◌, List, length, ℤ, pos, Some, None, Option}
use Rattle.contract.specs.Faults.{grant_refusal}
use Rattle.contract.specs.Meaning.{Meaning}
use Rattle.windows.specs.Forecasts.{forecast_refusal}
use Rattle.windows.specs.Verdicts.{Tells, verdict_refusal}
use Rattle.windows.specs.declared.verdicts.Tightest.{Tightest}
use Rattle.evening.specs.Agreed.{agreed, terms_refusal}
use Rattle.evening.specs.declared.terms.Terms.{Terms}

abbrev pub terms : ℕ → ℕ → ℕ → ℕ → Terms
terms top memory allowance floor = record { «cap» = top; memory = memory; allowance = allowance; floor = floor }

-- whether there is a reason
abbrev pub refused : {X : Type 0} → Option X → Bool
refused None = false
refused (Some c) = true

-- a contract is made, grants one level, and forecasts: whether one of the calls refuses
abbrev pub plan_refused : Terms → ℕ → ℕ → ℕ → Bool
plan_refused t level slots places = refused (terms_refusal t) || (refused (grant_refusal (agreed t) level) || refused (forecast_refusal slots places))

-- a contract is made and judges a record
abbrev pub audit_refused : Terms → List ℕ → Bool
audit_refused t xs = refused (terms_refusal t) || refused (verdict_refusal (agreed t) xs)

-- 0 where no margin is told
abbrev pub margin_or_0 : Option Tightest → ℤ
margin_or_0 None = pos 0
margin_or_0 (Some t) = t.margin

-- the least margin of the record, and 0 after a refusal
abbrev pub LeastMargin : Bool → Meaning → List ℕ → ℤ → Type 0
LeastMargin false m xs z = (o : Option Tightest) × Tells m xs (length xs) o × (z ≡ margin_or_0 o)
LeastMargin true m xs z = z ≡ pos 0

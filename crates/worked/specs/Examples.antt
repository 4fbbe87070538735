-- Forecasts and verdicts worked by hand, on the switch with cap 100, memory 4 and allowance 100.
use Rattle.std.specs.Prelude.{◌≡◌, ℕ, List, [], ◌∷◌, negsuc, Some, None, Ok, Err, Option, Result}
use Rattle.contract.specs.Meaning.{granted}
use Rattle.curve.specs.Worked.{hand_switch}
use Rattle.windows.specs.Forecasts.{forecast_levels, forecast_energy}
use Rattle.windows.specs.Verdicts.{Judges}
use Rattle.windows.specs.declared.verdicts.Verdict.{Verdict}
use Rattle.windows.specs.declared.verdicts.Verdict.TheVariants.{Broken}

-- broken by 30, in the window of 2 slots that ends in slot 2
abbrev pub hand_verdict : Verdict
hand_verdict = Broken (record { margin = negsuc 29; end = 2; length = 2 })

-- what an auditor and a planner were told: a verdict, levels, and their energy; nothing if a call was refused
abbrev pub answered : {X : Type 0} → Result (Verdict × List ℕ × ℕ) X → Option (Verdict × List ℕ × ℕ)
answered (Ok p) = Some p
answered (Err f) = None

abbrev Is : ℕ → ℕ → Type 0
Is a b = a ≡ b

pub record Worked : Type 0 where
  -- after 40 the worst that can still come is 60 and then 100
  pub forecast_40 : ◌≡◌ {A = List ℕ} (forecast_levels (granted hand_switch 40) 2) (60 ∷ 100 ∷ [])
  pub energy_40 : Is (forecast_energy (granted hand_switch 40) 2) 160
  -- a record that gives 40, 30 and 100 lacks 30 in the two slots that end in slot 2
  pub record_judged : Judges hand_switch (40 ∷ 30 ∷ 100 ∷ []) hand_verdict

-- Contracts worked by hand.
use Rattle.std.specs.Prelude.{◌≡◌, ℕ, List, [], ◌∷◌, Some, None, Ok, Err, Option, Result}
use Rattle.contract.specs.declared.faults.Code.{Code}
use Rattle.contract.specs.declared.faults.Fault.{Fault}
use Rattle.contract.specs.Meaning.{Meaning, New, need, lowest, granted}
use Rattle.contract.specs.Faults.{refusal, contract_fault, grant_refusal}
use Rattle.kinds.specs.Kinds.{new_switch, new_table}
use Rattle.layers.specs.Layers.{floored}
use Rattle.curve.specs.Curve.{IsCurve}
use Rattle.curve.specs.Reached.{standing, Reached}

-- the switch: cap 100, memory 4, allowance 100
abbrev pub hand_switch : Meaning
hand_switch = new_switch 100 4 100

-- a floor of 20 over the switch with cap 100, memory 4 and allowance 80
abbrev pub hand_floor : Meaning
hand_floor = floored (new_switch 100 4 80) 20

-- the table 4, 5 under the cap 10
abbrev pub hand_table : Meaning
hand_table = new_table 10 (4 ∷ 5 ∷ [])

-- what an evening told: its lowest levels and what its refused request was answered; nothing if it broke off
abbrev pub told : {X : Type 0} → Result (List ℕ × Result X Fault) Fault → Option (List ℕ × Option Code)
told (Ok p) = Some (p.0, refusal p.1)
told (Err f) = None

abbrev Is : ℕ → ℕ → Type 0
Is a b = a ≡ b

pub record Worked : Type 0 where
  pub switch_needs : ◌≡◌ {A = List ℕ} hand_switch.needs (0 ∷ 100 ∷ 200 ∷ 300 ∷ [])
  pub switch_5 : IsCurve hand_switch 5 300
  pub switch_6 : IsCurve hand_switch 6 400
  pub floor_need_2 : Is (need hand_floor 2) 120
  pub floor_need_4 : Is (need hand_floor 4) 320
  pub floor_5 : IsCurve hand_floor 5 340
  pub table_2 : IsCurve hand_table 2 8
  pub table_3 : IsCurve hand_table 3 12
  -- the switch owes nothing when new, and 60 after 40: 59 is refused and 60 granted, and then it owes 100
  pub lowest_new : Is (lowest hand_switch) 0
  pub lowest_40 : Is (lowest (granted hand_switch 40)) 60
  pub refused_59 : ◌≡◌ {A = Option Code} (grant_refusal (granted hand_switch 40) 59) (Some (contract_fault 8 60))
  pub granted_60 : ◌≡◌ {A = Option Code} (grant_refusal (granted hand_switch 40) 60) None
  pub lowest_60 : Is (lowest (granted (granted hand_switch 40) 60)) 100
  -- so the promise speaks of this evening: the switch is new, and the calls lead to the history 40, 60
  pub switch_new : New hand_switch
  pub evening : Reached hand_switch (standing (granted (granted hand_switch 40) 60) (60 ∷ 40 ∷ []))

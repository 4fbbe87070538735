-- What the dispatcher is promised of every contract, over every sequence of calls.
use Rattle.std.specs.Prelude.{◌≡◌, ℕ, ◌-◌, ◌≤◌, ◌↔◌, List, [], ◌∷◌, ◌++◌, reverse, length, take, replicate, None, Option}
use Rattle.contract.specs.declared.faults.Code.{Code}
use Rattle.contract.specs.Meaning.{Meaning, memory, lowest}
use Rattle.contract.specs.Faults.{Refused, grant_refusal, unless_refused}
use Rattle.curve.specs.Curve.{IsCurve, curve}
use Rattle.curve.specs.Lawful.{Lawful}
use Rattle.curve.specs.Reached.{Standing, standing, Reached}

-- What an answer tells him who asked for the level y, of a contract that was new as `first` and has granted
-- the past since.
pub record Told (first : Meaning) (past : List ℕ) (y : ℕ) (answer : Option Code) : Type 0 where
  -- within the cap, it is turned down exactly where no lawful list could begin with it
  pub turned_down_if : y ≤ first.«cap» → Refused answer ↔ ((ys : List ℕ) → Lawful first past (y ∷ ys) → ⊥)
  -- it is granted exactly where lawful lists of every length, from one on, begin with it
  pub granted_if : (answer ≡ None) ↔ ((n : ℕ) → 1 ≤ n → (ys : List ℕ) × (length (y ∷ ys) ≡ n) × Lawful first past (y ∷ ys))

-- What holds of a contract that was new as `first` and that calls have brought to s.
pub record Dispatch (first : Meaning) (s : Standing) : Type 0 where
  -- what is computed as the curve is the curve
  pub curve_is : (L : ℕ) → IsCurve first L (curve first L)
  -- cap and needs are still those of the new contract
  pub same_cap : s.meaning.«cap» ≡ first.«cap»
  pub same_needs : s.meaning.needs ≡ first.needs
  -- the history, oldest first, is a lawful list on the new contract
  pub history_lawful : Lawful first [] (reverse s.history)
  -- the recall is the newest of the history, and the cap where the history ends
  pub recalls : s.meaning.recall ≡ take (memory first - 1) (s.history ++ replicate (memory first - 1) first.«cap»)
  -- lowest is the least level with which a lawful list begins; with each from there up to the cap one does
  pub allowed : (y : ℕ) → ((ys : List ℕ) × Lawful first s.history (y ∷ ys)) ↔ ((lowest s.meaning ≤ y) × (y ≤ first.«cap»))
  -- whatever level is asked for next
  pub told : (y : ℕ) → Told first s.history y (grant_refusal s.meaning y)
  -- the cap is never turned down
  pub cap_granted : grant_refusal s.meaning first.«cap» ≡ None

-- every contract that is reached
abbrev pub DispatchPromise : Type 0
DispatchPromise = (first : Meaning) (s : Standing) → Reached first s → Dispatch first s

-- One call that asked for the level y, by what the contract meant before it and means after it: for whatever
-- new contract and history led to it, the answer tells the truth, and the contract is reached again, with the
-- level in its history unless it was refused.
pub record Asked (m n : Meaning) (y : ℕ) (answer : Option Code) : Type 0 where
  pub told : (first : Meaning) (past : List ℕ) → Reached first (standing m past) → Told first past y answer
  pub reached : (first : Meaning) (past : List ℕ) → Reached first (standing m past) → Reached first (standing n (unless_refused answer past (y ∷ past)))

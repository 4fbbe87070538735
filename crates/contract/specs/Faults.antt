-- How each fault is shown, and what a grant refuses.
use Rattle.std.specs.Prelude.{ℕ, Bool, cond, Some, None, Ok, Err, Option, Result, nat_lt}
use Rattle.contract.specs.declared.faults.Code.{Code}
use Rattle.contract.specs.declared.faults.Fault.{Fault}
use Rattle.contract.specs.declared.faults.Fault.TheVariants.{Unreadable, Cap, Memory, OwnNeed, Allowance, Floor, NotNew, AboveCap, BelowLowest}
use Rattle.contract.specs.declared.faults.Layer.TheVariants.{Text, Contract}
use Rattle.contract.specs.Meaning.{Meaning, lowest}

abbrev pub text_fault : ℕ → Code
text_fault n = record { layer = Text; number = n; detail = 0 }

abbrev pub contract_fault : ℕ → ℕ → Code
contract_fault n d = record { layer = Contract; number = n; detail = d }

abbrev pub code : Fault → Code
code Unreadable = text_fault 1
code Cap = contract_fault 3 0
code Memory = contract_fault 4 0
code (OwnNeed k) = contract_fault 5 k
code Allowance = contract_fault 5 0
code Floor = contract_fault 5 0
code NotNew = contract_fault 6 0
code AboveCap = contract_fault 7 0
code (BelowLowest x) = contract_fault 8 x

-- how a call answered: nothing where it was not refused, else what its fault is shown as
abbrev pub refusal : {X : Type 0} → Result X Fault → Option Code
refusal (Ok x) = None
refusal (Err f) = Some (code f)

-- an answer that is a refusal
abbrev pub Refused : {F : Type 0} → Option F → Type 0
Refused None = ⊥
Refused (Some c) = Unit

-- a check: it refuses if the test is true, and else the rest decides
abbrev pub refuse_if : {F : Type 0} → Bool → F → Option F → Option F
refuse_if bad c rest = cond bad (Some c) rest

-- the first refusal of two
abbrev pub or_else : {F : Type 0} → Option F → Option F → Option F
or_else None rest = rest
or_else (Some c) rest = Some c

-- what is held after a call: the old value if it was refused
abbrev pub unless_refused : {F X : Type 0} → Option F → X → X → X
unless_refused None old new = new
unless_refused (Some c) old new = old

-- a grant of x: first a level above the cap is refused, then one below the lowest, and nothing else
abbrev pub grant_refusal : Meaning → ℕ → Option Code
grant_refusal m x = refuse_if (nat_lt m.«cap» x) (contract_fault 7 0) (refuse_if (nat_lt x (lowest m)) (contract_fault 8 (lowest m)) None)

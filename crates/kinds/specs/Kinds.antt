-- What a switch and a table mean when new, and what their making refuses.
use Rattle.std.specs.Prelude.{ℕ, ◌-◌, ◌*◌, Bool, ◌||◌, List, map, length, replicate, None, Option, nat_lt}
use Rattle.std.specs.List.{range_with_len}
use Rattle.contract.specs.declared.faults.Code.{Code}
use Rattle.contract.specs.declared.faults.Fault.{Fault}
use Rattle.contract.specs.declared.faults.Fault.TheVariants.{Unreadable, Cap, Memory, OwnNeed, Allowance, Floor, NotNew, AboveCap, BelowLowest}
use Rattle.contract.specs.Meaning.{Meaning}
use Rattle.contract.specs.Faults.{contract_fault, refuse_if, or_else}
use Rattle.contract.specs.Scans.{first_failing}

-- the needs f 1 to f n
abbrev pub needs_by : (ℕ → ℕ) → ℕ → List ℕ
needs_by f n = map f (range_with_len 1 n)

-- a number that is not low to high
abbrev pub outside : ℕ → ℕ → ℕ → Bool
outside low high x = nat_lt x low || nat_lt high x

-- a contract before its first grant: every slot before it counts as granted at the cap
abbrev pub begun : ℕ → ℕ → List ℕ → Meaning
begun top memory needs = record { «cap» = top; needs = needs; recall = replicate (memory - 1) top }

-- a cap or a memory outside its limits
abbrev pub sizes_refusal : ℕ → ℕ → Option Code
sizes_refusal top memory = refuse_if (outside 1 20000 top) (contract_fault 3 0) (refuse_if (outside 1 96 memory) (contract_fault 4 0) None)

-- the switch: k times the cap, less the allowance
abbrev pub switch_need : ℕ → ℕ → ℕ → ℕ
switch_need top allowance k = k * top - allowance

abbrev pub new_switch : ℕ → ℕ → ℕ → Meaning
new_switch top memory allowance = begun top memory (needs_by (switch_need top allowance) memory)

abbrev pub switch_refusal : ℕ → ℕ → ℕ → Option Code
switch_refusal top memory allowance =
    or_else (sizes_refusal top memory) (refuse_if (nat_lt (memory * top) allowance) (contract_fault 5 0) None)

-- why a making of a switch is refused: an allowance and a floor that are too great show the same code
abbrev pub SwitchFault : Fault → Type 0
SwitchFault Cap = Unit
SwitchFault Memory = Unit
SwitchFault Allowance = Unit
SwitchFault Unreadable = ⊥
SwitchFault (OwnNeed k) = ⊥
SwitchFault Floor = ⊥
SwitchFault NotNew = ⊥
SwitchFault AboveCap = ⊥
SwitchFault (BelowLowest x) = ⊥

-- the table: its needs as they are given
abbrev pub new_table : ℕ → List ℕ → Meaning
new_table top needs = begun top (length needs) needs

-- the first need, from length k on, that is above its length times the cap
abbrev pub too_great : ℕ → ℕ → List ℕ → Option Code
too_great top = first_failing (λ k x. nat_lt (k * top) x) (contract_fault 5)

abbrev pub needs_refusal : ℕ → List ℕ → Option Code
needs_refusal top needs =
    or_else (sizes_refusal top (length needs)) (too_great top 1 needs)

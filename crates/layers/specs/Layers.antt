-- Layers: they share cap, memory and recall with what they lie over, and owe no less.
use Rattle.std.specs.Prelude.{◌≡◌, ℕ, ◌*◌, min, max, Bool, ◌||◌, List, ◌∷◌, length, Some, None, Ok, Err, Option, Result, nat_lt, slice_index}
use Rattle.std.specs.List.{list_any}
use Rattle.contract.specs.declared.faults.Code.{Code}
use Rattle.contract.specs.declared.faults.Fault.{Fault}
use Rattle.contract.specs.declared.faults.Fault.TheVariants.{Unreadable, Cap, Memory, OwnNeed, Allowance, Floor, NotNew, AboveCap, BelowLowest}
use Rattle.contract.specs.Meaning.{Meaning, memory, need}
use Rattle.contract.specs.Faults.{code, contract_fault, refuse_if, or_else}
use Rattle.kinds.specs.Kinds.{needs_by, outside, too_great}
use Rattle.layers.specs.declared.over.Returned.{Returned}

-- the need of each length is the greater of that below and f's
abbrev pub layered : Meaning → (ℕ → ℕ) → Meaning
layered m f = record { «cap» = m.«cap»; needs = needs_by (λ k. max (need m k) (f k)) (memory m); recall = m.recall }

-- the floor: so much for each slot, and never more than the cap
abbrev pub floor_need : ℕ → ℕ → ℕ → ℕ
floor_need top f k = k * min f top

abbrev pub floored : Meaning → ℕ → Meaning
floored m f = layered m (floor_need m.«cap» f)

-- the extra: its own need, nothing for a length that it has none for, and never more than the cap in each slot
abbrev pub extra_need : ℕ → List ℕ → ℕ → ℕ
extra_need top own k = min (slice_index (0 ∷ own) k) (k * top)

abbrev pub extended : Meaning → List ℕ → Meaning
extended m own = layered m (extra_need m.«cap» own)

-- whether a level is under top
abbrev pub any_under : ℕ → List ℕ → Bool
any_under top = list_any (λ x. nat_lt x top)

-- a contract that recalls a level under the cap takes no layer
abbrev pub recalled_refusal : Meaning → Option Code
recalled_refusal m = refuse_if (any_under m.«cap» m.recall) (contract_fault 6 0) None

abbrev pub floor_refusal : Meaning → ℕ → Option Code
floor_refusal m f = refuse_if (nat_lt m.«cap» f) (contract_fault 5 0) (recalled_refusal m)

-- why a floor is refused: an allowance that is too great shows the same code
abbrev pub FloorFault : Fault → Type 0
FloorFault Floor = Unit
FloorFault NotNew = Unit
FloorFault Unreadable = ⊥
FloorFault Cap = ⊥
FloorFault Memory = ⊥
FloorFault (OwnNeed k) = ⊥
FloorFault Allowance = ⊥
FloorFault AboveCap = ⊥
FloorFault (BelowLowest x) = ⊥

abbrev pub extra_refusal : Meaning → List ℕ → Option Code
extra_refusal m own =
    refuse_if (outside 1 96 (length own) || nat_lt (memory m) (length own)) (contract_fault 4 0)
    (or_else (too_great m.«cap» 1 own) (recalled_refusal m))

-- a laying is refused exactly as told
abbrev pub Answers : {X C : Type 0} → Result X (Returned C) → Option Code → Type 0
Answers (Ok x) told = told ≡ None
Answers (Err e) told = told ≡ Some (code e.fault)

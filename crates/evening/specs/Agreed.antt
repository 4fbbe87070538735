-- The contract that an evening is held on.
use Rattle.std.specs.Prelude.{Option}
use Rattle.contract.specs.declared.faults.Code.{Code}
use Rattle.contract.specs.Faults.{or_else}
use Rattle.contract.specs.Meaning.{Meaning}
use Rattle.kinds.specs.Kinds.{new_switch, switch_refusal}
use Rattle.layers.specs.Layers.{floored, floor_refusal}
use Rattle.evening.specs.declared.terms.Terms.{Terms}

-- a floor over a switch, both new
abbrev pub agreed : Terms → Meaning
agreed t = floored (new_switch t.«cap» t.memory t.allowance) t.floor

-- first the switch may refuse, then the floor
abbrev pub terms_refusal : Terms → Option Code
terms_refusal t = or_else (switch_refusal t.«cap» t.memory t.allowance) (floor_refusal (new_switch t.«cap» t.memory t.allowance) t.floor)

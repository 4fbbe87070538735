-- What a switch means.
use Rattle.std.specs.Prelude.{◌-◌, take}
use Rattle.contract.specs.Meaning.{Meaning}
use Rattle.kinds.specs.declared.switches.Switch.{Switch}
use Rattle.kinds.specs.Rings.{recent}
use Rattle.kinds.specs.Kinds.{needs_by, switch_need}

abbrev pub switch_meaning : Switch → Meaning
switch_meaning s = record { «cap» = s.«cap»; needs = needs_by (switch_need s.«cap» s.allowance) s.memory; recall = take (s.memory - 1) (recent s.ring) }

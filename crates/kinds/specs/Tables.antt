-- What a table means.
use Rattle.std.specs.Prelude.{◌-◌, length, take}
use Rattle.contract.specs.Meaning.{Meaning}
use Rattle.kinds.specs.declared.tables.Table.{Table}
use Rattle.kinds.specs.Listed.{listed}
use Rattle.kinds.specs.Rings.{recent}

abbrev pub table_meaning : Table → Meaning
table_meaning s = record { «cap» = s.«cap»; needs = listed s.needs; recall = take (length (listed s.needs) - 1) (recent s.ring) }

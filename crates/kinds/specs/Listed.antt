-- Needs that are held in an array.
use Rattle.std.specs.Prelude.{ℕ, List, take}
use Rattle.kinds.specs.declared.needs.Needs.{Needs}

-- the needs from length 1 on
abbrev pub listed : Needs → List ℕ
listed n = take n.count n.each

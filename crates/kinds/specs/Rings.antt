-- The levels of a ring in their order.
use Rattle.std.specs.Prelude.{◌≡◌, ℕ, ◌<◌, ◌≤◌, List, ◌++◌, length, take, drop, slice_index}
use Rattle.kinds.specs.declared.rings.Ring.{Ring}

-- newest first
abbrev pub recent : Ring → List ℕ
recent r = drop r.newest r.levels ++ take r.newest r.levels

-- what holds of the ring of a contract: 96 levels, none above the cap
abbrev pub Held : ℕ → Ring → Type 0
Held top r = (r.newest < 96) × (length (recent r) ≡ 96) × ((k : ℕ) → slice_index (recent r) k ≤ top)

-- What a contract means: its cap, its needs and the levels that it recalls.
use Rattle.std.specs.Prelude.{◌≡◌, ℕ, zero, suc, ◌-◌, ◌*◌, ◌≤◌, min, max, List, ◌∷◌, length, take, replicate, sum, slice_index}

pub record Meaning : Type 0 where
  -- the most energy that one slot may be granted
  pub «cap» : ℕ
  -- the energy that every window of a length is owed, from length 1 on
  pub needs : List ℕ
  -- the granted levels that still count, newest first
  pub recall : List ℕ

-- the greatest length that has a need
abbrev pub memory : Meaning → ℕ
memory m = length m.needs

-- the need of windows of k slots, 0 outside 1 to the memory
abbrev pub need : Meaning → ℕ → ℕ
need m k = slice_index (0 ∷ m.needs) k

-- the level granted i slots back, 0 outside 1 to the memory less one
abbrev pub back : Meaning → ℕ → ℕ
back m i = slice_index (0 ∷ m.recall) i

-- what holds of every contract at any time
pub record Limits (m : Meaning) : Type 0 where
  pub cap_least : 1 ≤ m.«cap»
  pub cap_most : m.«cap» ≤ 20000
  pub memory_least : 1 ≤ memory m
  pub memory_most : memory m ≤ 96
  pub need_most : (k : ℕ) → need m k ≤ k * m.«cap»
  pub recall_length : length m.recall ≡ memory m - 1
  pub recall_most : (i : ℕ) → back m i ≤ m.«cap»

-- a new contract: every slot before it counts as granted at the cap
pub record New (m : Meaning) : Type 0 where
  pub limits : Limits m
  pub unused : m.recall ≡ replicate (memory m - 1) m.«cap»

-- the greatest of 0 and f 1 to f n
abbrev pub greatest : (ℕ → ℕ) → ℕ → ℕ
greatest f zero = 0
greatest f (suc n) = max (greatest f n) (f (suc n))

-- the n newest recalled levels added up
abbrev pub newest : Meaning → ℕ → ℕ
newest m n = sum (take n m.recall)

-- what the next slot owes to the window of k slots that ends in it
abbrev pub owed : Meaning → ℕ → ℕ
owed m k = need m k - newest m (k - 1)

-- the least level that may be granted next
abbrev pub lowest : Meaning → ℕ
lowest m = min m.«cap» (greatest (owed m) (memory m))

-- a level is granted: it becomes the newest, and the oldest is forgotten
abbrev pub granted : Meaning → ℕ → Meaning
granted m x = record { «cap» = m.«cap»; needs = m.needs; recall = take (memory m - 1) (x ∷ m.recall) }

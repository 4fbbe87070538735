-- Verdicts: the least margin of a record that is begun on a new contract.
use Rattle.std.specs.Prelude.{◌≡◌, ℕ, ◌<◌, ◌≤◌, ◌↔◌, List, [], reverse, length, take, ℤ, pos, ◌-ℤ◌, ◌≤ℤ◌, ◌<ℤ◌, Some, None, Option, nat_lt}
use Rattle.windows.specs.declared.refusals.ListFault.{ListFault}
use Rattle.windows.specs.declared.refusals.ListFault.TheVariants.{AboveCap, TooLong}
use Rattle.contract.specs.Meaning.{Meaning, memory, need}
use Rattle.contract.specs.Faults.{refuse_if, or_else}
use Rattle.contract.specs.Scans.{first_failing}
use Rattle.curve.specs.Lawful.{energy, Lawful}
use Rattle.windows.specs.declared.verdicts.Tightest.{Tightest}
use Rattle.windows.specs.declared.verdicts.Verdict.{Verdict}
use Rattle.windows.specs.declared.verdicts.Verdict.TheVariants.{Kept, Broken}

-- the window of k slots that ends in slot e of the record: its energy minus the need of its length. Slots before the
-- record count as granted at the cap
abbrev pub margin : Meaning → List ℕ → ℕ → ℕ → ℤ
margin m xs e k = pos (energy m.«cap» (reverse (take e xs)) k) -ℤ pos (need m k)

-- t is the tightest of the windows of 1 slot to as many as the memory that end in slots 1 to n of the record
pub record IsTightest (m : Meaning) (xs : List ℕ) (n : ℕ) (t : Tightest) : Type 0 where
  pub end_least : 1 ≤ t.end
  pub end_most : t.end ≤ n
  pub length_least : 1 ≤ t.length
  pub length_most : t.length ≤ memory m
  pub value : t.margin ≡ margin m xs t.end t.length
  -- no window has a lower margin
  pub least : (e k : ℕ) → 1 ≤ e → e ≤ n → 1 ≤ k → k ≤ memory m → t.margin ≤ℤ margin m xs e k
  -- of equal margins it has the earliest end, and then the shortest length
  pub earliest : (e k : ℕ) → 1 ≤ e → e < t.end → 1 ≤ k → k ≤ memory m → t.margin <ℤ margin m xs e k
  pub shortest : (k : ℕ) → 1 ≤ k → k < t.length → t.margin <ℤ margin m xs t.end k

-- the least margin that is told of the first n slots: none if there is no slot
abbrev pub Tells : Meaning → List ℕ → ℕ → Option Tightest → Type 0
Tells m xs n None = n ≡ 0
Tells m xs n (Some t) = IsTightest m xs n t

-- the values that a verdict shows
abbrev pub shown : Verdict → Option Tightest
shown (Kept o) = o
shown (Broken t) = Some t

-- a verdict that calls the record kept
abbrev pub IsKept : Verdict → Type 0
IsKept (Kept o) = Unit
IsKept (Broken t) = ⊥

-- a margin that is not negative; where there is none, that holds too
abbrev pub NotNegative : Option Tightest → Type 0
NotNegative None = Unit
NotNegative (Some t) = pos 0 ≤ℤ t.margin

-- What a verdict says of a record: its tightest window, and whether it is kept. That goes by the sign of the margin, and
-- it is the same as being lawful: no window, however long, falls short of the curve.
pub record Judges (m : Meaning) (xs : List ℕ) (v : Verdict) : Type 0 where
  pub tells : Tells m xs (length xs) (shown v)
  pub by_sign : IsKept v ↔ NotNegative (shown v)
  pub by_curve : IsKept v ↔ Lawful m [] xs

-- the first level, from slot i on, that is above the cap
abbrev pub first_above : ℕ → ℕ → List ℕ → Option ListFault
first_above top = first_failing (λ i x. nat_lt top x) AboveCap

-- a level above the cap is refused before a record that is too long
abbrev pub verdict_refusal : Meaning → List ℕ → Option ListFault
verdict_refusal m xs = or_else (first_above m.«cap» 1 xs) (refuse_if (nat_lt 65535 (length xs)) TooLong None)

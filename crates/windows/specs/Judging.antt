-- One step of a verdict, and its end.
use Rattle.std.specs.Prelude.{◌≡◌, ℕ, ◌<◌, ◌⊎◌, ◌↔◌, ℤ, ◌≤ℤ◌, ◌<ℤ◌, Some, Option}
use Rattle.windows.specs.Sums.{Least, First}
use Rattle.windows.specs.Verdicts.{shown, IsKept, NotNegative}
use Rattle.windows.specs.declared.verdicts.Tightest.{Tightest}
use Rattle.windows.specs.declared.verdicts.Verdict.{Verdict}

-- t is the tightest of the windows of n lengths that end in one slot and have the margins f
pub record TightestHere (f : ℕ → ℤ) (n end : ℕ) (t : Tightest) : Type 0 where
  pub ends : t.end ≡ end
  pub least : Least f n t.margin
  pub length : First f n t.margin t.length

-- of the tightest so far and those that end here: the older one unless a margin here is below its own
abbrev pub Chosen : (ℕ → ℤ) → ℕ → ℕ → Option Tightest → Tightest → Type 0
Chosen f n end old t =
    ((old ≡ Some t) × ((k : ℕ) → k < n → t.margin ≤ℤ f k))
    ⊎ (TightestHere f n end t × ((o : Tightest) → old ≡ Some o → t.margin <ℤ o.margin))

-- the verdict shows that window, and calls the record kept if its margin is not negative
pub record Decided (tightest : Option Tightest) (v : Verdict) : Type 0 where
  pub shows : shown v ≡ tightest
  pub by_sign : IsKept v ↔ NotNegative tightest

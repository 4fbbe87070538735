-- What comes of a line that asks for a level.
use Rattle.std.specs.Prelude.{◌≡◌, ℕ, ◌+◌, ◌-◌, ◌^◌, min, ◌⊎◌, List, Some, None}
use Rattle.contract.specs.declared.faults.Code.{Code}
use Rattle.contract.specs.Faults.{code, text_fault, grant_refusal}
use Rattle.contract.specs.Meaning.{Meaning, granted}
use Rattle.evening.specs.Numerals.{AsksFor}
use Rattle.evening.specs.declared.evenings.Evening.{Evening}
use Rattle.evening.specs.declared.replies.Reply.{Reply}
use Rattle.evening.specs.declared.replies.Reply.TheVariants.{Begins, Granted, Refused, Ends}

-- the level is granted
pub record GrantedLine (m : Meaning) (line : List ℕ) (level : ℕ) : Type 0 where
  pub asks : AsksFor line level
  pub taken : grant_refusal m level ≡ None

-- the line asks for a level that the contract refuses, or for none at all
abbrev pub RefusedLine : Meaning → List ℕ → Code → Type 0
RefusedLine m line c =
    ((level : ℕ) × AsksFor line level × (grant_refusal m level ≡ Some c))
    ⊎ (((level : ℕ) → AsksFor line level → ⊥) × (c ≡ text_fault 1))

-- what an evening holds between lines: the contract's meaning, how many slots were granted, and their energy
pub record Books : Type 0 where
  pub meaning : Meaning
  pub slots : ℕ
  pub energy : ℕ

abbrev pub booked : {C : Type 0} → (C → Meaning) → Evening C → Books
booked meaning e = record { meaning = meaning e.contract; slots = e.slots; energy = e.energy }

-- one more in a count that stops at the largest number
abbrev pub counted : ℕ → ℕ → ℕ
counted n more = min (n + more) (2 ^ 64 - 1)

-- a granted level is booked
abbrev pub after_grant : Books → ℕ → Books
after_grant b level = record { meaning = granted b.meaning level; slots = counted b.slots 1; energy = counted b.energy level }

-- what line number `count` is answered, and what it leaves: a refused one leaves all as it was
abbrev pub Replies : Books → Books → ℕ → List ℕ → Reply → Type 0
Replies b a count line (Granted slot level) = GrantedLine b.meaning line level × (a ≡ after_grant b level) × (slot ≡ a.slots)
Replies b a count line (Refused at fault) = RefusedLine b.meaning line (code fault) × (a ≡ b) × (at ≡ count)
Replies b a count line (Begins letter memory) = ⊥
Replies b a count line (Ends slots energy lowest) = ⊥

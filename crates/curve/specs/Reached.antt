-- What any sequence of calls makes of a new contract.
use Rattle.std.specs.Prelude.{ℕ, List, [], ◌∷◌}
use Rattle.contract.specs.Meaning.{Meaning, New, granted}
use Rattle.contract.specs.Faults.{grant_refusal, unless_refused}

-- a contract with its history: the levels granted since it was new, newest first
pub record Standing : Type 0 where
  pub meaning : Meaning
  pub history : List ℕ

abbrev pub standing : Meaning → List ℕ → Standing
standing m levels = record { meaning = m; history = levels }

-- a call asks for a grant of a level, or changes nothing
pub data Call : Type 0 where
  granting : ℕ → Call
  looking : Call

-- what a call leaves: a refused one leaves all as it was
abbrev pub after : Call → Standing → Standing
after (granting y) s = unless_refused (grant_refusal s.meaning y) s (standing (granted s.meaning y) (y ∷ s.history))
after looking s = s

-- what calls, many or few, refused or not, leave of the contract that was new as m
pub data Reached (m : Meaning) : Standing → Type 0 where
  at_first : New m → Reached m (standing m [])
  then_call : {s : Standing} (c : Call) → Reached m s → Reached m (after c s)

-- An input whose bytes are known, read on.
use Rattle.std.proofs.Common.{◌≡◌, ℕ, List, [], ◌∷◌, ◌++◌, Some, None, Option, IfSome}
use Rattle.std.specs.Io.KnownBytes.{Consumes, IsAtEnd}

abbrev pub StaysKnown : Option (List ℕ) → Option (List ℕ) → Type 0
StaysKnown None new = Unit
StaysKnown (Some xs) None = ⊥
StaysKnown (Some xs) (Some ys) = Unit

pub known_at_first : (first : Option (List ℕ)) → StaysKnown first first
known_at_first None = tt
known_at_first (Some xs) = tt

pub known_on : (first old new : Option (List ℕ)) (bs : List ℕ) → StaysKnown first old → Consumes old new bs → StaysKnown first new
known_on None old new bs k c = tt
known_on (Some xs) None new bs k c = absurd k
known_on (Some xs) (Some ys) None bs k c = absurd c
known_on (Some xs) (Some ys) (Some zs) bs k c = tt

rest_empty : (bs zs : List ℕ) → [] ≡ bs ++ zs → zs ≡ []
rest_empty [] zs e = cc
rest_empty (b ∷ bs) zs e = cc

pub known_end : (first old new : Option (List ℕ)) (bs : List ℕ) → StaysKnown first old → IsAtEnd old → Consumes old new bs → IfSome first (λ _. IsAtEnd new)
known_end None old new bs k end c = tt
known_end (Some xs) None new bs k end c = absurd k
known_end (Some xs) (Some ys) None bs k end c = absurd c
known_end (Some xs) (Some ys) (Some zs) bs k end c = let e : [] ≡ bs ++ zs = cc in rest_empty bs zs e

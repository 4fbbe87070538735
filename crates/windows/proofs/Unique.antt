-- A record has one tightest window and one verdict.
use Rattle.std.proofs.Common.{◌≡◌, ℕ, List, Option, arith}
use Rattle.std.proofs.lemmas.Grind.{common_steps}
use Rattle.contract.specs.Meaning.{Meaning}
use Rattle.windows.specs.Verdicts.{IsTightest, Tells, Judges}
use Rattle.windows.specs.declared.verdicts.Tightest.{Tightest}
use Rattle.windows.specs.declared.verdicts.Verdict.{Verdict}

-- of the first n slots
one_tightest : (m : Meaning) (xs : List ℕ) (n : ℕ) (t u : Tightest) → IsTightest m xs n t → IsTightest m xs n u → t ≡ u
one_tightest m xs n t u a b = grind (arith, common_steps)

one_told : (m : Meaning) (xs : List ℕ) (n : ℕ) (o p : Option Tightest) → Tells m xs n o → Tells m xs n p → o ≡ p
one_told m xs n o p a b = grind (arith, common_steps)

pub one_verdict : (m : Meaning) (xs : List ℕ) (v w : Verdict) → Judges m xs v → Judges m xs w → v ≡ w
one_verdict m xs v w a b = grind (arith, common_steps)

-- What a grant refuses, as orders of numbers.
use Rattle.std.proofs.Common.{◌≡◌, ℕ, ◌≤◌, None, arith}
use Rattle.std.proofs.lemmas.Bool.Decides.{nat_tests}
use Rattle.contract.specs.Meaning.{Meaning, lowest}
use Rattle.contract.specs.Faults.{grant_refusal}

module _ (m : Meaning) (x : ℕ) where
  pub admitted_cap : grant_refusal m x ≡ None → x ≤ m.«cap»
  admitted_cap e = grind (arith, nat_tests)

  pub admitted_lowest : grant_refusal m x ≡ None → lowest m ≤ x
  admitted_lowest e = grind (arith, nat_tests)

  pub admitted : lowest m ≤ x → x ≤ m.«cap» → grant_refusal m x ≡ None
  admitted low high = grind (arith, nat_tests)

-- What needs that are not refused meet.
use Rattle.std.proofs.Common.{◌≡◌, ℕ, List, length, None, arith}
use Rattle.std.proofs.lemmas.Bool.Decides.{nat_tests}
use Rattle.kinds.specs.Kinds.{needs_refusal, too_great}
use Rattle.kinds.specs.Sizes.{Sizes}

module _ (top : ℕ) (xs : List ℕ) (taken : needs_refusal top xs ≡ None) where
  pub taken_sizes : Sizes top (length xs)
  taken_sizes = (grind (arith, nat_tests), grind (arith, nat_tests), grind (arith, nat_tests), grind (arith, nat_tests))

  pub taken_needs : too_great top 1 xs ≡ None
  taken_needs = grind (arith, nat_tests)

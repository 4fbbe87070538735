-- The sum of a list's front, one element further.
use Rattle.std.proofs.Common.{◌≡◌, ℕ, ◌+◌, ◌≤◌, List, length, get_or, take, sum, ⊎_elim, add-zero, arith}
use Rattle.std.proofs.lemmas.List.{take_all, get_or_past}
use Rattle.std.proofs.lemmas.List.Sums.{sum_by_more}
use Rattle.std.proofs.lemmas.Bool.{cases_lt}

pub sum_take_more : (xs : List ℕ) (j : ℕ) → sum (take (j + 1) xs) ≡ sum (take j xs) + get_or xs j 0
sum_take_more xs j =
    ⊎_elim
    (λ h. sum_by_more (λ x. x) xs j 0 h)
    (λ h. let past : length xs ≤ j + 1 = omega arith in rw (take_all (j + 1) xs past, take_all j xs h, get_or_past xs j 0 h, add-zero))
    (cases_lt j (length xs))

-- What the loop of `lowest` keeps, one length further.
use Rattle.std.proofs.Common.{◌≡◌, ℕ, zero, suc, ◌+◌, ◌-◌, ◌≤◌, max, arith}
use Rattle.contract.specs.Meaning.{Meaning, greatest, newest, back}
use Rattle.contract.proofs.Sums.{sum_take_more}

pub greatest_more : (f : ℕ → ℕ) (k : ℕ) → 1 ≤ k → greatest f ((k + 1) - 1) ≡ max (greatest f (k - 1)) (f k)
greatest_more f zero h = absurd (omega arith)
greatest_more f (suc j) h =
    let e : (suc j + 1) - 1 ≡ suc j = omega arith in
    let d : suc j - 1 ≡ j = omega arith in
    rw (e, d)

pub newest_more : (m : Meaning) (k : ℕ) → 1 ≤ k → newest m ((k + 1) - 1) ≡ newest m (k - 1) + back m k
newest_more m zero h = absurd (omega arith)
newest_more m (suc j) h =
    let e : (suc j + 1) - 1 ≡ j + 1 = omega arith in
    let d : suc j - 1 ≡ j = omega arith in
    rw (e, d) (sum_take_more m.recall j)

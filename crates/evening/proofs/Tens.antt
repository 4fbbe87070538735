-- A number of few digits is small, and one digit more.
use Rattle.std.proofs.Common.{◌≡◌, ℕ, ◌+◌, ◌-◌, ◌*◌, ◌^◌, ◌<◌, ◌≤◌, List, map, length, get_or, take, arith, lit<}
use native.Mathlib.Nat.{pow-le-pow_right}
use lib.ListN.{length-map}
use Rattle.std.specs.Int.Digits.{number_from_digits}
use Rattle.std.proofs.lemmas.Int.Digits.{number_more}
use Rattle.std.proofs.lemmas.List.{get_or-map}
use Rattle.evening.specs.Numerals.{digit}

-- numbers of fewer than 13 digits are below 10 ^ 12
pub power_small : (i : ℕ) → i < 13 → 10 ^ i ≤ 1000000000000
power_small i h =
    let p : i ≤ 12 = omega arith in
    pow-le-pow_right (lit< tt) p

pub one_digit_more : (bs : List ℕ) (i n : ℕ) → i < length bs → n ≡ number_from_digits 10 (take i (map digit bs)) → n * 10 + (get_or bs i 0 - 48) ≡ number_from_digits 10 (take (i + 1) (map digit bs))
one_digit_more bs i n h e =
    let m = number_more 10 (map digit bs) i (rw length-map h) in
    let g = get_or-map digit bs i 0 0 h in
    cc

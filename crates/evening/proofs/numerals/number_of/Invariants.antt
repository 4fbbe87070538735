use Rattle.std.proofs.Common.{◌≡◌, ℕ, ◌^◌, ◌<◌, map, get_or, take}
use Rattle.std.specs.Int.Digits.{number_from_digits}
use Rattle.evening.specs.Numerals.{IsDigit, digit}
use Rattle.evening.proofs.numerals.number_of.Given as goal

-- the digits so far are digits, and `number` is what they write
abbrev pub invariant-loop-b : goal.invariant-loop-b
invariant-loop-b l = record {
  number : l.number ≡ number_from_digits 10 (take l.b-index (map digit l.bytes));
  below : l.number < 10 ^ l.b-index;
  digits : (k : ℕ) → k < l.b-index → IsDigit (get_or l.bytes k 0);
}

-- Numbers as a line writes them.
use Rattle.std.specs.Prelude.{◌≡◌, ℕ, ◌-◌, ◌<◌, ◌≤◌, List, [], ◌∷◌, ◌++◌, map, length, slice_index, slice_index_or}
use Rattle.std.specs.Int.Digits.{number_from_digits}

abbrev pub IsDigit : ℕ → Type 0
IsDigit b = (48 ≤ b) × (b ≤ 57)

-- digits, one at least and 13 at most, that start with 0 only where they write 0
pub record Numeral (bytes : List ℕ) : Type 0 where
  pub some : 1 ≤ length bytes
  pub few : length bytes ≤ 13
  pub digits : (k : ℕ) → k < length bytes → IsDigit (slice_index bytes k)
  pub lead : slice_index_or bytes 0 0 ≡ 48 → length bytes ≡ 1

abbrev pub digit : ℕ → ℕ
digit b = b - 48

-- the number that the digits write
abbrev pub value : List ℕ → ℕ
value bytes = number_from_digits 10 (map digit bytes)

-- a line asks for a level: its numeral, ended by a line feed
pub record AsksFor (line : List ℕ) (level : ℕ) : Type 0 where
  pub text : List ℕ
  pub ended : line ≡ text ++ (10 ∷ [])
  pub numeral : Numeral text
  pub written : level ≡ value text

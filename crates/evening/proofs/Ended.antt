-- Where the text of a line ends that a line feed ends.
use Rattle.std.proofs.Common.{◌≡◌, ℕ, ◌+◌, ◌-◌, List, [], ◌∷◌, ◌++◌, length, ap, ◌∙◌, arith}
use Rattle.std.proofs.lemmas.List.{length_push}

module _ (line text : List ℕ) (e : line ≡ text ++ (10 ∷ [])) where
  ended_length : length line ≡ length text + 1
  ended_length = ap length e ∙ length_push text 10

  pub ended_at : length text ≡ length line - 1
  ended_at = omega (arith, ended_length)

-- The words that give an evening's terms.
use Rattle.std.specs.Prelude.{◌≡◌, ℕ, List, [], ◌∷◌}
use Rattle.evening.specs.Numerals.{Numeral, value}
use Rattle.evening.specs.declared.terms.Terms.{Terms}

-- as many words as numbers, each the numeral of the number in its place
abbrev pub Writes : List (List ℕ) → List ℕ → Type 0
Writes [] [] = Unit
Writes [] (n ∷ numbers) = ⊥
Writes (word ∷ words) [] = ⊥
Writes (word ∷ words) (n ∷ numbers) = Numeral word × (n ≡ value word) × Writes words numbers

-- no words give the terms of the sample evening, and else each word writes one number of the terms
abbrev pub GivesTerms : List (List ℕ) → Terms → Type 0
GivesTerms [] t = t ≡ record { «cap» = 100; memory = 4; allowance = 80; floor = 20 }
GivesTerms (word ∷ words) t = Writes (word ∷ words) (t.«cap» ∷ (t.memory ∷ (t.allowance ∷ (t.floor ∷ []))))

-- Words that give terms are none or four.
use Rattle.std.proofs.Common.{◌≡◌, ℕ, ◌≤◌, ◌≢◌, List, [], ◌∷◌, map, length, arith, refl, ap, suc}
use lib.ListN.{length-map}
use Rattle.evening.specs.declared.terms.Terms.{Terms}
use Rattle.desk.specs.Words.{Writes, GivesTerms}

writes_length : (words : List (List ℕ)) (numbers : List ℕ) → Writes words numbers → length words ≡ length numbers
writes_length [] [] w = refl
writes_length [] (n ∷ numbers) w = absurd w
writes_length (word ∷ words) [] w = absurd w
writes_length (word ∷ words) (n ∷ numbers) w = ap suc (writes_length words numbers w.2)

terms_length : (words : List (List ℕ)) (t : Terms) → 1 ≤ length words → GivesTerms words t → length words ≡ 4
terms_length [] t some g = absurd (omega arith)
terms_length (word ∷ words) t some g = writes_length (word ∷ words) (t.«cap» ∷ (t.memory ∷ (t.allowance ∷ (t.floor ∷ [])))) g

pub no_terms : {X : Type 0} (text : X → List ℕ) (words : List X) (t : Terms) → 1 ≤ length words → length words ≢ 4 → GivesTerms (map text words) t → ⊥
no_terms text words t some other g =
    let n : length (map text words) ≡ length words = rw length-map in
    other (omega (arith, n, terms_length (map text words) t (omega (arith, n)) g))

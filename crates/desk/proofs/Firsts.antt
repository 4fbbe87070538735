-- The first words of many.
use Rattle.std.proofs.Common.{◌≡◌, ℕ, zero, suc, ◌+◌, ◌<◌, List, [], ◌∷◌, ◌++◌, map, length, take, sym, ap, ◌∙◌, add-one, arith}
use Rattle.std.proofs.lemmas.List.{append_assoc, append-nil}
use Rattle.evening.specs.declared.terms.Terms.{Terms}
use Rattle.desk.specs.Words.{GivesTerms}

-- one word more is taken
pub taken_more : {X : Type 0} (taken left rest now all : List X) (w : X) (n m : ℕ) →
    taken ++ take n left ≡ all → left ≡ w ∷ rest → m + 1 ≡ n → now ≡ taken ++ (w ∷ []) → now ++ take m rest ≡ all
taken_more {X} taken left rest now all w n m whole is count grown =
    ap (λ (t : List X). t ++ take m rest) grown
    ∙ append_assoc taken (w ∷ []) (take m rest)
    ∙ ap (λ (k : ℕ). taken ++ take k (w ∷ rest)) (sym (add-one m) ∙ count)
    ∙ ap (λ (t : List X). taken ++ take n t) (sym is)
    ∙ whole

-- all are taken that were to be taken
pub taken_all : {X : Type 0} (taken left all : List X) (n : ℕ) → taken ++ take n left ≡ all → (0 < n → length left ≡ 0) → taken ≡ all
taken_all taken left all zero whole none = sym (append-nil taken) ∙ whole
taken_all taken [] all (suc n) whole none = sym (append-nil taken) ∙ whole
taken_all taken (w ∷ left) all (suc n) whole none = absurd (omega (arith, none (omega arith)))

-- five words tell as much as all of them: they give no terms, and nor do more
pub five_give : {X : Type 0} (text : X → List ℕ) (words : List X) (t : Terms) → GivesTerms (map text (take 5 words)) t → GivesTerms (map text words) t
five_give text [] t g = g
five_give text (a ∷ []) t g = g
five_give text (a ∷ (b ∷ [])) t g = g
five_give text (a ∷ (b ∷ (c ∷ []))) t g = g
five_give text (a ∷ (b ∷ (c ∷ (d ∷ [])))) t g = g
five_give text (a ∷ (b ∷ (c ∷ (d ∷ (e ∷ more))))) t g = absurd (g.2.2.2.2)

pub all_give : {X : Type 0} (text : X → List ℕ) (words : List X) (t : Terms) → GivesTerms (map text words) t → GivesTerms (map text (take 5 words)) t
all_give text [] t g = g
all_give text (a ∷ []) t g = g
all_give text (a ∷ (b ∷ [])) t g = g
all_give text (a ∷ (b ∷ (c ∷ []))) t g = g
all_give text (a ∷ (b ∷ (c ∷ (d ∷ [])))) t g = g
all_give text (a ∷ (b ∷ (c ∷ (d ∷ (e ∷ more))))) t g = absurd (g.2.2.2.2)

-- A list copied into the front of an array of zeros.
use Rattle.std.proofs.Common.{◌≡◌, ℕ, ◌+◌, ◌<◌, ◌≤◌, ◌≢◌, List, length, get_or, take, set, ◌∙◌, arith, below_more}
use Rattle.std.proofs.lemmas.List.{ext_get_or, length-take-le, get_or-take, get_or-set_same, get_or-set_other}

-- the first i places of r are those of xs
abbrev pub Copied : List ℕ → List ℕ → ℕ → Type 0
Copied r xs i = (k : ℕ) → k < i → get_or r k 0 ≡ get_or xs k 0

pub copied_more : (r xs : List ℕ) (i v : ℕ) → i < length r → Copied r xs i → v ≡ get_or xs i 0 → Copied (set r i v) xs (i + 1)
copied_more r xs i v h below here =
    below_more (λ k. get_or (set r i v) k 0 ≡ get_or xs k 0) i
    (λ k (l : k < i). let ne : k ≢ i = omega arith in get_or-set_other r i k v 0 ne ∙ below k l)
    (get_or-set_same r i v 0 h ∙ here)

pub copied_all : (r xs : List ℕ) → length xs ≤ length r → Copied r xs (length xs) → take (length xs) r ≡ xs
copied_all r xs h same =
    let l : length (take (length xs) r) ≡ length xs = length-take-le (length xs) r h in
    ext_get_or 0 (take (length xs) r) xs l (λ i (p : i < length (take (length xs) r)). let q : i < length xs = omega arith in get_or-take (length xs) r i 0 q ∙ same i q)

-- Recalled levels none of which is under the cap.
use Rattle.std.specs.Prelude.{◌≡◌, ℕ, zero, suc, ◌+◌, ◌<◌, ◌≤◌, Bool, true, false, ◌||◌, List, [], ◌∷◌, length, replicate, nat_lt, slice_index, refl}
use Rattle.std.specs.List.{list_any, range_with_len}
use Rattle.std.proofs.Common.{ap, ◌∙◌, arith}
use Rattle.std.proofs.lemmas.Bool.{ltb-false}
use Rattle.layers.specs.Layers.{any_under}

-- a test of places is a test of what stands there
pub any_at : (f p : ℕ → Bool) (xs : List ℕ) (a : ℕ) → ((k : ℕ) → k < length xs → f (a + k) ≡ p (slice_index xs k)) → list_any f (range_with_len a (length xs)) ≡ list_any p xs
any_at f p [] a same = refl
any_at f p (x ∷ xs) a same =
    let z : a ≡ a + 0 = omega arith in
    let here : f a ≡ p x = ap f z ∙ same 0 (omega arith) in
    let there : list_any f (range_with_len (a + 1) (length xs)) ≡ list_any p xs = any_at f p xs (a + 1) (λ k h. let e : (a + 1) + k ≡ a + suc k = omega arith in ap f e ∙ same (suc k) (omega arith)) in
    cc

neither : (a b : Bool) → (a || b) ≡ false → (a ≡ false) × (b ≡ false)
neither true b e = absurd (cc)
neither false b e = (refl, e)

-- levels none of which is under top, nor above it
pub all_at_top : (top : ℕ) (xs : List ℕ) → any_under top xs ≡ false → ((i : ℕ) → slice_index (0 ∷ xs) i ≤ top) → xs ≡ replicate (length xs) top
all_at_top top [] none most = refl
all_at_top top (x ∷ xs) none most =
    let both = neither (nat_lt x top) (any_under top xs) none in
    let here : x ≡ top = omega (arith, ltb-false x top both.0, most 1) in
    let there : xs ≡ replicate (length xs) top = all_at_top top xs both.1 below in
    ap (λ t. t ∷ xs) here ∙ ap (λ (l : List ℕ). top ∷ l) there
  where
    below : (i : ℕ) → slice_index (0 ∷ xs) i ≤ top
    below zero = omega arith
    below (suc i) = most (suc (suc i))

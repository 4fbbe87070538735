-- Contracts whose recall is the front of a ring.
use Rattle.std.specs.Prelude.{◌≡◌, ℕ, zero, suc, ◌-◌, ◌*◌, ◌≤◌, List, ◌∷◌, length, take, replicate, slice_index, refl}
use Rattle.std.proofs.Common.{sym, ap, ◌∙◌, subst, ⊎_elim, arith}
use Rattle.std.proofs.lemmas.List.{get_or-take, length-take-le, take-take, get_or-replicate, length-replicate, length-take, take-replicate, get_or_past}
use Rattle.std.proofs.lemmas.Bool.{cases_lt}
use Rattle.contract.specs.Meaning.{Meaning, Limits, New, granted}
use Rattle.kinds.specs.declared.rings.Ring.{Ring}
use Rattle.kinds.specs.Kinds.{begun}
use Rattle.kinds.specs.Rings.{recent, Held}
use Rattle.kinds.specs.Sizes.{Sizes}
use Rattle.kinds.specs.Places.{place_all}

-- no level of the list is above top
abbrev Under : List ℕ → ℕ → Type 0
Under xs top = (k : ℕ) → slice_index xs k ≤ top

take_under : (xs : List ℕ) (n top : ℕ) → Under xs top → Under (take n xs) top
take_under xs n top each k =
    ⊎_elim
    (λ h. rw (get_or-take n xs k 0 h) (each k))
    (λ (h : n ≤ k). let past : length (take n xs) ≤ k = simp length-take (omega arith) in rw (get_or_past (take n xs) k 0 past) (omega arith))
    (cases_lt k n)

pub under_push : (xs ys : List ℕ) (x top : ℕ) → ys ≡ x ∷ take 95 xs → length xs ≡ 96 → Under xs top → x ≤ top → (length ys ≡ 96) × Under ys top
under_push xs ys x top e long each h =
    (ap length e ∙ ap suc (length-take-le 95 xs (omega arith)), λ k. subst (λ l. slice_index l k ≤ top) (sym e) (pushed k))
  where
    pushed : Under (x ∷ take 95 xs) top
    pushed zero = h
    pushed (suc j) = take_under xs 95 top each j

pub under_full : (ys : List ℕ) (n top : ℕ) → ys ≡ replicate n top → (length ys ≡ n) × Under ys top
under_full ys n top e = (
  ap length e ∙ length-replicate n top,
  λ k. subst (λ l. slice_index l k ≤ top) (sym e)
      (⊎_elim
      (λ h. rw (get_or-replicate n k top 0 h) (omega arith))
      (λ h. let past : length (replicate n top) ≤ k = simp length-replicate h in rw (get_or_past (replicate n top) k 0 past) (omega arith))
      (cases_lt k n)),
)

-- a ring of 96 forgets no more than the recall does
recall_push : (xs ys : List ℕ) (n x : ℕ) → n ≤ 95 → ys ≡ x ∷ take 95 xs → take n ys ≡ take n (x ∷ take n xs)
recall_push xs ys zero x h e = refl
recall_push xs ys (suc j) x h e =
    ap (take (suc j)) e ∙ ap (λ t. x ∷ t) (take-take j 95 xs (omega arith) ∙ sym (take-take j (suc j) xs (omega arith)))

module _ (top n : ℕ) (needs : List ℕ) (long : length needs ≡ n) where
  -- what a contract with these numbers means, by its ring
  abbrev pub by_ring : Ring → Meaning
  by_ring r = record { «cap» = top; needs = needs; recall = take (n - 1) (recent r) }

  pub limits_ring : (r : Ring) → Sizes top n → ((k : ℕ) → slice_index (0 ∷ needs) k ≤ k * top) → Held top r → Limits (by_ring r)
  limits_ring r (a, b, c, d) each held =
      let recalled : length (take (n - 1) (recent r)) ≡ n - 1 = length-take-le (n - 1) (recent r) (omega (arith, held.1)) in
      record {
        cap_least = a;
        cap_most = b;
        memory_least = omega arith;
        memory_most = omega arith;
        need_most = each;
        recall_length = recalled ∙ ap (λ t. t - 1) (sym long);
        recall_most =
            place_all (λ k v. v ≤ top) (take (n - 1) (recent r)) (λ k. omega arith)
            (λ k low high. take_under (recent r) (n - 1) top held.2 (k - 1));
      }

  -- the meaning after the ring took a level
  pub granted_ring : (r t : Ring) (x : ℕ) → n ≤ 96 → recent t ≡ x ∷ take 95 (recent r) → by_ring t ≡ granted (by_ring r) x
  granted_ring r t x few after =
      let of : List ℕ → Meaning = λ l. record { «cap» = top; needs = needs; recall = l } in
      ap of (recall_push (recent r) (recent t) (n - 1) x (omega arith) after ∙ ap (λ i. take (i - 1) (x ∷ take (n - 1) (recent r))) (sym long))

  -- the meaning of a full ring
  pub begun_ring : (r : Ring) → n ≤ 96 → recent r ≡ replicate 96 top → by_ring r ≡ begun top n needs
  begun_ring r few full =
      let of : List ℕ → Meaning = λ l. record { «cap» = top; needs = needs; recall = l } in
      ap of (ap (take (n - 1)) full ∙ take-replicate (n - 1) 96 top (omega arith))

  pub new_ring : (r : Ring) → Sizes top n → ((k : ℕ) → slice_index (0 ∷ needs) k ≤ k * top) → Held top r → recent r ≡ replicate 96 top → New (by_ring r)
  new_ring r sizes each held full = record {
    limits = limits_ring r sizes each held;
    unused =
        ap (take (n - 1)) full
        ∙ take-replicate (n - 1) 96 top (omega (arith, sizes.3))
        ∙ ap (λ t. replicate (t - 1) top) (sym long);
  }

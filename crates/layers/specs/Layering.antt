-- Laws of every layer, whatever it adds to the needs.
use Rattle.std.specs.Prelude.{◌≡◌, ℕ, zero, suc, ◌-◌, ◌*◌, ◌<◌, ◌≤◌, max, false, List, ◌∷◌, take, replicate, None, Option}
use Rattle.std.proofs.Common.{sym, ap, ◌∙◌, arith}
use Rattle.contract.specs.declared.faults.Code.{Code}
use Rattle.contract.specs.Meaning.{Meaning, Limits, New, memory, need, owed, greatest, lowest, granted}
use Rattle.contract.specs.Faults.{grant_refusal, unless_refused}
use Rattle.contract.proofs.Admitted.{admitted, admitted_cap, admitted_lowest}
use Rattle.kinds.specs.Kinds.{needs_by}
use Rattle.kinds.specs.Places.{length-needs_by, need_by, need_by_past, need_by_most}
use Rattle.layers.specs.Layers.{layered, any_under}
use Rattle.layers.specs.Under.{all_at_top}

greatest_mono : (f g : ℕ → ℕ) (n : ℕ) → ((k : ℕ) → 1 ≤ k → k ≤ n → f k ≤ g k) → greatest f n ≤ greatest g n
greatest_mono f g zero h = omega arith
greatest_mono f g (suc n) h =
    let p : greatest f n ≤ greatest g n = greatest_mono f g n (λ k a b. h k a (omega arith)) in
    let q : f (suc n) ≤ g (suc n) = h (suc n) (omega arith) (omega arith) in
    omega arith

module _ (m : Meaning) (f : ℕ → ℕ) where
  pub memory-layered : memory (layered m f) ≡ memory m
  memory-layered = length-needs_by (λ k. max (need m k) (f k)) (memory m)

  need_within : (k : ℕ) → 1 ≤ k → k ≤ memory m → need (layered m f) k ≡ max (need m k) (f k)
  need_within k low high = need_by (λ j. max (need m j) (f j)) (memory m) k low high

  pub need-layered : f 0 ≡ 0 → (k : ℕ) → k ≤ memory m → need (layered m f) k ≡ max (need m k) (f k)
  need-layered e zero h = sym (ap (max 0) e)
  need-layered e (suc j) h = need_within (suc j) (omega arith) h

  pub need_past : (k : ℕ) → memory m < k → need (layered m f) k ≡ 0
  need_past k h = need_by_past (λ j. max (need m j) (f j)) (memory m) k h

  pub limits_layered : Limits m → ((k : ℕ) → 1 ≤ k → k ≤ memory m → f k ≤ k * m.«cap») → Limits (layered m f)
  limits_layered s each = record {
    cap_least = s.cap_least;
    cap_most = s.cap_most;
    memory_least = omega (arith, memory-layered, s.memory_least);
    memory_most = omega (arith, memory-layered, s.memory_most);
    need_most = need_by_most (λ k. max (need m k) (f k)) (memory m) m.«cap» (λ k low high. omega (arith, s.need_most k, each k low high));
    recall_length = s.recall_length ∙ ap (λ t. t - 1) (sym memory-layered);
    recall_most = s.recall_most;
  }

  -- a layer over a contract that recalls nothing under the cap is new
  pub new_layered : Limits m → ((k : ℕ) → 1 ≤ k → k ≤ memory m → f k ≤ k * m.«cap») → false ≡ any_under m.«cap» m.recall → New (layered m f)
  new_layered s each none = record {
    limits = limits_layered s each;
    unused =
        all_at_top m.«cap» m.recall (sym none) s.recall_most
        ∙ ap (λ n. replicate n m.«cap») (s.recall_length ∙ ap (λ t. t - 1) (sym memory-layered));
  }

  -- what may be granted over a layer may be granted below it
  lowest-layered : lowest m ≤ lowest (layered m f)
  lowest-layered =
      let p : greatest (owed m) (memory m) ≤ greatest (owed (layered m f)) (memory m) =
      greatest_mono (owed m) (owed (layered m f)) (memory m) (λ k a b. omega (arith, need_within k a b)) in
      let e : greatest (owed (layered m f)) (memory (layered m f)) ≡ greatest (owed (layered m f)) (memory m) = ap (greatest (owed (layered m f))) memory-layered in
      omega (arith, p, e)

  admitted_below : (x : ℕ) → grant_refusal (layered m f) x ≡ None → grant_refusal m x ≡ None
  admitted_below x e =
      let high : x ≤ m.«cap» = admitted_cap (layered m f) x e in
      let low : lowest m ≤ x = omega (arith, admitted_lowest (layered m f) x e, lowest-layered) in
      admitted m x low high

  granted-layered : (x : ℕ) → layered (granted m x) f ≡ granted (layered m f) x
  granted-layered x =
      let of : List ℕ → Meaning = λ l. record { «cap» = m.«cap»; needs = needs_by (λ k. max (need m k) (f k)) (memory m); recall = l } in
      ap of (ap (λ n. take (n - 1) (x ∷ m.recall)) (sym memory-layered))

-- a layer's grant: what it adds to the needs is found from the meaning below, and a grant does not change that
module _ (F : Meaning → ℕ → ℕ) (m n : Meaning) (x : ℕ) (same : F (granted m x) ≡ F m) (ok : None ≡ grant_refusal (layered m (F m)) x) where
  abbrev layer : Meaning → Meaning
  layer u = layered u (F u)

  pub grant_layered : (r : Option Code) → r ≡ grant_refusal m x → n ≡ unless_refused r m (granted m x) → (r ≡ grant_refusal (layer m) x) × (layer n ≡ unless_refused r (layer m) (granted (layer m) x))
  grant_layered r answer after =
      let none : r ≡ None = answer ∙ admitted_below m (F m) x (sym ok) in
      let moved : n ≡ granted m x = after ∙ ap (λ t. unless_refused t m (granted m x)) none in (
        none ∙ ok,
        ap layer moved ∙ ap (layered (granted m x)) same ∙ granted-layered m (F m) x ∙ sym (ap (λ t. unless_refused t (layer m) (granted (layer m) x)) none),
      )

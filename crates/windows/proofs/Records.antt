-- A record within the cap is lawful exactly if its windows up to the memory hold their needs.
use Rattle.std.proofs.Common.{◌≡◌, ℕ, zero, suc, ◌<◌, ◌≤◌, List, [], ◌∷◌, ◌++◌, reverse, length, get_or, take, ap, subst, ⊎_elim, arith}
use mathlib.Core.List.{reverse_aux}
use lib.ListN.{get_or-eq_default}
use Rattle.std.proofs.lemmas.List.{append-nil, reverse-reverse}
use Rattle.std.proofs.lemmas.Bool.{cases_lt}
use Rattle.contract.specs.Meaning.{Meaning, Limits, memory, need}
use Rattle.curve.specs.Curve.{Each}
use Rattle.curve.specs.Lawful.{energy, Lawful}
use Rattle.curve.proofs.Windows.{Kept}
use Rattle.curve.proofs.Kept.{need_curve}
use Rattle.curve.proofs.Places.{Stepwise, steps_lawful, steps_past}

-- each window that ends in the record and is no longer than the memory holds its need
abbrev pub HoldsNeeds : Meaning → List ℕ → Type 0
HoldsNeeds m xs = (e k : ℕ) → 1 ≤ e → e ≤ length xs → 1 ≤ k → k ≤ memory m → need m k ≤ energy m.«cap» (reverse (take e xs)) k

kept_on : (top : ℕ) (ns past ys : List ℕ) → Kept top ns past → Each (λ y. y ≤ top) ys →
    ((e k : ℕ) → 1 ≤ e → e ≤ length ys → get_or ns k 0 ≤ energy top (reverse_aux (take e ys) past) (suc k)) → Kept top ns (reverse_aux ys past)
kept_on top ns past [] kept each held = kept
kept_on top ns past (y ∷ ys) kept each held =
    kept_on top ns (y ∷ past) ys (each.0, (λ k. held 1 k (omega arith) (omega arith)), kept) each.1
    (λ e k low high. held (suc e) k (omega arith) (omega arith))

module _ (m : Meaning) (limits : Limits m) (xs : List ℕ) where
  pub holds_lawful : Each (λ y. y ≤ m.«cap») xs → HoldsNeeds m xs → Lawful m [] xs
  holds_lawful each holds =
      let kept = kept_on m.«cap» m.needs [] xs tt each windows in
      steps_lawful m [] xs (subst (Stepwise m []) (reverse-reverse xs) (steps_past m limits.memory_least (λ k. limits.need_most (suc k)) (reverse xs) [] kept tt))
    where
      windows : (e k : ℕ) → 1 ≤ e → e ≤ length xs → get_or m.needs k 0 ≤ energy m.«cap» (reverse_aux (take e xs) []) (suc k)
      windows e k low high =
          ⊎_elim
          (λ (l : k < memory m). holds e (suc k) low high (omega arith) l)
          (λ (l : memory m ≤ k). omega (arith, get_or-eq_default m.needs 0 l))
          (cases_lt k (memory m))

  pub lawful_holds : Lawful m [] xs → HoldsNeeds m xs
  lawful_holds lawful e zero low high some few = absurd (omega arith)
  lawful_holds lawful e (suc k) low high some few =
      let past : energy m.«cap» (reverse (take e xs) ++ []) (suc k) ≡ energy m.«cap» (reverse (take e xs)) (suc k) =
      ap (λ (p : List ℕ). energy m.«cap» p (suc k)) (append-nil (reverse (take e xs))) in
      omega (arith, need_curve m limits.memory_least (λ j. limits.need_most (suc j)) k, lawful.windows e (suc k) low high, past)

-- A lawful list taken level by level.
use Rattle.std.proofs.Common.{◌≡◌, ℕ, zero, suc, ◌≤◌, List, [], ◌∷◌, length, get_or, take, refl, ap, ◌∙◌, arith}
use mathlib.Core.List.{reverse_aux, reverse_aux-eq}
use Rattle.contract.specs.Meaning.{Meaning, memory}
use Rattle.curve.specs.Curve.{Each, best, curves, curve}
use Rattle.curve.specs.Lawful.{energy, Lawful}
use Rattle.curve.proofs.Windows.{Kept, Met}
use Rattle.curve.proofs.Kept.{HoldsCurve, kept_curve}

-- each level is at most the cap, and every window that ends with it holds the curve
abbrev pub Stepwise : Meaning → List ℕ → List ℕ → Type 0
Stepwise m past [] = Unit
Stepwise m past (y ∷ ys) = (y ≤ m.«cap») × HoldsCurve m (y ∷ past) × Stepwise m (y ∷ past) ys

abbrev Windows : Meaning → List ℕ → List ℕ → Type 0
Windows m past ys = (i L : ℕ) → 1 ≤ i → i ≤ length ys → curve m L ≤ energy m.«cap» (reverse_aux (take i ys) past) L

steps_each : (m : Meaning) (past ys : List ℕ) → Stepwise m past ys → Each (λ y. y ≤ m.«cap») ys
steps_each m past [] steps = tt
steps_each m past (y ∷ ys) steps = (steps.0, steps_each m (y ∷ past) ys steps.2)

steps_windows : (m : Meaning) (past ys : List ℕ) → Stepwise m past ys → Windows m past ys
steps_windows m past ys steps zero L low high = absurd (omega arith)
steps_windows m past [] steps (suc i) L low high = absurd (omega arith)
steps_windows m past (y ∷ ys) steps (suc zero) L low high = steps.1 L
steps_windows m past (y ∷ ys) steps (suc (suc i)) L low high = steps_windows m (y ∷ past) ys steps.2 (suc i) L (omega arith) (omega arith)

windows_steps : (m : Meaning) (past ys : List ℕ) → Each (λ y. y ≤ m.«cap») ys → Windows m past ys → Stepwise m past ys
windows_steps m past [] each windows = tt
windows_steps m past (y ∷ ys) each windows = (
  each.0,
  (λ L. windows 1 L (omega arith) (omega arith)),
  windows_steps m (y ∷ past) ys each.1 (λ i L low high. windows (suc i) L (omega arith) (omega arith)),
)

pub steps_lawful : (m : Meaning) (past ys : List ℕ) → Stepwise m past ys → Lawful m past ys
steps_lawful m past ys steps = record {
  within_cap = steps_each m past ys steps;
  windows = λ i L low high. rw (← (reverse_aux-eq (take i ys) past)) (steps_windows m past ys steps i L low high);
}

pub lawful_steps : (m : Meaning) (past ys : List ℕ) → Lawful m past ys → Stepwise m past ys
lawful_steps m past ys lawful =
    windows_steps m past ys lawful.within_cap (λ i L low high. rw (reverse_aux-eq (take i ys) past) (lawful.windows i L low high))

-- a past that was kept is itself such a list, from the first level on
pub steps_past : (m : Meaning) → 1 ≤ memory m → Met m.«cap» m.needs → (past ys : List ℕ) → Kept m.«cap» m.needs past → Stepwise m past ys → Stepwise m [] (reverse_aux past ys)
steps_past m some met [] ys kept steps = steps
steps_past m some met (y ∷ past) ys kept steps = steps_past m some met past (y ∷ ys) kept.2 (kept.0, kept_curve m some met (y ∷ past) kept, steps)

-- only cap and needs count
curves_same : (m n : Meaning) → m.needs ≡ n.needs → (L : ℕ) → curves m L ≡ curves n L
curves_same m n e zero = refl
curves_same m n e (suc L) =
    let entry : List ℕ → List ℕ → List ℕ = λ ns cs. best ns cs ∷ cs in
    ap (λ (ns : List ℕ). entry ns (curves m L)) e ∙ ap (entry n.needs) (curves_same m n e L)

pub steps_same : (m n : Meaning) → m.«cap» ≡ n.«cap» → m.needs ≡ n.needs → (past ys : List ℕ) → Stepwise m past ys → Stepwise n past ys
steps_same m n c e past [] steps = tt
steps_same m n c e past (y ∷ ys) steps = (omega (arith, steps.0), holds, steps_same m n c e (y ∷ past) ys steps.2)
  where
    holds : HoldsCurve n (y ∷ past)
    holds L =
        let same : curve m L ≡ curve n L = ap (λ (cs : List ℕ). get_or cs 0 0) (curves_same m n e L) in
        let wide : energy m.«cap» (y ∷ past) L ≡ energy n.«cap» (y ∷ past) L = ap (λ (top : ℕ). energy top (y ∷ past) L) c in
        omega (arith, steps.1 L)

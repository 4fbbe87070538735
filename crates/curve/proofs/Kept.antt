-- What holds of a contract and its past between calls, and what the lowest level is then.
use Rattle.std.proofs.Common.{◌≡◌, ℕ, zero, suc, ◌+◌, ◌-◌, ◌*◌, ◌<◌, ◌≤◌, List, [], ◌∷◌, get_or, take, replicate, sym, refl, ap, ◌∙◌, subst, ⊎_elim, zero-le, arith}
use lib.ListN.{get_or-eq_default}
use Rattle.std.proofs.lemmas.List.{take-take}
use Rattle.std.proofs.lemmas.Bool.{cases_lt}
use Rattle.contract.specs.Meaning.{Meaning, New, memory, greatest, owed, lowest, granted}
use Rattle.curve.specs.Curve.{curve}
use Rattle.curve.specs.Lawful.{energy}
use Rattle.curve.proofs.Totals.{total, sum_total}
use Rattle.curve.proofs.Curves.{curve_is}
use Rattle.curve.proofs.Windows.{Kept, Met, energy_past, cap_enough, kept_way}

-- what the contract recalls are the newest past levels
abbrev pub Recalls : Meaning → List ℕ → Type 0
Recalls m past = (k : ℕ) → k < memory m → total (take k m.recall) ≡ energy m.«cap» past k

pub record Stands (m : Meaning) (past : List ℕ) : Type 0 where
  pub some_need : 1 ≤ memory m
  pub met : Met m.«cap» m.needs
  pub kept : Kept m.«cap» m.needs past
  pub recalls : Recalls m past

greatest_le : (f : ℕ → ℕ) (n v : ℕ) → ((k : ℕ) → k < n → f (suc k) ≤ v) → greatest f n ≤ v
greatest_le f zero v h = zero-le
greatest_le f (suc n) v h = omega (arith, h n (omega arith), greatest_le f n v (λ k l. h k (omega arith)))

greatest_ge : (f : ℕ → ℕ) (n k : ℕ) → k < n → f (suc k) ≤ greatest f n
greatest_ge f zero k h = absurd (omega arith)
greatest_ge f (suc n) k h = ⊎_elim (λ l. omega (arith, greatest_ge f n k l)) last (cases_lt k n)
  where
    last : n ≤ k → f (suc k) ≤ greatest f (suc n)
    last l =
        let e : k ≡ n = omega arith in
        rw e (omega arith)

owed_at : (m : Meaning) (k : ℕ) → owed m (suc k) ≡ get_or m.needs k 0 - total (take k m.recall)
owed_at m k =
    let e : suc k - 1 ≡ k = omega arith in
    rw (e, sum_total (take k m.recall))

-- a level that meets every need is not below the lowest
pub lowest_le : (m : Meaning) (v : ℕ) → ((k : ℕ) → k < memory m → get_or m.needs k 0 ≤ v + total (take k m.recall)) → lowest m ≤ v
lowest_le m v h = omega (arith, greatest_le (owed m) (memory m) v (λ k l. omega (arith, h k l, owed_at m k)))

-- no window asks more of the next level than the cap
greatest_cap : (m : Meaning) (past : List ℕ) → Stands m past → greatest (owed m) (memory m) ≤ m.«cap»
greatest_cap m past s =
    greatest_le (owed m) (memory m) m.«cap» (λ k l. omega (arith, cap_enough m.«cap» m.needs s.met past s.kept k, s.recalls k l, owed_at m k))

-- and a level that is not below the lowest meets every need
lowest_enough : (m : Meaning) (past : List ℕ) → Stands m past → (y : ℕ) → lowest m ≤ y → (k : ℕ) → get_or m.needs k 0 ≤ y + energy m.«cap» past k
lowest_enough m past s y low k = ⊎_elim within beyond (cases_lt k (memory m))
  where
    within : k < memory m → get_or m.needs k 0 ≤ y + energy m.«cap» past k
    within l = omega (arith, greatest_cap m past s, greatest_ge (owed m) (memory m) k l, s.recalls k l, owed_at m k)

    beyond : memory m ≤ k → get_or m.needs k 0 ≤ y + energy m.«cap» past k
    beyond l = omega (arith, get_or-eq_default m.needs 0 l)

-- a granted level keeps all this
pub stands_granted : (m : Meaning) (past : List ℕ) → Stands m past → (y : ℕ) → y ≤ m.«cap» → lowest m ≤ y → Stands (granted m y) (y ∷ past)
stands_granted m past s y high low = record {
  some_need = s.some_need;
  met = s.met;
  kept = (high, lowest_enough m past s y low, s.kept);
  recalls = recalls;
}
  where
    newly : (k : ℕ) → k < memory m → total (take k (y ∷ m.recall)) ≡ energy m.«cap» (y ∷ past) k
    newly zero l = refl
    newly (suc k) l = omega (arith, s.recalls k (omega arith))

    recalls : Recalls (granted m y) (y ∷ past)
    recalls k l = ap total (take-take k (memory m - 1) (y ∷ m.recall) (omega arith)) ∙ newly k l

take_caps : (k n a : ℕ) → k ≤ n → total (take k (replicate n a)) ≡ k * a
take_caps zero n a h = omega arith
take_caps (suc k) zero a h = absurd (omega arith)
take_caps (suc k) (suc n) a h = omega (arith, take_caps k n a (omega arith))

pub stands_new : (m : Meaning) → New m → Stands m []
stands_new m new = record {
  some_need = new.limits.memory_least;
  met = λ k. new.limits.need_most (suc k);
  kept = tt;
  recalls = λ k l. ap (λ (r : List ℕ). total (take k r)) new.unused ∙ take_caps k (memory m - 1) m.«cap» (omega (arith, l)) ∙ sym (energy_past m.«cap» k);
}

-- every window that ends with the newest level holds the curve
abbrev pub HoldsCurve : Meaning → List ℕ → Type 0
HoldsCurve m past = (L : ℕ) → curve m L ≤ energy m.«cap» past L

-- windows up to the memory that hold their needs make every window hold the curve, and the other way round
module _ (m : Meaning) (some_need : 1 ≤ memory m) (met : Met m.«cap» m.needs) where
  pub kept_curve : (past : List ℕ) → Kept m.«cap» m.needs past → HoldsCurve m past
  kept_curve past kept L =
      let w = (curve_is m some_need L).some_way in
      let h = kept_way m met w.0 past kept w.1.lengths in
      subst (λ (n : ℕ). curve m L ≤ energy m.«cap» past n) w.1.fills (omega (arith, h, w.2))

  pub need_curve : (k : ℕ) → get_or m.needs k 0 ≤ curve m (suc k)
  need_curve k = ⊎_elim within beyond (cases_lt k (memory m))
    where
      within : k < memory m → get_or m.needs k 0 ≤ curve m (suc k)
      within l = omega (arith, (curve_is m some_need (suc k)).no_more (suc k ∷ []) (record { lengths = ((omega arith, l), tt); fills = omega arith }))

      beyond : memory m ≤ k → get_or m.needs k 0 ≤ curve m (suc k)
      beyond l = omega (arith, get_or-eq_default m.needs 0 l)

  pub curve_kept : (y : ℕ) (past : List ℕ) → y ≤ m.«cap» → HoldsCurve m (y ∷ past) → Kept m.«cap» m.needs past → Kept m.«cap» m.needs (y ∷ past)
  curve_kept y past high holds kept = (high, (λ k. omega (arith, need_curve k, holds (suc k))), kept)

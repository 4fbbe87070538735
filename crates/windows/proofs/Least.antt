-- No lawful list has delivered less than the forecast, after any slot.
use Rattle.std.proofs.Common.{◌≡◌, ℕ, zero, suc, ◌+◌, ◌-◌, ◌≤◌, List, [], ◌∷◌, ◌++◌, length, take, drop, refl, ap, arith}
use Rattle.contract.specs.Meaning.{Meaning, lowest, granted}
use Rattle.curve.specs.Lawful.{energy}
use Rattle.windows.specs.Forecasts.{forecast_levels}
use Rattle.curve.proofs.Totals.{total}
use Rattle.curve.proofs.Windows.{Kept}
use Rattle.curve.proofs.Kept.{Stands, lowest_le, stands_granted, curve_kept}
use Rattle.curve.proofs.Places.{Stepwise, steps_same}

-- two lists of levels after the same past: by how much their windows differ
differ : (top : ℕ) (past fs xs : List ℕ) (k : ℕ) → length fs ≡ length xs →
    energy top (fs ++ past) k + total (drop k fs) + total xs ≡ energy top (xs ++ past) k + total (drop k xs) + total fs
differ top past fs xs zero e = omega arith
differ top past [] [] (suc k) e = refl
differ top past [] (x ∷ xs) (suc k) e = absurd (omega arith)
differ top past (f ∷ fs) [] (suc k) e = absurd (omega arith)
differ top past (f ∷ fs) (x ∷ xs) (suc k) e = omega (arith, differ top past fs xs k (omega arith))

-- after each slot fs has delivered at most what xs has; both stand newest first
abbrev Behind : List ℕ → List ℕ → Type 0
Behind fs xs = (j : ℕ) → total (drop j fs) ≤ total (drop j xs)

module _ (past : List ℕ) where
  stays_behind : (m : Meaning) (fs xs : List ℕ) → Stands m (fs ++ past) → length fs ≡ length xs → Behind fs xs →
      (x : ℕ) → Kept m.«cap» m.needs (x ∷ (xs ++ past)) → Behind (lowest m ∷ fs) (x ∷ xs)
  stays_behind m fs xs s e behind x kept zero =
      let spent : total fs ≤ total xs = behind 0 in
      let least : lowest m ≤ (x + total xs) - total fs = lowest_le m ((x + total xs) - total fs) (λ k l. omega (arith, differ m.«cap» past fs xs k e, behind k, kept.1 k, s.recalls k l)) in
      omega (arith, least, spent)
  stays_behind m fs xs s e behind x kept (suc j) = behind j

  pub delivers_least : (m : Meaning) (fs xs : List ℕ) → Stands m (fs ++ past) → length fs ≡ length xs → Behind fs xs →
      (ys : List ℕ) → Kept m.«cap» m.needs (xs ++ past) → Stepwise m (xs ++ past) ys →
      (i : ℕ) → i ≤ length ys → total fs + total (take i (forecast_levels m (length ys))) ≤ total xs + total (take i ys)
  delivers_least m fs xs s e behind [] kept steps zero h = omega (arith, behind 0)
  delivers_least m fs xs s e behind [] kept steps (suc i) h = absurd (omega arith)
  delivers_least m fs xs s e behind (y ∷ ys) kept steps zero h = omega (arith, behind 0)
  delivers_least m fs xs s e behind (y ∷ ys) kept steps (suc i) h =
      let next = granted m (lowest m) in
      let kept₂ : Kept m.«cap» m.needs (y ∷ (xs ++ past)) = curve_kept m s.some_need s.met y (xs ++ past) steps.0 steps.1 kept in
      let t = stands_granted m (fs ++ past) s (lowest m) (omega arith) (omega arith) in
      let rest = delivers_least next (lowest m ∷ fs) (y ∷ xs) t (ap suc e) (stays_behind m fs xs s e behind y kept₂) ys kept₂
      (steps_same m next refl refl (y ∷ (xs ++ past)) ys steps.2) i (omega arith) in
      omega (arith, rest)

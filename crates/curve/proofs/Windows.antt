-- Windows of past levels.
use Rattle.std.proofs.Common.{◌≡◌, ℕ, zero, suc, ◌+◌, ◌*◌, ◌≤◌, List, [], ◌∷◌, map, get_or, drop, sum, refl, zero-le, suc-add, zero-add, arith}
use Rattle.contract.specs.Meaning.{Meaning, memory, need}
use Rattle.curve.specs.Curve.{Each, needs_of}
use Rattle.curve.specs.Lawful.{energy}
use Rattle.curve.proofs.Totals.{sum-cons}

-- a window is its newer part and its older part
energy_split : (top : ℕ) (past : List ℕ) (k L : ℕ) → energy top past (k + L) ≡ energy top past k + energy top (drop k past) L
energy_split top past zero L = rw (zero-add L, zero-add (energy top past L))
energy_split top [] (suc k) L = rw suc-add (omega (arith, energy_split top [] k L, dropped k))
  where
    dropped : (k : ℕ) → energy top (drop k []) L ≡ energy top [] L
    dropped zero = refl
    dropped (suc k) = refl
energy_split top (y ∷ past) (suc k) L = rw suc-add (omega (arith, energy_split top past k L))

-- the cap-filled past
pub energy_past : (top k : ℕ) → energy top [] k ≡ k * top
energy_past top zero = omega arith
energy_past top (suc k) = omega (arith, energy_past top k)

-- each past level is within the cap, and every window that ends in the past holds its need
abbrev pub Kept : ℕ → List ℕ → List ℕ → Type 0
Kept top ns [] = Unit
Kept top ns (y ∷ past) = (y ≤ top) × ((k : ℕ) → get_or ns k 0 ≤ energy top (y ∷ past) (suc k)) × Kept top ns past

abbrev pub Met : ℕ → List ℕ → Type 0
Met top ns = (k : ℕ) → get_or ns k 0 ≤ suc k * top

module _ (top : ℕ) (ns : List ℕ) (met : Met top ns) where
  kept_window : (past : List ℕ) → Kept top ns past → (k : ℕ) → get_or ns k 0 ≤ energy top past (suc k)
  kept_window [] kept k = omega (arith, met k, energy_past top (suc k))
  kept_window (y ∷ past) kept k = kept.1 k

  kept_drop : (past : List ℕ) (k : ℕ) → Kept top ns past → Kept top ns (drop k past)
  kept_drop past zero kept = kept
  kept_drop [] (suc k) kept = kept
  kept_drop (y ∷ past) (suc k) kept = kept_drop past k kept.2

  -- one slot more adds at most the cap
  energy_step : (past : List ℕ) → Kept top ns past → (k : ℕ) → energy top past (suc k) ≤ energy top past k + top
  energy_step [] kept k = omega arith
  energy_step (y ∷ past) kept zero = omega arith
  energy_step (y ∷ past) kept (suc k) = omega (arith, energy_step past kept.2 k)

  -- so the cap is always enough for the next level
  pub cap_enough : (past : List ℕ) → Kept top ns past → (k : ℕ) → get_or ns k 0 ≤ top + energy top past k
  cap_enough past kept k = omega (arith, kept_window past kept k, energy_step past kept k)

-- every window holds the needs of every way to split it
pub kept_way : (m : Meaning) → Met m.«cap» m.needs → (parts : List ℕ) (past : List ℕ) → Kept m.«cap» m.needs past →
    Each (λ k. (1 ≤ k) × (k ≤ memory m)) parts → needs_of m parts ≤ energy m.«cap» past (sum parts)
kept_way m met [] past kept each = zero-le
kept_way m met (zero ∷ parts) past kept each = absurd (omega (arith, each.0.0))
kept_way m met (suc k ∷ parts) past kept each =
    let top = m.«cap» in
    let rest = kept_way m met parts (drop (suc k) past) (kept_drop top m.needs met past (suc k) kept) each.1 in
    rw (sum-cons (suc k) parts, energy_split top past (suc k) (sum parts))
    (omega (arith, kept_window top m.needs met past kept k, rest, sum-cons (need m (suc k)) (map (need m) parts)))

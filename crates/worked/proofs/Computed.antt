-- The examples, by computation.
use Rattle.std.proofs.Common.{ℕ, zero, suc, ◌<◌, ◌≤◌, List, [], ◌∷◌, negsuc, ◌≤ℤ◌, ◌<ℤ◌, refl, arith, lit≤}
use lib.Signed.{le_z_yes, lt_z_yes}
use Rattle.windows.specs.Verdicts.{margin, shown, Judges}
use Rattle.curve.specs.Worked.{hand_switch}
use Rattle.curve.proofs.Worked.{worked as worked_by_hand}
use Rattle.worked.specs.Examples.{hand_verdict, Worked}
use Rattle.windows.proofs.Margins.{judges}

abbrev hand_record : List ℕ
hand_record = 40 ∷ 30 ∷ 100 ∷ []

-- what holds at each length up to the memory
one_to_four : (P : ℕ → Type 0) → P 1 → P 2 → P 3 → P 4 → (k : ℕ) → 1 ≤ k → k ≤ 4 → P k
one_to_four P p q r s zero low high = absurd (omega arith)
one_to_four P p q r s (suc zero) low high = p
one_to_four P p q r s (suc (suc zero)) low high = q
one_to_four P p q r s (suc (suc (suc zero))) low high = r
one_to_four P p q r s (suc (suc (suc (suc zero)))) low high = s
one_to_four P p q r s (suc (suc (suc (suc (suc k))))) low high = absurd (omega arith)

-- the margins of its windows: slot 1 has 40, 40, 40, 40; slot 2 has 30, -30, -30, -30; slot 3 has 100, 30, -30, -30
abbrev AtLeast : ℕ → ℕ → Type 0
AtLeast e k = negsuc 29 ≤ℤ margin hand_switch hand_record e k

none_lower : (e k : ℕ) → 1 ≤ e → e ≤ 3 → 1 ≤ k → k ≤ 4 → AtLeast e k
none_lower zero k a b = absurd (omega arith)
none_lower (suc zero) k a b = one_to_four (AtLeast 1) (le_z_yes tt) (le_z_yes tt) (le_z_yes tt) (le_z_yes tt) k
none_lower (suc (suc zero)) k a b = one_to_four (AtLeast 2) (le_z_yes tt) (le_z_yes tt) (le_z_yes tt) (le_z_yes tt) k
none_lower (suc (suc (suc zero))) k a b = one_to_four (AtLeast 3) (le_z_yes tt) (le_z_yes tt) (le_z_yes tt) (le_z_yes tt) k
none_lower (suc (suc (suc (suc e)))) k a b = absurd (omega arith)

abbrev Above : ℕ → ℕ → Type 0
Above e k = negsuc 29 <ℤ margin hand_switch hand_record e k

higher_before : (e k : ℕ) → 1 ≤ e → e < 2 → 1 ≤ k → k ≤ 4 → Above e k
higher_before zero k a b = absurd (omega arith)
higher_before (suc zero) k a b = one_to_four (Above 1) (lt_z_yes tt) (lt_z_yes tt) (lt_z_yes tt) (lt_z_yes tt) k
higher_before (suc (suc e)) k a b = absurd (omega arith)

higher_shorter : (k : ℕ) → 1 ≤ k → k < 2 → Above 2 k
higher_shorter zero a b = absurd (omega arith)
higher_shorter (suc zero) a b = lt_z_yes tt
higher_shorter (suc (suc k)) a b = absurd (omega arith)

pub hand_judged : Judges hand_switch hand_record hand_verdict
hand_judged =
    judges hand_switch worked_by_hand.switch_new.limits hand_record (lit≤ tt, (lit≤ tt, (lit≤ tt, tt))) (shown hand_verdict) hand_verdict
    (record {
      end_least = lit≤ tt;
      end_most = lit≤ tt;
      length_least = lit≤ tt;
      length_most = lit≤ tt;
      value = refl;
      least = none_lower;
      earliest = higher_before;
      shortest = higher_shorter;
    })
    (record { shows = refl; by_sign = ((λ kept. absurd kept), (λ sign. sign.le)) })

pub worked : Worked
worked = record { forecast_40 = refl; energy_40 = refl; record_judged = hand_judged }

-- The curve in a caller's list.
use Rattle.std.specs.Prelude.{◌≡◌, ℕ, suc, ◌<◌, ◌≤◌, List, length, Some, None, Option, All, nat_lt, slice_index}
use Rattle.windows.specs.declared.refusals.ListFault.{ListFault}
use Rattle.windows.specs.declared.refusals.ListFault.TheVariants.{TooLong}
use Rattle.contract.specs.Meaning.{Meaning}
use Rattle.contract.specs.Faults.{refuse_if}
use Rattle.curve.specs.Curve.{IsCurve}

-- a list of more than 65,535 places is refused
abbrev pub curve_refusal : ℕ → Option ListFault
curve_refusal places = refuse_if (nat_lt 65535 places) TooLong None

-- what the list holds after the call: the curve at length 1 in its first place, and so on; after a refusal what it held
abbrev pub CurveList : Meaning → Option ListFault → List ℕ → List ℕ → Type 0
CurveList m None old new = (length new ≡ length old) × ((k : ℕ) → k < length new → IsCurve m (suc k) (slice_index new k))
CurveList m (Some f) old new = new ≡ old

-- no entry is above 65,535 times the greatest cap
abbrev pub InRange : List ℕ → Type 0
InRange xs = All (λ e. e ≤ 1310700000) xs

-- The least of some margins, and the tightest window one slot on.
use Rattle.std.proofs.Common.{◌≡◌, ℕ, suc, ◌+◌, ◌-◌, ◌<◌, ◌≤◌, max, Bool, true, false, ltb, ◌↔◌, List, [], ◌∷◌, reverse, length, get_or, take, ℤ, pos, ◌-ℤ◌, ◌≤ℤ◌, ◌<ℤ◌, Some, None, Option, sym, refl, ap, ◌∙◌, subst, inl, inr, ⊎_elim, arith, w32, to_z, of_z}
use Rattle.std.specs.Int.{int_min, int_max}
use Rattle.std.specs.Int.Signed.{mag, <ℤ-≤ℤ_trans}
use Rattle.std.proofs.lemmas.Int.{ints, clamps, by_lt_z, to_z-of_z}
use Rattle.std.proofs.lemmas.Bool.{cases_lt, ltb-true, ltb-false, le-ltb}
use Rattle.contract.specs.Meaning.{Meaning, Limits, memory, need}
use Rattle.windows.specs.declared.refusals.ListFault.{ListFault}
use Rattle.windows.specs.declared.refusals.ListFault.TheVariants.{AboveCap, TooLong}
use Rattle.contract.specs.Faults.{refuse_if, or_else}
use Rattle.contract.proofs.Scans.{each_passes}
use Rattle.curve.specs.Curve.{Each}
use Rattle.curve.specs.Lawful.{energy, Lawful}
use Rattle.windows.proofs.Records.{holds_lawful, lawful_holds}
use Rattle.windows.specs.Sums.{Ending, margin_at}
use Rattle.windows.specs.Verdicts.{margin, IsTightest, Tells, IsKept, NotNegative, Judges, first_above, verdict_refusal}
use Rattle.windows.specs.Judging.{TightestHere, Chosen, Decided}
use Rattle.windows.specs.declared.verdicts.Tightest.{Tightest}
use Rattle.windows.specs.declared.verdicts.Verdict.{Verdict}

-- an integer that fits, through its bits and back
pub through : (z : ℤ) → mag z < 2147483648 → to_z w32 (of_z w32 z) ≡ z
through z h = to_z-of_z w32 z (record { sfits = h })

-- one more margin
module _ (f : ℕ → ℤ) (n k : ℕ) (z y : ℤ) (e : y ≡ int_min z (f k)) where
  pub bound_more : ((j : ℕ) → j < k → z ≤ℤ f j) → (j : ℕ) → j < k + 1 → y ≤ℤ f j
  bound_more bound j h =
      ⊎_elim
      (λ (l : j < k). omega (arith, ints, clamps, e, bound j l))
      (λ (l : k ≤ j). let d : k ≡ j = omega arith in subst (λ t. y ≤ℤ f t) d (omega (arith, ints, clamps, e)))
      (cases_lt j k)

  pub attained_more : k < n → (j : ℕ) × (j < n) × (f j ≤ℤ z) → (j : ℕ) × (j < n) × (f j ≤ℤ y)
  attained_more h old =
      by_lt_z (f k) z
      (λ less. (k, h, omega (arith, ints, clamps, e)))
      (λ more. (old.0, old.1, omega (arith, ints, clamps, e, old.2)))

-- the margins of the windows that end in one slot, by the sums and the needs that were read
pub margin_read : (m : Meaning) (xs : List ℕ) (e : ℕ) (needs sums : List ℕ) → needs ≡ m.needs → Ending m (reverse (take e xs)) sums →
    (k : ℕ) → k < memory m → margin_at needs sums k ≡ margin m xs e (suc k)
margin_read m xs e needs sums read ending k h =
    ap (λ (t : ℕ). pos t -ℤ pos (get_or needs k 0)) (ending k h)
    ∙ ap (λ (ns : List ℕ). pos (energy m.«cap» (reverse (take e xs)) (suc k)) -ℤ pos (get_or ns k 0)) read

-- one slot on: f has the margins of the windows that end there
module _ (m : Meaning) (xs : List ℕ) (i n : ℕ) (f : ℕ → ℤ) (sized : n ≡ memory m) (same : (k : ℕ) → k < memory m → f k ≡ margin m xs (i + 1) (suc k)) where
  at : (k : ℕ) → 1 ≤ k → k ≤ memory m → f (k - 1) ≡ margin m xs (i + 1) k
  at k low high =
      let e : suc (k - 1) ≡ k = omega arith in
      same (k - 1) (omega arith) ∙ ap (margin m xs (i + 1)) e

  -- a margin that is not above those of this slot, nor above those before
  reaches : (z : ℤ) → ((k : ℕ) → k < n → z ≤ℤ f k) → ((e k : ℕ) → 1 ≤ e → e ≤ i → 1 ≤ k → k ≤ memory m → z ≤ℤ margin m xs e k) →
      (e k : ℕ) → 1 ≤ e → e ≤ i + 1 → 1 ≤ k → k ≤ memory m → z ≤ℤ margin m xs e k
  reaches z here before e k a b c d =
      ⊎_elim
      (λ (l : e < i + 1). before e k a (omega arith) c d)
      (λ (l : i + 1 ≤ e).
      let q : i + 1 ≡ e = omega arith in
      subst (λ t. z ≤ℤ margin m xs t k) q (subst (λ t. z ≤ℤ t) (at k c d) (here (k - 1) (omega arith))))
      (cases_lt e (i + 1))

  keeps : (t : Tightest) → IsTightest m xs i t → ((k : ℕ) → k < n → t.margin ≤ℤ f k) → IsTightest m xs (i + 1) t
  keeps t s here = record {
    end_least = s.end_least;
    end_most = omega (arith, s.end_most);
    length_least = s.length_least;
    length_most = s.length_most;
    value = s.value;
    least = reaches t.margin here s.least;
    earliest = s.earliest;
    shortest = s.shortest;
  }

  takes : (t : Tightest) → TightestHere f n (i + 1) t → ((e k : ℕ) → 1 ≤ e → e ≤ i → 1 ≤ k → k ≤ memory m → t.margin <ℤ margin m xs e k) → IsTightest m xs (i + 1) t
  takes t s less =
      let long : t.length ≤ memory m = omega (arith, s.length.high) in
      let low = s.length.low in
      let value : t.margin ≡ margin m xs (i + 1) t.length =
      omega (arith, ints, s.least.bound (t.length - 1) (omega (arith, low)), s.length.here, at t.length low long) in
      record {
        end_least = omega (arith, s.ends);
        end_most = omega (arith, s.ends);
        length_least = low;
        length_most = long;
        value = value ∙ ap (λ (e : ℕ). margin m xs e t.length) (sym s.ends);
        least = reaches t.margin s.least.bound (λ e k a b c d. omega (arith, ints, less e k a b c d));
        earliest = λ e k a (b : e < t.end) c d. less e k a (omega (arith, s.ends)) c d;
        shortest = λ k a (b : k < t.length).
            let e : margin m xs (i + 1) k ≡ margin m xs t.end k = ap (λ (j : ℕ). margin m xs j k) (sym s.ends) in
            subst (λ z. t.margin <ℤ z) (at k a (omega arith) ∙ e) (s.length.before (k - 1) (omega arith));
      }

  pub tightest_more : (old : Option Tightest) (t : Tightest) → Tells m xs i old → Chosen f n (i + 1) old t → IsTightest m xs (i + 1) t
  tightest_more old t tells (inl stays) = keeps t (subst (Tells m xs i) stays.0 tells) stays.1
  tightest_more None t tells (inr comes) = takes t comes.0 (λ e k a b c d. absurd (omega arith))
  tightest_more (Some o) t tells (inr comes) =
      takes t comes.0 (λ e k a b c d. <ℤ-≤ℤ_trans (comes.1 o refl) (tells.least e k a b c d))

not_negative : (a b : ℕ) → b ≤ a → pos 0 ≤ℤ (pos a -ℤ pos b)
not_negative a b h = omega (arith, ints)

covers : (a b : ℕ) (z : ℤ) → pos 0 ≤ℤ z → z ≤ℤ (pos a -ℤ pos b) → b ≤ a
covers a b z p q = omega (arith, ints)

-- the least margin is not negative exactly if every window holds its curve
pub kept_lawful : (m : Meaning) → Limits m → (xs : List ℕ) → Each (λ y. y ≤ m.«cap») xs → (o : Option Tightest) → Tells m xs (length xs) o → NotNegative o ↔ Lawful m [] xs
kept_lawful m limits xs each None none = ((λ _. holds_lawful m limits xs each (λ e k a b c d. absurd (omega arith))), (λ _. tt))
kept_lawful m limits xs each (Some t) tells = (
  (λ sign. holds_lawful m limits xs each (λ e k a b c d. covers (energy m.«cap» (reverse (take e xs)) k) (need m k) t.margin sign (tells.least e k a b c d))),
  (λ lawful.
      let holds = lawful_holds m limits xs lawful t.end t.length tells.end_least tells.end_most tells.length_least tells.length_most in
      subst (λ z. pos 0 ≤ℤ z) (sym tells.value) (not_negative (energy m.«cap» (reverse (take t.end xs)) t.length) (need m t.length) holds)),
)

-- no level of the record is above the cap
pub within_cap : (top : ℕ) (xs : List ℕ) → first_above top 1 xs ≡ None → (j : ℕ) → j < length xs → get_or xs j 0 ≤ top
within_cap top xs none j h = ltb-false top (get_or xs j 0) (each_passes (λ i x. ltb top x) AboveCap 1 xs none j h)

pub each_within : (top : ℕ) (xs : List ℕ) → ((j : ℕ) → j < length xs → get_or xs j 0 ≤ top) → Each (λ y. y ≤ top) xs
each_within top [] within = tt
each_within top (x ∷ xs) within = (within 0 (omega arith), each_within top xs (λ j h. within (suc j) (omega arith)))

-- a record within the cap is refused only where it is too long
none_above : (top i : ℕ) (xs : List ℕ) → Each (λ y. y ≤ top) xs → first_above top i xs ≡ None
none_above top i [] each = refl
none_above top i (x ∷ xs) each =
    ap (λ t. refuse_if t (AboveCap i) (first_above top (i + 1) xs)) (le-ltb top x each.0) ∙ none_above top (i + 1) xs each.1

pub only_too_long : (m : Meaning) (xs : List ℕ) (c : ListFault) → Each (λ y. y ≤ m.«cap») xs → verdict_refusal m xs ≡ Some c → (65535 < length xs) × (c ≡ TooLong)
only_too_long m xs c each e =
    by_length (ltb 65535 (length xs)) refl (sym (ap (λ o. or_else o (refuse_if (ltb 65535 (length xs)) TooLong None)) (none_above m.«cap» 1 xs each)) ∙ e)
  where
    by_length : (b : Bool) → ltb 65535 (length xs) ≡ b → refuse_if b TooLong None ≡ Some c → (65535 < length xs) × (c ≡ TooLong)
    by_length true t d = (ltb-true 65535 (length xs) t, cc)
    by_length false t d = cc

both : {P Q R : Type 0} → P ↔ Q → Q ↔ R → P ↔ R
both p q = ((λ x. q.0 (p.0 x)), (λ z. p.1 (q.1 z)))

-- the verdict that is shown of the tightest window of a whole record
pub judges : (m : Meaning) → Limits m → (xs : List ℕ) → Each (λ y. y ≤ m.«cap») xs → (o : Option Tightest) (v : Verdict) → Tells m xs (length xs) o → Decided o v → Judges m xs v
judges m limits xs each o v tells decided = record {
  tells = subst (Tells m xs (length xs)) (sym decided.shows) tells;
  by_sign = subst (λ w. IsKept v ↔ NotNegative w) (sym decided.shows) decided.by_sign;
  by_curve = both decided.by_sign (kept_lawful m limits xs each o tells);
}

-- the greater of what is owed so far and what one more length asks, with and without a sign
pub owed_signed : (g a b : ℕ) (x y : ℤ) → x ≡ pos g → y ≡ pos a -ℤ pos b → int_max x y ≡ pos (max g (a - b))
owed_signed g a b x y p q = omega (arith, ints, clamps)

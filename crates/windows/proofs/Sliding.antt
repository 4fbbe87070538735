-- Window sums, one slot on.
use Rattle.std.proofs.Common.{◌≡◌, ℕ, zero, suc, ◌+◌, ◌-◌, ◌<◌, ◌≤◌, min, max, ◌≢◌, List, [], ◌∷◌, reverse, length, get_or, take, drop, set, sum, sym, refl, ap, ◌∙◌, subst, ⊎_elim, add-one, arith}
use Rattle.std.proofs.lemmas.List.{take_more, take-take, reverse-append, length-take, length-drop, get_or-take, get_or-drop, get_or-set_same, get_or-set_other}
use Rattle.std.proofs.lemmas.Bool.{cases_eq}
use Rattle.std.proofs.lemmas.List.Sums.{sum_by-cons}
use Rattle.contract.specs.Meaning.{Meaning, memory, greatest, newest, owed, lowest, granted}
use Rattle.curve.specs.Lawful.{energy}
use Rattle.windows.specs.Sums.{Recent, Ending, Slid, owed_by}
use Rattle.windows.specs.Windows.{Recalled, lengths}
use Rattle.windows.specs.declared.conditions.Conditions.{Conditions}
use Rattle.windows.specs.declared.sums.Windows.{Windows}

-- the sum of the i newest levels written to its place
pub newest-set : (m : Meaning) (xs : List ℕ) (i v : ℕ) → 1 ≤ i → i - 1 < length xs → ((k : ℕ) → suc k < i → get_or xs k 0 ≡ newest m (suc k)) → v ≡ newest m ((i + 1) - 1) →
    (k : ℕ) → suc k < i + 1 → get_or (set xs (i - 1) v) k 0 ≡ newest m (suc k)
newest-set m xs i v least within below here k h =
    ⊎_elim
    (λ (e : k ≡ i - 1).
    let d : (i + 1) - 1 ≡ suc k = omega arith in
    ap (λ (t : ℕ). get_or (set xs (i - 1) v) t 0) e ∙ get_or-set_same xs (i - 1) v 0 within ∙ here ∙ ap (newest m) d)
    (λ (ne : k ≢ i - 1). get_or-set_other xs (i - 1) k v 0 ne ∙ below k (omega arith))
    (cases_eq k (i - 1))

-- the newest levels after a grant
newest-granted : (m : Meaning) (x k : ℕ) → suc k < memory m → newest (granted m x) (suc k) ≡ x + newest m k
newest-granted m x k h =
    ap sum (take-take (suc k) (memory m - 1) (x ∷ m.recall) (omega arith)) ∙ sum_by-cons (λ y. y) x (take k m.recall)

-- sums of recalled levels slide with a grant
pub recent_slid : (m : Meaning) (x : ℕ) (old new : List ℕ) → Slid x (memory m) old new → Recent m old → Recent (granted m x) new
recent_slid m x old new slid recent zero h = slid 0 (omega arith) ∙ sym (newest-granted m x 0 h)
recent_slid m x old new slid recent (suc k) h =
    slid (suc k) (omega arith) ∙ ap (λ (t : ℕ). x + t) (recent k (omega arith)) ∙ sym (newest-granted m x (suc k) h)

-- sums of windows slide with the next slot of a record
past_more : (xs : List ℕ) (i : ℕ) → i < length xs → reverse (take (i + 1) xs) ≡ get_or xs i 0 ∷ reverse (take i xs)
past_more xs i h = ap reverse (take_more xs i 0 h) ∙ reverse-append (take i xs) (get_or xs i 0 ∷ [])

pub ending_slid : (m : Meaning) (xs : List ℕ) (i : ℕ) (old new : List ℕ) → i < length xs → Slid (get_or xs i 0) (memory m) old new → Ending m (reverse (take i xs)) old → Ending m (reverse (take (i + 1) xs)) new
ending_slid m xs i old new h slid ending k l =
    shift k l ∙ sym (ap (λ (p : List ℕ). energy m.«cap» p (suc k)) (past_more xs i h))
  where
    shift : (j : ℕ) → j < memory m → get_or new j 0 ≡ get_or xs i 0 + energy m.«cap» (reverse (take i xs)) j
    shift zero lt = slid 0 lt
    shift (suc j) lt = slid (suc j) lt ∙ ap (λ (t : ℕ). get_or xs i 0 + t) (ending j (omega arith))

greatest_same : (f h : ℕ → ℕ) (n : ℕ) → ((k : ℕ) → k < n → f (suc k) ≡ h (suc k)) → greatest f n ≡ greatest h n
greatest_same f h zero same = refl
greatest_same f h (suc n) same = omega (arith, same n (omega arith), greatest_same f h n (λ k l. same k (omega arith)))

-- the lowest level by the conditions and the sums that were read
pub lowest_read : (m : Meaning) (c : Conditions) (w : Windows) → Recalled m c w → min c.«cap» (greatest (owed_by c.needs.items w.sums) (lengths c)) ≡ lowest m
lowest_read m c w r =
    ap (λ (t : ℕ). min t (greatest (owed_by c.needs.items w.sums) (lengths c))) r.conditions.0
    ∙ ap (λ (ns : List ℕ). min m.«cap» (greatest (owed_by ns w.sums) (length ns))) r.conditions.1
    ∙ ap (min m.«cap») (greatest_same (owed_by m.needs w.sums) (owed m) (memory m) same)
  where
    same : (k : ℕ) → k < memory m → owed_by m.needs w.sums (suc k) ≡ owed m (suc k)
    same zero l = omega arith
    same (suc k) l =
        let d : suc (suc k) - 1 ≡ suc k = omega arith in
        rw d (omega (arith, r.sums k l))

-- a grant of x leaves the windows that have slid by x
pub recalled_slid : (m : Meaning) (c : Conditions) (x : ℕ) (old new : Windows) → Slid x (lengths c) old.sums new.sums → Recalled m c old → Recalled (granted m x) c new
recalled_slid m c x old new slid r = record {
  conditions = r.conditions;
  sums = recent_slid m x old.sums new.sums (subst (λ (ns : List ℕ). Slid x (length ns) old.sums new.sums) r.conditions.1 slid) r.sums;
}

-- what one more length asks
pub greatest_next : (needs sums : List ℕ) (k : ℕ) → k < length (take (length needs - 1) (drop 1 needs)) →
    greatest (owed_by needs sums) (k + 1 + 1) ≡ max (greatest (owed_by needs sums) (k + 1)) (get_or (take (length needs - 1) (drop 1 needs)) k 0 - get_or sums k 0)
greatest_next needs sums k h =
    let bound = simp (length-take, length-drop) at h in
    let within : k < length needs - 1 = omega arith in
    let e : k + 1 ≡ suc k = add-one k in
    let e2 : suc k + 1 ≡ suc (suc k) = add-one (suc k) in
    let d : suc (suc k) - 1 ≡ suc k = omega arith in
    let o : 1 + k ≡ suc k = omega arith in
    rw (get_or-take, get_or-drop, e, e2, d, o)

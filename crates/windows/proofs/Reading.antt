-- What is read of a contract: its needs, and the sums of its newest levels.
use Rattle.std.proofs.Common.{◌≡◌, ℕ, zero, suc, ◌+◌, ◌-◌, ◌*◌, ◌<◌, ◌≤◌, ◌≢◌, List, ◌++◌, length, get_or, take, drop, set, replicate, sym, refl, subst, ⊎_elim, mul-le-mul, arith}
use Rattle.std.proofs.lemmas.List.{get_or_past, get_or-set_same, get_or-set_other, get_or-take, get_or-drop, get_or_append_left, get_or-append_right, length-take}
use Rattle.std.proofs.lemmas.Bool.{cases_lt, cases_eq}
use Rattle.contract.specs.Meaning.{Meaning, Limits, memory}
use Rattle.windows.specs.Sums.{Low}

-- no need is above 96 times 20,000
pub need_limit : (m : Meaning) → Limits m → (k : ℕ) → k < memory m → get_or m.needs k 0 ≤ 1920000
need_limit m s k h =
    let a : suc k ≤ 96 = omega (arith, s.memory_most) in
    let p : suc k * m.«cap» ≤ 96 * 20000 = mul-le-mul a s.cap_most in
    omega (arith, p, s.need_most (suc k))

-- a sum written to its place stays low
pub low_set : (sums : List ℕ) (i v : ℕ) → i < length sums → Low sums → v ≤ suc i * 20000 → Low (set sums i v)
low_set sums i v h low here k =
    ⊎_elim
    (λ (e : k ≡ i). subst (λ (t : ℕ). get_or (set sums i v) t 0 ≤ suc t * 20000) (sym e) (omega (arith, get_or-set_same sums i v 0 h)))
    (λ (ne : k ≢ i). omega (arith, get_or-set_other sums i k v 0 ne, low k))
    (cases_eq k i)

-- an array of zeros, its first places and the others
pub zeros : (n k : ℕ) → ◌≡◌ {A = ℕ} (get_or (replicate n 0) k 0) 0
zeros zero k = refl
zeros (suc n) zero = refl
zeros (suc n) (suc k) = zeros n k

pub low_start : (n k : ℕ) → Low (take n (replicate k 0))
low_start n k j =
    ⊎_elim
    (λ (h : j < n). omega (arith, get_or-take {A = ℕ} n (replicate k 0) j 0 h, zeros k j))
    (λ (h : n ≤ j). omega (arith, get_or_past {X = ℕ} (take n (replicate k 0)) j 0 (omega (arith, length-take {A = ℕ} n (replicate k 0)))))
    (cases_lt j n)

pub low_front : (sums : List ℕ) (n k : ℕ) → Low sums → Low (sums ++ drop n (replicate k 0))
low_front sums n k low j =
    ⊎_elim
    (λ (h : j < length sums). omega (arith, get_or_append_left sums (drop n (replicate k 0)) 0 j h, low j))
    (λ (h : length sums ≤ j).
    let past = get_or-append_right sums (drop n (replicate k 0)) (length sums) j 0 refl h in
    omega (arith, past, get_or-drop {A = ℕ} n (replicate k 0) (j - length sums) 0, zeros k (n + (j - length sums))))
    (cases_lt j (length sums))

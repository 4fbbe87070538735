-- Needs that are not refused are at most their length times the cap.
use Rattle.std.proofs.Common.{◌≡◌, ℕ, ◌+◌, ◌-◌, ◌*◌, ◌≤◌, ltb, List, ◌∷◌, get_or, None, subst, arith}
use Rattle.std.proofs.lemmas.Bool.{ltb-false}
use Rattle.contract.specs.Faults.{contract_fault}
use Rattle.contract.proofs.Scans.{each_passes}
use Rattle.kinds.specs.Kinds.{too_great}
use Rattle.kinds.specs.Places.{place_all}

pub needs_most : (top : ℕ) (xs : List ℕ) → too_great top 1 xs ≡ None → (k : ℕ) → get_or (0 ∷ xs) k 0 ≤ k * top
needs_most top xs none =
    place_all (λ k v. v ≤ k * top) xs (λ k. omega arith)
    (λ k low high.
    let e : 1 + (k - 1) ≡ k = omega arith in
    let at : get_or xs (k - 1) 0 ≤ (1 + (k - 1)) * top = ltb-false ((1 + (k - 1)) * top) (get_or xs (k - 1) 0) (each_passes (λ i x. ltb (i * top) x) (contract_fault 5) 1 xs none (k - 1) (omega arith)) in
    subst (λ t. get_or xs (k - 1) 0 ≤ t * top) e at)

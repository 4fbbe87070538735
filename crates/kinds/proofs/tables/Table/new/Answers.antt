use Rattle.std.proofs.Common.{◌≡◌, ℕ, ◌*◌, ◌≤◌, List, ◌∷◌, length, get_or, sym, refl, ap, ◌∙◌, subst}
use Rattle.kinds.specs.Kinds.{new_table}
use Rattle.kinds.specs.Listed.{listed}
use Rattle.kinds.specs.Sizes.{Sizes}
use Rattle.kinds.specs.Recalls.{begun_ring, new_ring}
use Rattle.kinds.proofs.Scans.{needs_most}
use Rattle.kinds.proofs.Taken.{taken_sizes, taken_needs}
use Rattle.kinds.proofs.tables.Table.new.Goals as goal

-- what holds of the list given holds of the list kept
sizes_kept : (top : ℕ) (xs ys : List ℕ) → ys ≡ xs → Sizes top (length xs) → Sizes top (length ys)
sizes_kept top xs ys e = subst (λ l. Sizes top (length l)) (sym e)

most_kept : (top : ℕ) (xs ys : List ℕ) → ys ≡ xs → ((k : ℕ) → get_or (0 ∷ xs) k 0 ≤ k * top) → (k : ℕ) → get_or (0 ∷ ys) k 0 ≤ k * top
most_kept top xs ys e = subst (λ l. (k : ℕ) → get_or (0 ∷ l) k 0 ≤ k * top) (sym e)

pub invariant_of-result : goal.invariant_of-result
invariant_of-result c =
    let top = c.args.«cap» in
    let xs = c.args.needs.now in
    let told = c.in_ok-needs.ensures in
    let taken = sym told.answer in
    record {
      sizes = sizes_kept top xs _ told.made (taken_sizes top xs taken);
      most = most_kept top xs _ told.made (needs_most top xs (taken_needs top xs taken));
      held = c.new-ring.ensures.held;
    }

pub returns-clause-made : goal.returns-clause-made
returns-clause-made c =
    let top = c.args.«cap» in
    let xs = c.args.needs.now in
    let told = c.in_ok-needs.ensures in
    let ys = listed c.in_ok-needs.needs in
    let sizes = sizes_kept top xs ys told.made (taken_sizes top xs (sym told.answer)) in
    begun_ring top (length ys) ys refl c.new-ring.result sizes.3 c.new-ring.ensures.full ∙ ap (new_table top) told.made

pub returns-clause-begun : goal.returns-clause-begun
returns-clause-begun c =
    let top = c.args.«cap» in
    let xs = c.args.needs.now in
    let told = c.in_ok-needs.ensures in
    let taken = sym told.answer in
    let ys = listed c.in_ok-needs.needs in
    new_ring top (length ys) ys refl c.new-ring.result
    (sizes_kept top xs ys told.made (taken_sizes top xs taken))
    (most_kept top xs ys told.made (needs_most top xs (taken_needs top xs taken)))
    c.new-ring.ensures.held
    c.new-ring.ensures.full

use Rattle.std.proofs.Common.{ℕ, ◌+◌, ◌-◌, List, length, get_or, take, drop, pos, sym, ap, ◌∙◌}
use Rattle.contract.specs.Meaning.{greatest}
use Rattle.windows.specs.Sums.{owed_by}
use Rattle.windows.proofs.Margins.{through, owed_signed}
use Rattle.windows.proofs.Sliding.{greatest_next}
use Rattle.windows.proofs.sums.Windows.lowest.Goals as goal

pub loop-k-preserved : goal.loop-k-preserved
loop-k-preserved c =
    let k = c.loop-k.k in
    let sums = c.args.self.now.sums in
    let needs = c.as_slice-needs.result.now in
    let asks = get_or (take (length needs - 1) (drop 1 needs)) k 0 in
    let g = greatest (owed_by needs sums) (k + 1) in
    let read = c.as_slice-needs.ensures.value in
    let before = c.loop-k.invariant ∙ ap (λ (ns : List ℕ). pos (greatest (owed_by ns sums) (k + 1))) (sym read) in
    through c.max-owed.result c.max-owed.type_inv
    ∙ c.max-owed.ensures.value
    ∙ owed_signed g asks (get_or sums k 0) _ _ before (through c.excess.result c.excess.type_inv ∙ c.excess.ensures)
    ∙ ap pos (sym (greatest_next needs sums k c.loop-k-test.true))
    ∙ ap (λ (ns : List ℕ). pos (greatest (owed_by ns sums) (k + 1 + 1))) read

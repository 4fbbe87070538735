use Rattle.std.proofs.Common.{◌≡◌, ℕ, ◌<◌, List, length, get_or, pos, ◌-ℤ◌, ap, ◌∙◌, subst}
use Rattle.std.specs.Int.{int_min}
use Rattle.windows.specs.Windows.{lengths, margin_of}
use Rattle.windows.proofs.Margins.{through, bound_more, attained_more}
use Rattle.windows.proofs.sums.Windows.least_margin.Goals as goal

pub loop-k-preserved : goal.loop-k-preserved
loop-k-preserved c =
    let k = c.loop-k.k in
    let w = c.args.self.now in
    let conditions = c.args.conditions.now in
    let f = margin_of conditions w in
    let read = c.as_slice-needs.ensures.value in
    let here : _ ≡ f k = through c.excess.result c.excess.type_inv ∙ c.excess.ensures ∙ ap (λ (ns : List ℕ). pos (get_or w.sums k 0) -ℤ pos (get_or ns k 0)) read in
    let within : k < lengths conditions = subst (λ (ns : List ℕ). k < length ns) read c.loop-k-test.true in
    let value = through c.min-least.result c.min-least.type_inv ∙ c.min-least.ensures.value ∙ ap (int_min _) here in
    (bound_more f (lengths conditions) k _ _ value c.loop-k.invariant.0, attained_more f (lengths conditions) k _ _ value within c.loop-k.invariant.1)

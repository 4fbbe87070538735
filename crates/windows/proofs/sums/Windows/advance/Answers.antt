use Rattle.std.proofs.Common.{ℕ, ◌∙◌, subst}
use Rattle.contract.specs.Meaning.{granted}
use Rattle.windows.specs.Windows.{Recalled}
use Rattle.windows.proofs.Sliding.{lowest_read, recalled_slid}
use Rattle.windows.proofs.sums.Windows.advance.Goals as goal

pub returns-clause-value : goal.returns-clause-value
returns-clause-value c = λ m r. c.lowest-level.ensures ∙ lowest_read m c.args.conditions.now c.args.self.now r

pub returns-clause-after : goal.returns-clause-after
returns-clause-after c = λ m r.
    subst (λ (x : ℕ). Recalled (granted m x) c.args.conditions.now c.slide.new.self) (c.lowest-level.ensures ∙ lowest_read m c.args.conditions.now c.args.self.now r)
    (recalled_slid m c.args.conditions.now c.lowest-level.result c.args.self.now c.slide.new.self c.slide.ensures r)

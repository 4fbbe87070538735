use Rattle.std.proofs.Common.{◌≡◌, length, get_or, inl, inr, ⊎_elim, rules}
use Rattle.std.specs.Slice.Iter.{iter_rest}
use Rattle.std.specs.Iterator.Adapters.{zip_first, zip_second, rev_source}
use Rattle.windows.proofs.Bests.{best_none, best_all}
use Rattle.windows.proofs.curves.next_length.Goals as goal

pub loop-need-init : goal.loop-need-init
loop-need-init c =
    let it = c.into_iter-need-iterator.result in
    let rest : iter_rest (zip_first it) ≡ c.args.needs.now = cc in
    let before : iter_rest (rev_source (zip_second it)) ≡ c.args.shorter.now = cc in
    let most : c.unwrap_or-most.result ≡ get_or c.args.needs.now (length c.args.shorter.now) 0 = search rules in
    best_none _ _ _ _ _ rest before most

pub returns : goal.returns
returns c =
    best_all _ _ _ _ (⊎_elim (λ p. inl p.1.0) (λ p. inr p.1.0) c.in-None.ensures.steps) c.loop-need.invariant

use Rattle.std.proofs.Common.{◌≡◌, [], ◌∷◌, ◌++◌, max, reverse}
use Rattle.std.specs.Slice.Iter.{iter_rest}
use Rattle.std.specs.Iterator.Adapters.{zip_first, zip_second, rev_source}
use Rattle.curve.specs.Curve.{best}
use Rattle.windows.proofs.curves.next_length.Given as goal

-- the best so far and the best of what is left
abbrev pub invariant-loop-need : goal.invariant-loop-need
invariant-loop-need l =
    max l.most (best (iter_rest (zip_first l.need-iterator)) (reverse (iter_rest (rev_source (zip_second l.need-iterator)))))
    ≡ best l.needs (reverse l.shorter ++ (0 ∷ []))

use Rattle.std.proofs.Common.{◌≡◌, ◌+◌, ◌++◌, length, take}
use Rattle.std.specs.Vec.Iter.{into_iter_items, into_iter_len}
use Rattle.desk.proofs.first_words.Given as goal

-- there is room for those that are still to be taken, and with them they are the first five
abbrev pub invariant-loop-word : goal.invariant-loop-word
invariant-loop-word l = record {
  many : into_iter_len l.word-iterator.iter ≡ length (into_iter_items l.word-iterator.iter);
  room : length l.first.items + l.word-iterator.n ≡ 5;
  whole : l.first.items ++ take l.word-iterator.n (into_iter_items l.word-iterator.iter) ≡ take 5 (into_iter_items l.fn.words);
}

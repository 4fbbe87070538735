use Rattle.std.proofs.Common.{◌≡◌, ◌+◌, pos}
use Rattle.contract.specs.Meaning.{greatest}
use Rattle.windows.specs.Sums.{owed_by}
use Rattle.windows.proofs.sums.Windows.lowest.Given as goal

abbrev pub invariant-loop-k : goal.invariant-loop-k
invariant-loop-k l = l.owed ≡ pos (greatest (owed_by l.conditions.needs.items l.self.sums) (l.k + 1))

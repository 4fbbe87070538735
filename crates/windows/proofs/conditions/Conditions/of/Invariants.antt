use Rattle.std.proofs.Common.{◌≡◌, take}
use Rattle.windows.proofs.conditions.Conditions.of.Given as goal

abbrev pub invariant-loop-k : goal.invariant-loop-k
invariant-loop-k g l = l.needs.items ≡ take l.k (g.C.Contract.meaning l.contract).needs

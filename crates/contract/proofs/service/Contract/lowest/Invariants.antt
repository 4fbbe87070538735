use Rattle.std.proofs.Common.{◌≡◌, ◌-◌, ◌*◌, ◌≤◌}
use Rattle.contract.specs.Meaning.{greatest, owed, newest}
use Rattle.contract.proofs.service.Contract.lowest.Given as goal

-- before the turn at k: the most owed to shorter windows, and the k - 1 newest levels
abbrev pub invariant-loop-k : goal.invariant-loop-k
invariant-loop-k g l =
    let m = g.Self.Contract.meaning l.self in
    (l.owed ≡ greatest (owed m) (l.k - 1)) × (l.recent ≡ newest m (l.k - 1)) × (l.recent ≤ (l.k - 1) * 20000)

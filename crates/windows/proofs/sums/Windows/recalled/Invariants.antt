use Rattle.std.proofs.Common.{◌≡◌, ℕ, suc, ◌*◌, ◌<◌, ◌≤◌, get_or}
use Rattle.contract.specs.Meaning.{newest}
use Rattle.windows.specs.Sums.{Low}
use Rattle.windows.proofs.sums.Windows.recalled.Given as goal

-- the newest levels added up, and the sums up to there
abbrev pub invariant-loop-k : goal.invariant-loop-k
invariant-loop-k g l =
    let m = g.C.Contract.meaning l.contract in
    record {
      recent : l.recent ≡ newest m l.k;
      most : l.recent ≤ l.k * 20000;
      sums : (j : ℕ) → j < l.k → get_or l.sum-items j 0 ≡ newest m (suc j);
      low : Low l.sum-items;
    }

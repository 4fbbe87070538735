use Rattle.std.proofs.Common.{◌≡◌, ℕ, suc, ◌+◌, ◌-◌, ◌*◌, ◌<◌, ◌≤◌, ◌≢◌, length, get_or, set, sym, refl, ap, ◌∙◌, add-one, arith, below_more}
use Rattle.std.proofs.lemmas.List.{get_or-set_same, get_or-set_other}
use Rattle.contract.specs.Meaning.{back, newest}
use Rattle.contract.proofs.Levels.{newest_more}
use Rattle.windows.proofs.Reading.{low_set, low_start, low_front}
use Rattle.windows.proofs.sums.Windows.recalled.Goals as goal

pub loop-k-init : goal.loop-k-init
loop-k-init g c = record { recent = refl; most = omega arith; sums = λ j (h : j < 0). absurd (omega arith); low = low_start (c.memory.result - 1) 96 }

pub loop-k-preserved : goal.loop-k-preserved
loop-k-preserved g c =
    let m = g.C.Contract.meaning c.args.contract.now in
    let s = g.met.C.Contract.limits c.args.contract.now in
    let k = c.loop-k.k in
    let inv = c.loop-k.invariant in
    let xs = c.loop-k.sum-items in
    let v = c.loop-k.recent + c.back-recent.result in
    let within : k < length xs = omega arith in
    let d : k + 1 - 1 ≡ k = omega arith in
    let e : k + 1 + 1 - 1 ≡ k + 1 = omega arith in
    let step : newest m (k + 1) ≡ newest m k + back m (k + 1) =
    ap (newest m) (sym e) ∙ newest_more m (k + 1) (omega arith) ∙ ap (λ (t : ℕ). newest m t + back m (k + 1)) d in
    let most : v ≤ suc k * 20000 = omega (arith, inv.most, s.cap_most, s.recall_most (k + 1), c.back-recent.ensures) in
    let sum : v ≡ newest m (k + 1) = omega (arith, inv.recent, c.back-recent.ensures, step) in
    record {
      recent = sum;
      most = omega (arith, most);
      sums = below_more (λ j. get_or (set xs k v) j 0 ≡ newest m (suc j)) k
          (λ j (l : j < k). let ne : j ≢ k = omega arith in get_or-set_other xs k j v 0 ne ∙ inv.sums j l)
          (get_or-set_same xs k v 0 within ∙ sum ∙ ap (newest m) (add-one k));
      low = low_set xs k v within inv.low most;
    }

pub invariant_of-result : goal.invariant_of-result
invariant_of-result g c = record { low = low_front c.loop-k.sum-items (c.memory.result - 1) 96 c.loop-k.invariant.low }

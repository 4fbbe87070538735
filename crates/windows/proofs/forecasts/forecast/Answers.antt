use Rattle.std.proofs.Common.{◌≡◌, ℕ, ◌≤◌, List, ◌++◌, length, take, drop, sym, ap, ◌∙◌, subst, arith}
use Rattle.std.proofs.lemmas.List.{length-take-le}
use Rattle.contract.specs.Meaning.{Meaning, lowest}
use Rattle.windows.specs.Forecasts.{forecast_levels, forecast_energy, list_after}
use Rattle.windows.specs.Windows.{Recalled}
use Rattle.windows.proofs.Ahead.{ahead, ahead_more, energy_more, write_more, write_all, written_is, list_is, forecast_taken}
use Rattle.windows.proofs.Foreseen.{contract_promise, foreseen}
use Rattle.windows.proofs.forecasts.forecast.Goals as goal

pub returns-then-slots-gt-SLOTS_MOST-clause-promise : goal.returns-then-slots-gt-SLOTS_MOST-clause-promise
returns-then-slots-gt-SLOTS_MOST-clause-promise g c = contract_promise

pub loop-place-preserved : goal.loop-place-preserved
loop-place-preserved g c =
    let m = g.C.Contract.meaning c.args.contract.now in
    let i = c.loop-place.place-index in
    let inv = c.loop-place.invariant in
    let low : c.advance-level.result ≡ lowest (ahead m i) = c.advance-level.ensures.value (ahead m i) inv.windows in
    let next = energy_more m i in
    record {
      windows = subst (λ (t : Meaning). Recalled t c.of-conditions.result c.advance-level.new.self) (sym (ahead_more m i)) (c.advance-level.ensures.after (ahead m i) inv.windows);
      energy = omega (arith, next, low, inv.energy);
      most = omega (arith, c.advance-level.ensures.level, inv.most);
      written = write_more m _ c.loop-place.place-items i c.advance-level.result inv.written low (omega arith);
    }

pub returns : goal.returns
returns g c =
    let m = g.C.Contract.meaning c.args.contract.now in
    let n = c.args.slots in
    let list = c.args.list.now in
    let inv = c.loop-place.invariant in
    let few : n ≤ 192 = omega arith in
    let fits : n ≤ length list = omega arith in
    let long : length (take n list) ≡ n = length-take-le {A = ℕ} n list fits in
    let done : c.loop-place.place-index ≡ n = omega arith in
    let items : c.loop-place.place-items ≡ forecast_levels m n = write_all m (take n list) c.loop-place.place-items n c.loop-place.place-index inv.written done (omega arith) in
    let energy : c.loop-place.energy ≡ forecast_energy m n = inv.energy ∙ ap (forecast_energy m) done in
    let after : c.loop-place.place-items ++ drop n list ≡ list_after m n list = ap (λ (t : List ℕ). t ++ drop n list) items ∙ sym (list_is m n list few fits) in
    record {
      answer = sym (forecast_taken n (length list) few fits);
      energy = energy;
      after = after;
      foreseen = foreseen m n c.loop-place.energy (c.loop-place.place-items ++ drop n list) energy (ap (take n) after ∙ written_is m n list few fits);
      promise = contract_promise;
    }

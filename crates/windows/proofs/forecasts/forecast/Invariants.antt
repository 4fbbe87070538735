use Rattle.std.proofs.Common.{◌≡◌, ◌*◌, ◌≤◌, ◌++◌, drop}
use Rattle.windows.specs.Forecasts.{forecast_levels, forecast_energy}
use Rattle.windows.specs.Windows.{Recalled}
use Rattle.windows.proofs.Ahead.{ahead}
use Rattle.windows.proofs.forecasts.forecast.Given as goal

-- the windows are those of the contract that so many lowest levels were granted to
abbrev pub invariant-loop-place : goal.invariant-loop-place
invariant-loop-place g l =
    let m = g.C.Contract.meaning l.contract in
    record {
      windows : Recalled (ahead m l.place-index) l.conditions l.windows;
      energy : l.energy ≡ forecast_energy m l.place-index;
      most : l.energy ≤ l.place-index * 20000;
      written : l.place-items ≡ forecast_levels m l.place-index ++ drop l.place-index l.initial.place-items;
    }

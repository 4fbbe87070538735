-- Why a forecast, a verdict or a curve is refused, and the row of the fault table that shows it.
use Rattle.contract.specs.declared.faults.Code.{Code}
use Rattle.contract.specs.declared.faults.Layer.TheVariants as layer
use Rattle.contract.specs.Faults.{contract_fault}
use Rattle.windows.specs.declared.refusals.ListFault.{ListFault}
use Rattle.windows.specs.declared.refusals.ListFault.TheVariants.{AboveCap, TooFar, TooLong}

abbrev pub row : ListFault → Code
row (AboveCap i) = contract_fault 7 i
row TooFar = record { layer = layer.List; number = 14; detail = 0 }
row TooLong = record { layer = layer.List; number = 15; detail = 0 }

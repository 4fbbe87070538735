-- How a fault is written in a line.
use Rattle.std.specs.Prelude.{ℕ, List, ◌++◌, codes, decimal}
use Rattle.contract.specs.declared.faults.Code.{Code}
use Rattle.contract.specs.declared.faults.Layer.{Layer}
use Rattle.contract.specs.declared.faults.Layer.TheVariants as layer

abbrev pub layer_name : Layer → List ℕ
layer_name layer.Text = codes "text"
layer_name layer.Contract = codes "contract"
layer_name layer.List = codes "list"

abbrev pub code_text : Code → List ℕ
code_text c = codes "layer " ++ (layer_name c.layer ++ (codes " number " ++ (decimal c.number ++ (codes " detail " ++ decimal c.detail))))

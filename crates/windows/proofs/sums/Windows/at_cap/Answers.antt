use Rattle.std.proofs.Common.{◌<◌, arith}
use Rattle.windows.proofs.Reading.{low_start}
use Rattle.windows.proofs.sums.Windows.at_cap.Goals as goal

pub loop-k-init : goal.loop-k-init
loop-k-init c = ((λ j (h : j < 0). absurd (omega arith)), low_start 96 96)

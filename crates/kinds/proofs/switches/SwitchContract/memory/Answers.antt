use Rattle.std.proofs.Common.{sym}
use Rattle.kinds.specs.Kinds.{switch_need}
use Rattle.kinds.specs.Places.{length-needs_by}
use Rattle.kinds.proofs.switches.SwitchContract.memory.Goals as goal

pub returns : goal.returns
returns c = let s = c.args.self.now in sym (length-needs_by (switch_need s.«cap» s.allowance) s.memory)

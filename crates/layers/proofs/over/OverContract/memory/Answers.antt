use Rattle.std.proofs.Common.{sym, ◌∙◌}
use Rattle.layers.specs.Layering.{memory-layered}
use Rattle.layers.proofs.over.OverContract.memory.Goals as goal

pub returns : goal.returns
returns g c =
    let s = c.args.self.now in
    let m = g.C.Contract.meaning s.below in
    c.memory.ensures ∙ sym (memory-layered m (g.N.OwnNeeds.own s.own m.«cap»))

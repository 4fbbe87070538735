use Rattle.layers.specs.Layering.{new_layered}
use Rattle.layers.proofs.over.Over.lay.Goals as goal

pub returns-in-Ok-2-clause-begun : goal.returns-in-Ok-2-clause-begun
returns-in-Ok-2-clause-begun g c =
    let m = g.C.Contract.meaning c.args.below in
    new_layered m (g.N.OwnNeeds.own c.in-Ok.field-0 m.«cap») (g.met.C.Contract.limits c.args.below)
    (λ k low high. g.met.N.OwnNeeds.most c.in-Ok.field-0 m.«cap» k)
    c.if-recalls_under_cap.ensures

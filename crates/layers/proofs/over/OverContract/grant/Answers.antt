use Rattle.std.proofs.Common.{refl}
use Rattle.layers.specs.Layering.{grant_layered}
use Rattle.layers.proofs.over.OverContract.grant.Goals as goal

pub returns : goal.returns
returns g c =
    let s = c.args.self.now in
    let m = g.C.Contract.meaning s.below in
    let both = grant_layered (λ u. g.N.OwnNeeds.own s.own u.«cap») m _ c.args.level refl c.in_ok-admit.ensures.answer _ c.grant.ensures.answer c.grant.ensures.after in
    record { answer = both.0; after = both.1 }

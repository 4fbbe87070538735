use Rattle.std.proofs.Common.{sym, arith}
use Rattle.layers.specs.Layering.{need-layered, need_past}
use Rattle.layers.proofs.over.OverContract.need.Goals as goal

pub returns-then-length-memory : goal.returns-then-length-memory
returns-then-length-memory g c =
    let s = c.args.self.now in
    let m = g.C.Contract.meaning s.below in
    sym (need_past m (g.N.OwnNeeds.own s.own m.«cap») c.args.length (omega arith))

pub returns : goal.returns
returns g c =
    let s = c.args.self.now in
    let m = g.C.Contract.meaning s.below in
    let e = need-layered m (g.N.OwnNeeds.own s.own m.«cap») (omega (arith, g.met.N.OwnNeeds.most s.own m.«cap» 0)) c.args.length (omega arith) in
    cc

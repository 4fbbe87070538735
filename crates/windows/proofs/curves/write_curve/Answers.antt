use Rattle.std.proofs.Common.{suc, ◌<◌, length, sym, ◌∙◌, subst, arith}
use Rattle.std.proofs.lemmas.List.{length-set}
use Rattle.curve.specs.Curve.{IsCurve}
use Rattle.curve.proofs.Curves.{curve_is}
use Rattle.windows.proofs.Bests.{written_low, written_more}
use Rattle.windows.proofs.curves.write_curve.Goals as goal

pub next_length-requires-clause-shorter : goal.next_length-requires-clause-shorter
next_length-requires-clause-shorter g c =
    let m = g.C.Contract.meaning c.args.contract.now in
    let s = g.met.C.Contract.limits c.args.contract.now in
    written_low m s c.loop-i.list c.loop-i.i c.loop-i.invariant.1 (omega arith)

pub loop-i-preserved : goal.loop-i-preserved
loop-i-preserved g c =
    let m = g.C.Contract.meaning c.args.contract.now in
    let s = g.met.C.Contract.limits c.args.contract.now in
    let list = c.loop-i.list in
    let i = c.loop-i.i in
    let inv = c.loop-i.invariant in (
      length-set list i c.next_length.result ∙ inv.0,
      written_more m s list i inv.1 c.as_slice.result.now c.next_length.result (omega (arith, inv.0)) (c.as_slice.ensures.value ∙ c.of-conditions.ensures.1) c.next_length.ensures,
    )

pub returns-clause-after : goal.returns-clause-after
returns-clause-after g c =
    let m = g.C.Contract.meaning c.args.contract.now in
    let s = g.met.C.Contract.limits c.args.contract.now in
    let inv = c.loop-i.invariant in (
      inv.0,
      λ k (h : k < length c.loop-i.list). subst (IsCurve m (suc k)) (sym (inv.1 k (omega (arith, inv.0)))) (curve_is m s.memory_least (suc k)),
    )

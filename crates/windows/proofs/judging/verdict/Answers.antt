use Rattle.std.proofs.Common.{◌≡◌, ℕ, suc, ◌+◌, ◌*◌, ◌<◌, List, length, get_or, None, sym, refl, ap, ◌∙◌, subst, arith}
use Rattle.contract.specs.Meaning.{memory}
use Rattle.curve.proofs.Windows.{energy_past}
use Rattle.windows.specs.Sums.{Copies, Slid}
use Rattle.windows.specs.Verdicts.{first_above, Tells}
use Rattle.windows.specs.Windows.{lengths, margin_of}
use Rattle.windows.proofs.Sliding.{ending_slid}
use Rattle.windows.proofs.Margins.{margin_read, tightest_more, within_cap, each_within, judges}
use Rattle.windows.proofs.judging.verdict.Goals as goal

pub loop-i-init : goal.loop-i-init
loop-i-init g c =
    let m = g.C.Contract.meaning c.args.contract.now in
    let s = g.met.C.Contract.limits c.args.contract.now in
    let read = c.of-conditions.ensures in
    record {
      tightest = refl;
      sums = λ k (h : k < memory m).
          c.at_cap-windows.ensures k (omega (arith, s.memory_most)) ∙ ap (λ (t : ℕ). suc k * t) read.0 ∙ sym (energy_past m.«cap» (suc k));
    }

pub slide-requires : goal.slide-requires
slide-requires g c =
    let conditions = c.of-conditions.result in
    omega (arith, within_cap conditions.«cap» c.args.«record».now (sym c.in_ok-check_levels.ensures) c.loop-i.i (omega arith), conditions.capped)

pub loop-i-preserved : goal.loop-i-preserved
loop-i-preserved g c =
    let m = g.C.Contract.meaning c.args.contract.now in
    let xs = c.args.«record».now in
    let i = c.loop-i.i in
    let inv = c.loop-i.invariant in
    let old = c.loop-i.windows in
    let new = c.slide.new.self in
    let conditions = c.of-conditions.result in
    let copies : Copies m conditions = c.of-conditions.ensures in
    let ending = ending_slid m xs i old.sums new.sums (omega arith) (subst (λ (ns : List ℕ). Slid (get_or xs i 0) (length ns) old.sums new.sums) copies.1 c.slide.ensures) inv.sums in
    record {
      tightest = tightest_more m xs i (lengths conditions) (margin_of conditions new) (ap (λ (ns : List ℕ). length ns) copies.1) (margin_read m xs (i + 1) conditions.needs.items new.sums copies.1 ending) c.loop-i.tightest c.tighter.result inv.tightest c.tighter.ensures;
      sums = ending;
    }

pub returns-clause-judged : goal.returns-clause-judged
returns-clause-judged g c =
    let m = g.C.Contract.meaning c.args.contract.now in
    let s = g.met.C.Contract.limits c.args.contract.now in
    let xs = c.args.«record».now in
    let done : c.loop-i.i ≡ length xs = omega arith in
    let none : None ≡ first_above m.«cap» 1 xs = c.in_ok-check_levels.ensures ∙ ap (λ (t : ℕ). first_above t 1 xs) c.of-conditions.ensures.0 in
    judges m s xs (each_within m.«cap» xs (within_cap m.«cap» xs (sym none))) c.loop-i.tightest c.decided.result (subst (λ (n : ℕ). Tells m xs n c.loop-i.tightest) done c.loop-i.invariant.tightest) c.decided.ensures

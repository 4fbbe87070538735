use Rattle.std.proofs.Common.{◌≡◌, ℕ, ◌≤◌, List, length, sym, ap, ◌∙◌, subst, arith}
use Rattle.std.proofs.lemmas.List.{take_all}
use Rattle.std.specs.List.{All}
use Rattle.std.proofs.lemmas.List.Elements.{All-from_get_or}
use Rattle.windows.proofs.Reading.{need_limit}
use Rattle.windows.proofs.conditions.Conditions.of.Goals as goal

pub invariant_of-result : goal.invariant_of-result
invariant_of-result g c =
    let m = g.C.Contract.meaning c.args.contract.now in
    let s = g.met.C.Contract.limits c.args.contract.now in
    let read : c.loop-k.needs.items ≡ m.needs = c.loop-k.invariant ∙ take_all c.loop-k.k m.needs (omega arith) in
    record {
      capped = omega (arith, s.cap_most, c.«cap».ensures);
      some = omega (arith, s.memory_least, ap (λ (ns : List ℕ). length ns) read);
      most = subst (All (λ (n : ℕ). n ≤ 1920000)) (sym read) (All-from_get_or (λ (n : ℕ). n ≤ 1920000) m.needs 0 (λ k h. need_limit m s k h));
    }

use Rattle.std.proofs.Common.{◌≡◌, ℕ, suc, ◌+◌, ◌-◌, ltb, length, refl, ap, ◌∙◌, arith, rules, tests}
use Rattle.std.proofs.lemmas.Iterator.{YieldsList-from_range}
use Rattle.std.proofs.lemmas.Iterator.Search.{any_from_yields_List}
use Rattle.std.specs.List.{list_any, range_with_len}
use Rattle.contract.specs.Meaning.{back}
use Rattle.layers.specs.Under.{any_at}
use Rattle.layers.proofs.over.recalls_under_cap.Goals as goal

pub returns : goal.returns
returns g c =
    let m = g.C.Contract.meaning c.args.contract.now in
    let s = g.met.C.Contract.limits c.args.contract.now in
    let n : c.memory.result - 1 ≡ length m.recall = omega (arith, s.recall_length, c.memory.ensures) in
    let test : ℕ → _ = λ i. ltb (back m i) m.«cap» in
    let found : c.any.result ≡ list_any test (range_with_len 1 (length m.recall)) =
    any_from_yields_List test _ _ c.any.result c.any.ensures.ran (YieldsList-from_range 1 c.memory.result (length m.recall) refl n) (λ x b q k. search (rules, tests)) in
    found ∙ any_at test (λ x. ltb x m.«cap») m.recall 1 (λ k h. let e : 1 + k ≡ suc k = omega arith in ap test e)

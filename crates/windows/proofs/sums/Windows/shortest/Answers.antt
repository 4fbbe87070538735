use Rattle.std.proofs.Common.{◌≡◌, ℕ, ◌+◌, ◌-◌, ◌<◌, List, length, get_or, pos, ◌-ℤ◌, ◌≤ℤ◌, subst, arith}
use Rattle.std.proofs.lemmas.Int.{ints}
use Rattle.windows.specs.Windows.{lengths, margin_of}
use Rattle.windows.proofs.sums.Windows.shortest.Goals as goal

pub returns-then-excess-margin : goal.returns-then-excess-margin
returns-then-excess-margin c =
    let k = c.loop-k.k in
    let w = c.args.self.now in
    let conditions = c.args.conditions.now in
    let z = c.args.margin in
    let read = c.as_slice-needs.ensures.value in
    let within : k < lengths conditions = subst (λ (ns : List ℕ). k < length ns) read c.loop-k-test.true in
    let here : margin_of conditions w k ≤ℤ z = subst (λ (ns : List ℕ). (pos (get_or w.sums k 0) -ℤ pos (get_or ns k 0)) ≤ℤ z) read (omega (arith, ints)) in
    let d : k + 1 - 1 ≡ k = omega arith in
    λ j h p. record { low = omega arith; high = omega arith; here = rw d here; before = λ j l. omega (arith, ints, c.loop-k.invariant j (omega arith)) }

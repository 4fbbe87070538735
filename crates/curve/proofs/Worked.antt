-- The examples, by computation.
use Rattle.std.proofs.Common.{ℕ, zero, suc, ◌*◌, ◌≤◌, refl, zero-le, arith, lit≤}
use Rattle.contract.specs.Meaning.{New, need, back}
use Rattle.curve.specs.Reached.{at_first, then_call, granting, looking}
use Rattle.curve.proofs.Curves.{curve_is}
use Rattle.curve.specs.Worked.{hand_switch, hand_floor, hand_table, Worked}

needs_most : (k : ℕ) → need hand_switch k ≤ k * 100
needs_most zero = omega arith
needs_most (suc zero) = omega arith
needs_most (suc (suc zero)) = omega arith
needs_most (suc (suc (suc zero))) = omega arith
needs_most (suc (suc (suc (suc zero)))) = omega arith
needs_most (suc (suc (suc (suc (suc k))))) = zero-le

recall_most : (i : ℕ) → back hand_switch i ≤ 100
recall_most zero = omega arith
recall_most (suc zero) = omega arith
recall_most (suc (suc zero)) = omega arith
recall_most (suc (suc (suc zero))) = omega arith
recall_most (suc (suc (suc (suc i)))) = zero-le

switch_new : New hand_switch
switch_new = record {
  limits = record {
    cap_least = lit≤ tt;
    cap_most = lit≤ tt;
    memory_least = lit≤ tt;
    memory_most = lit≤ tt;
    need_most = needs_most;
    recall_length = refl;
    recall_most = recall_most;
  };
  unused = refl;
}

pub worked : Worked
worked = record {
  switch_needs = refl;
  switch_5 = curve_is hand_switch (lit≤ tt) 5;
  switch_6 = curve_is hand_switch (lit≤ tt) 6;
  floor_need_2 = refl;
  floor_need_4 = refl;
  floor_5 = curve_is hand_floor (lit≤ tt) 5;
  table_2 = curve_is hand_table (lit≤ tt) 2;
  table_3 = curve_is hand_table (lit≤ tt) 3;
  lowest_new = refl;
  lowest_40 = refl;
  refused_59 = refl;
  granted_60 = refl;
  lowest_60 = refl;
  switch_new = switch_new;
  evening = then_call (granting 60) (then_call looking (then_call (granting 59) (then_call (granting 40) (at_first switch_new))));
}

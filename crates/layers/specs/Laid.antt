-- What a floor and an extra add is at most the cap in each slot.
use Rattle.std.proofs.Common.{mul-le-mul_left, arith}
use Rattle.std.specs.Prelude.{ℕ, ◌*◌, ◌≤◌, min, List}
use Rattle.layers.specs.Layers.{floor_need, extra_need}

pub floor_most : (top f k : ℕ) → floor_need top f k ≤ k * top
floor_most top f k = let h : min f top ≤ top = omega arith in mul-le-mul_left k h

pub extra_most : (top : ℕ) (own : List ℕ) (k : ℕ) → extra_need top own k ≤ k * top
extra_most top own k = omega arith

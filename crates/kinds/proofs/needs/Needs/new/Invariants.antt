use Rattle.std.proofs.Common.{◌≡◌, ◌+◌, length, drop}
use Rattle.kinds.specs.Kinds.{too_great}
use Rattle.kinds.proofs.Copied.{Copied}
use Rattle.kinds.proofs.needs.Needs.new.Given as goal

-- the needs up to i are copied, and those from i on decide
abbrev pub invariant-loop-i : goal.invariant-loop-i
invariant-loop-i l = record {
  long : length l.each ≡ 96;
  copied : Copied l.each l.needs l.i;
  rest : too_great l.«cap» (l.i + 1) (drop l.i l.needs) ≡ too_great l.«cap» 1 l.needs;
}

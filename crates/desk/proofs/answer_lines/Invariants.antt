use denote.Param.Always.{always_mut}
use Rattle.desk.proofs.Known.{StaysKnown}
use Rattle.desk.proofs.answer_lines.Given as goal

abbrev pub invariant-loop-count : goal.invariant-loop-count
invariant-loop-count g l = record {
  callable : always_mut g.F.FnMut l.initial.answer → always_mut g.F.FnMut l.answer;
  known : StaysKnown (g.I.Read.remaining l.fn.input) (g.I.Read.remaining l.input);
}

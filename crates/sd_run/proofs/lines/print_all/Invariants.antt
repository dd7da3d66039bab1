-- The lines so far are answered and printed.
use Rattle.std.proofs.Common.{List}
use Rattle.std.specs.List.{flat_map}
use Rattle.std.specs.Io.KnownBytes.{Appends}
use Rattle.sd_script.specs.declared.answer.Answer.{Answer}
use Rattle.sd_script.specs.Texts.{answer_line}
use Rattle.sd_world.specs.Goes.{GoesOn}
use Rattle.sd_run.specs.Lines.{AnswersLines}
use Rattle.sd_run.specs.Strict.{Passes}
use Rattle.sd_run.proofs.lines.print_all.Given as goal

abbrev pub invariant-loop-line : goal.invariant-loop-line
invariant-loop-line g l = record {
  answers : List Answer;
  answered : AnswersLines g.D.Disk l.fn.world l.yielded answers l.world;
  printed : Appends (g.W.Write.contents l.fn.out.writer) (g.W.Write.contents l.out.writer) (flat_map answer_line answers);
  passes : Passes l.fn.rule answers;
  goes_on : GoesOn g.D.Disk l.fn.world l.world;
}

-- What is wrong with a store has its line, and else a line says why.
use Rattle.std.proofs.Common.{Option, ◌∙◌, sym, subst}
use Rattle.sd_restore.specs.declared.fault.Fault.{Fault}
use Rattle.sd_arrivals.specs.Programs.{EndsEarlier, why_front}
use Rattle.sd_arrivals.proofs.ProgramLemmas.{finished_early}
use Rattle.sd_arrivals.proofs.programs.end_early.Goals as goal

pub returns : goal.returns
returns g c =
    let before = g.W.Write.contents c.args.out.now.writer in
    let after = g.W.Write.contents c.finish.new.self.writer in
    record {
      ends = subst (λ (fault : Option Fault). EndsEarlier fault c.args.error before after c.finish.new.self.refused c.finish.result) (sym c.in_default.is ∙ c.fault_of.ensures)
          (finished_early before (g.W.Write.contents c.print_why.new.out.writer) after (why_front c.args.error) c.print_why.new.out.refused c.finish.new.self.refused c.finish.result
          c.print_why.result c.print_why.ensures.line c.print_why.ensures.refused c.finish.ensures.bytes c.finish.ensures.refused c.finish.ensures.status);
    }

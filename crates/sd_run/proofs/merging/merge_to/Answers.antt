use Rattle.sd_exit.proofs.EndingLemmas.{at_most_one, on_writer, printed_at_its_end}
use Rattle.sd_run.specs.Merging.{IsWholeMerge}
use Rattle.sd_run.proofs.LineLemmas.{merge_still}
use Rattle.sd_run.proofs.merging.merge_to.Goals as goal

pub returns-clause-merged : goal.returns-clause-merged
returns-clause-merged g c = λ zero.
    let ran = c.merge_store-disk in
    let from = g.W.Write.contents c.args.out.now.writer in
    printed_at_its_end (g.W.Write.contents ran.new.out.writer) (g.W.Write.contents c.exit.new.out.writer) c.exit.new.out.refused c.exit.result
    (IsWholeMerge g.D.Disk c.args.disk ran.result.0 from) (merge_still g.D.Disk c.args.disk ran.result.0 from) ran.result.1 c.exit.ensures.exits ran.ensures.merged zero

pub returns-clause-status : goal.returns-clause-status
returns-clause-status g c =
    let ran = c.merge_store-disk in
    at_most_one (g.W.Write.contents ran.new.out.writer) (g.W.Write.contents c.exit.new.out.writer) c.exit.new.out.refused c.exit.result ran.result.1 c.exit.ensures.exits ran.ensures.stopped

pub returns-clause-exits : goal.returns-clause-exits
returns-clause-exits g c =
    let ran = c.merge_store-disk in
    record {
      ended = ran.result.1;
      printed = g.W.Write.contents ran.new.out.writer;
      merged = ran.ensures.merged;
      told = ran.ensures.refused;
      why = ran.ensures.why;
      writer = on_writer ran.result.1 c.exit.ensures.kept ran.ensures.writer;
      exits = c.exit.ensures.exits;
    }

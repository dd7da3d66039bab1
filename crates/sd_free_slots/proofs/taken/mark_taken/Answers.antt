use Rattle.sd_free_slots.proofs.TakenLemmas.{taken_of}
use Rattle.sd_free_slots.proofs.taken.mark_taken.Goals as goal

pub returns : goal.returns
returns c = taken_of c.args.catalog.now c.args.dumper.now.running c.args.merger.now c.args.outs.now _ _ _ c.requires c.take_needed.ensures c.take_jobs.ensures

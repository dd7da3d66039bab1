use Rattle.sd_areas.proofs.Memory.{on_err, same_memory, space_added}
use Rattle.sd_areas.proofs.snapshot.Snapshot.add_space.Goals as goal

pub returns-in_err-insert-clause-err : goal.returns-in_err-insert-clause-err
returns-in_err-insert-clause-err c = on_err c.from_residual.result _ (same_memory _ _ c.in_err-insert.ensures.err)

pub returns-clause-ok : goal.returns-clause-ok
returns-clause-ok c = space_added _ _ _ c.new.result c.new.ensures.empty c.in_ok-insert.ensures.updates.0

use Rattle.sd_fold.proofs.Tables.{memory_removed}
use Rattle.sd_fold.proofs.room.remove_space.Goals as goal

pub returns-clause-gone : goal.returns-clause-gone
returns-clause-gone c = memory_removed c.args.base.now (record { checkpoint = c.args.base.now.checkpoint; spaces = c.remove.new.self }) c.args.space c.remove.ensures.updates.0

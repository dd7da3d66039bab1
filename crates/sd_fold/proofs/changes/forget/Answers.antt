use Rattle.std.proofs.Common.{length}
use Rattle.sd_fold.proofs.OverLemmas.{changes_removed, removed_fewer}
use Rattle.sd_fold.proofs.changes.forget.Goals as goal

pub returns-clause-rest : goal.returns-clause-rest
returns-clause-rest c = changes_removed c.args.changes.now.entries c.remove.new.self.entries c.args.page c.remove.ensures.updates.0

pub returns-clause-fewer : goal.returns-clause-fewer
returns-clause-fewer c = removed_fewer c.args.changes.now.entries c.args.page c.remove.result (length c.remove.new.self.entries) (length c.args.changes.now.entries) c.remove.ensures.value c.remove.ensures.len

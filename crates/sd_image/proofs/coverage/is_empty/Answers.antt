use Rattle.std.proofs.Common.{rules}
use Rattle.sd_image.proofs.PageLists.{none_left}
use Rattle.sd_image.proofs.coverage.is_empty.Goals as goal

pub returns-then-left-eq0 : goal.returns-then-left-eq0
returns-then-left-eq0 c = rw (none_left c.args.left.first c.args.left.count c.args.left.areas.now) (search rules)

pub returns-else-left-eq0 : goal.returns-else-left-eq0
returns-else-left-eq0 c = rw (none_left c.args.left.first c.args.left.count c.args.left.areas.now) (search rules)

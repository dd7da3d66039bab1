use Rattle.sd_fold.proofs.OverLemmas.{child_made}
use Rattle.sd_fold.proofs.changes.changes_of_child.Goals as goal

pub returns : goal.returns
returns c = child_made c.args.changes.now.entries c.in_ok-child.child.entries c.copy_all.new.changes.entries c.hide_all.new.changes.entries c.args.pages.now.entries c.args.pages_of_child.now.entries c.range.result
    c.in_ok-child.ensures c.in_ok-copy_all.ensures (c.range.ensures.between tt) c.in_ok-hide_all.ensures

use Rattle.sd_fold.proofs.RoomLemmas.{page_removed, none_removed, is_found}
use Rattle.sd_fold.proofs.room.remove_page.Goals as goal

pub returns-in-Some-clause-gone : goal.returns-in-Some-clause-gone
returns-in-Some-clause-gone c = page_removed _ _ c.args.space c.args.page c.in-Some.pages.now c.remove.new.self c.in-Some.ensures.value
    ((c.get_mut.follows.holds c.remove.new.self).3 (is_found _ _ c.in-Some.ensures.value)).0 c.remove.ensures.updates.0

pub returns-in_default-clause-gone : goal.returns-in_default-clause-gone
returns-in_default-clause-gone c = none_removed c.args.base.now _ c.args.space c.args.page c.get_mut.follows.holds-at-none c.in_default.ensures.value

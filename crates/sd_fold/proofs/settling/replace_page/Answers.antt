use Rattle.sd_fold.proofs.RoomLemmas.{page_replaced, never_replaced, is_found}
use Rattle.sd_fold.proofs.Tables.{on_ok}
use Rattle.sd_fold.proofs.settling.replace_page.Goals as goal

pub returns-in-Some-clause-made : goal.returns-in-Some-clause-made
returns-in-Some-clause-made c = page_replaced c.insert.result _ _ c.args.space c.args.page c.in-Some.pages.now c.insert.new.self c.args.found c.in-Some.ensures.value
    ((c.get_mut.follows.holds c.insert.new.self).3 (is_found _ _ c.in-Some.ensures.value)).0
    (on_ok c.insert.result _ _ (λ updates. updates.0) c.insert.ensures.updates) c.insert.ensures.absent c.requires

pub returns-in_default-clause-made : goal.returns-in_default-clause-made
returns-in_default-clause-made c = absurd (never_replaced c.args.base.now c.args.space c.args.page c.in_default.ensures.value c.requires)

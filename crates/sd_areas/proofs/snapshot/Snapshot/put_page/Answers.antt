use Rattle.sd_areas.proofs.Memory.{on_err, page_put, page_kept, no_space, is_there}
use Rattle.sd_areas.proofs.snapshot.Snapshot.put_page.Goals as goal

pub returns-in_err-insert-clause-err : goal.returns-in_err-insert-clause-err
returns-in_err-insert-clause-err c =
    on_err c.from_residual.result _ (page_kept _ _ c.args.space c.in-Some.pages.now c.insert.new.self c.in-Some.ensures.value
    ((c.get_mut.follows.holds c.insert.new.self).3 (is_there _ _ c.in-Some.ensures.value)).0 c.in_err-insert.ensures.err)

pub returns-in_ok-insert-clause-ok : goal.returns-in_ok-insert-clause-ok
returns-in_ok-insert-clause-ok c =
    page_put _ _ c.args.space c.args.page c.in-Some.pages.now c.insert.new.self (record { prot = c.args.prot; bytes = c.args.bytes }) c.in-Some.ensures.value
    ((c.get_mut.follows.holds c.insert.new.self).3 (is_there _ _ c.in-Some.ensures.value)).0 c.in_ok-insert.ensures.updates.0

pub returns-in_default-clause-ok : goal.returns-in_default-clause-ok
returns-in_default-clause-ok c = absurd (no_space _ c.args.space c.in_default.ensures.value c.requires)

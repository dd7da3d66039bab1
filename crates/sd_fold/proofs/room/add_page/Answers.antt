use Rattle.std.proofs.Common.{◌∙◌}
use Rattle.sd_areas.specs.Memory.{memory_of, page_of_snapshot}
use Rattle.sd_fold.specs.declared.added.Added.TheVariants as added
use Rattle.sd_fold.proofs.RoomLemmas.{undo_step, page_undone, put_is}
use Rattle.sd_fold.proofs.Tables.{on_ok}
use Rattle.sd_fold.proofs.room.add_page.Goals as goal

pub returns-clause-there : goal.returns-clause-there
returns-clause-there c = on_ok c.put_page.result _ _ (λ put. put ∙ put_is (memory_of c.args.base.now) c.args.space c.args.page (page_of_snapshot c.args.found)) c.put_page.ensures.ok

pub returns-clause-undo : goal.returns-clause-undo
returns-clause-undo c = undo_step c.args.added.now.items c.push.new.self.items (added.Page c.args.space c.args.page) (memory_of c.put_page.new.self) (memory_of c.args.base.now) c.in_ok-push.ensures.items
    (page_undone c.put_page.result (memory_of c.args.base.now) (memory_of c.put_page.new.self) c.args.space c.args.page (page_of_snapshot c.args.found) c.requires.alive c.requires.none
    (on_ok c.put_page.result _ _ (λ put. put ∙ put_is (memory_of c.args.base.now) c.args.space c.args.page (page_of_snapshot c.args.found)) c.put_page.ensures.ok) c.put_page.ensures.err)

use Rattle.std.proofs.Common.{◌∙◌, ap}
use Rattle.sd_areas.specs.Memory.{memory_of}
use Rattle.sd_pagetable.specs.Nested.{inside, is_alive}
use Rattle.sd_fold.specs.Overlay.{pages_over}
use Rattle.sd_fold.proofs.RoomLemmas.{over_opened, within_opened, put_alive}
use Rattle.sd_fold.proofs.Tables.{if_ok, on_ok}
use Rattle.sd_fold.proofs.room.add_changes.Goals as goal

pub add_pages-requires : goal.add_pages-requires
add_pages-requires c = ap (λ m. is_alive m c.args.space) c.in_ok-add_space.ensures.there ∙ put_alive (memory_of c.args.base.now) c.args.space (inside (memory_of c.args.base.now) c.args.space)

pub returns-clause-rest : goal.returns-clause-rest
returns-clause-rest c = on_ok c.add_pages.result _ _ (over_opened (memory_of c.args.base.now) (memory_of c.add_space.new.base) (memory_of c.add_pages.new.base) c.args.space _ _ c.in_ok-add_space.ensures.there) c.add_pages.ensures.rest

pub returns-clause-same : goal.returns-clause-same
returns-clause-same c = if_ok c.add_pages.result _ _ (λ left same. same ∙ ap (pages_over c.args.changes.entries) (within_opened (memory_of c.args.base.now) (memory_of c.add_space.new.base) c.args.space c.in_ok-add_space.ensures.there)) c.add_pages.ensures.same

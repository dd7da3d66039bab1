use Rattle.std.proofs.Common.{ap, ◌∙◌}
use Rattle.std.specs.Prelude.{Option, None, ◌∷◌}
use Rattle.sd_areas.specs.declared.snapshot_page.SnapshotPage.{SnapshotPage}
use Rattle.sd_areas.specs.Memory.{memory_of, page_of_snapshot}
use Rattle.sd_fold.proofs.RoomLemmas.{alive_without}
use Rattle.sd_fold.proofs.SettledLemmas.{pages_next, pages_end, next_there, put_settled}
use Rattle.sd_fold.proofs.settling.settle_pages.Goals as goal

pub replace_page-requires : goal.replace_page-requires
replace_page-requires c = next_there c.args.changes.entries c.loop-page.page-iterator c.next.new.self (memory_of c.args.base.now) (memory_of c.loop-page.base) c.args.space c.in-Some.page c.in-Some-change.found
    c.loop-page.invariant.0 (c.in-Some.ensures.steps ∙ ap (λ (change : Option SnapshotPage). (c.in-Some.page, change) ∷ c.next.new.self) c.in-Some-change.is)

pub loop-page-preserved-in-Some-change : goal.loop-page-preserved-in-Some-change
loop-page-preserved-in-Some-change c = (
  pages_next c.args.changes.entries c.loop-page.page-iterator c.next.new.self (memory_of c.args.base.now) (memory_of c.loop-page.base) (memory_of c.replace_page.new.base) c.args.space c.in-Some.page _
      c.loop-page.invariant.0 (c.in-Some.ensures.steps ∙ ap (λ (change : Option SnapshotPage). (c.in-Some.page, change) ∷ c.next.new.self) c.in-Some-change.is)
      (put_settled (memory_of c.loop-page.base) (memory_of c.replace_page.new.base) c.args.space c.in-Some.page (page_of_snapshot c.in-Some-change.found) c.replace_page.ensures.made),
  c.replace_page.ensures.checkpoint ∙ c.loop-page.invariant.1,
)

pub loop-page-preserved : goal.loop-page-preserved
loop-page-preserved c = (
  pages_next c.args.changes.entries c.loop-page.page-iterator c.next.new.self (memory_of c.args.base.now) (memory_of c.loop-page.base) (memory_of c.remove_page.new.base) c.args.space c.in-Some.page None
      c.loop-page.invariant.0 (c.in-Some.ensures.steps ∙ ap (λ (change : Option SnapshotPage). (c.in-Some.page, change) ∷ c.next.new.self) c.in-None-change.is)
      (c.remove_page.ensures.gone ∙ alive_without (memory_of c.loop-page.base) c.args.space c.in-Some.page c.loop-page.invariant.0.alive),
  c.remove_page.ensures.checkpoint ∙ c.loop-page.invariant.1,
)

pub returns-clause-made : goal.returns-clause-made
returns-clause-made c = pages_end c.args.changes.entries c.loop-page.page-iterator (memory_of c.args.base.now) (memory_of c.loop-page.base) c.args.space c.loop-page.invariant.0 c.in-None.ensures.steps.0

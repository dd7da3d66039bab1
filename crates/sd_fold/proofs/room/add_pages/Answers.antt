use Rattle.std.proofs.Common.{refl, ap, sym, ◌∙◌}
use Rattle.std.specs.Prelude.{Option, Some, None, ◌∷◌}
use Rattle.sd_areas.specs.declared.snapshot_page.SnapshotPage.{SnapshotPage}
use Rattle.sd_areas.specs.Memory.{memory_of}
use Rattle.sd_fold.proofs.AddedLemmas.{pages_begin, pages_keep, pages_add, pages_left}
use Rattle.sd_fold.proofs.room.add_pages.Goals as goal

pub loop-page-init : goal.loop-page-init
loop-page-init c = (
  pages_begin c.args.changes.entries c.into_iter-page-iterator.result c.new-left.result.entries c.args.added.now.items (memory_of c.args.base.now) c.args.space
      c.into_iter-page-iterator.ensures.into_iter_gives.0 c.new-left.ensures.empty c.into_iter-page-iterator.ensures.into_iter_gives.5 c.requires,
  refl,
)

pub loop-page-preserved-in-Continue-1 : goal.loop-page-preserved-in-Continue-1
loop-page-preserved-in-Continue-1 c = (
  pages_keep c.args.changes.entries c.loop-page.page-iterator c.next.new.self c.loop-page.left.entries c.put.new.changes.entries c.args.added.now.items c.loop-page.added.items
      (memory_of c.args.base.now) (memory_of c.loop-page.base) c.args.space c.in-Some.page (Some c.in-Some-change.found) c.loop-page.invariant.0
      (c.in-Some.ensures.steps ∙ ap (λ (change : Option SnapshotPage). (c.in-Some.page, change) ∷ c.next.new.self) c.in-Some-change.is)
      c.in_ok-put-in-Some-change.ensures.entry c.in_ok-put-in-Some-change.ensures.put (λ x is. sym c.has_page.ensures ∙ c.if-has_page.true),
  c.loop-page.invariant.1,
)

pub loop-page-preserved-in-Continue-branch-2 : goal.loop-page-preserved-in-Continue-branch-2
loop-page-preserved-in-Continue-branch-2 c = (
  pages_add c.args.changes.entries c.loop-page.page-iterator c.next.new.self c.loop-page.left.entries c.args.added.now.items c.loop-page.added.items c.add_page.new.added.items
      (memory_of c.args.base.now) (memory_of c.loop-page.base) (memory_of c.add_page.new.base) c.args.space c.in-Some.page c.in-Some-change.found c.loop-page.invariant.0
      (c.in-Some.ensures.steps ∙ ap (λ (change : Option SnapshotPage). (c.in-Some.page, change) ∷ c.next.new.self) c.in-Some-change.is)
      c.in_ok-add_page-in-Some-change.ensures.there c.in_ok-add_page-in-Some-change.ensures.undo,
  c.in_ok-add_page-in-Some-change.ensures.checkpoint ∙ c.loop-page.invariant.1,
)

pub loop-page-preserved : goal.loop-page-preserved
loop-page-preserved c = (
  pages_keep c.args.changes.entries c.loop-page.page-iterator c.next.new.self c.loop-page.left.entries c.put-in-None-change.new.changes.entries c.args.added.now.items c.loop-page.added.items
      (memory_of c.args.base.now) (memory_of c.loop-page.base) c.args.space c.in-Some.page None c.loop-page.invariant.0
      (c.in-Some.ensures.steps ∙ ap (λ (change : Option SnapshotPage). (c.in-Some.page, change) ∷ c.next.new.self) c.in-None-change.is)
      c.in_ok-put-in-None-change.ensures.entry c.in_ok-put-in-None-change.ensures.put (λ x is. absurd (cc)),
  c.loop-page.invariant.1,
)

pub returns-clause-same : goal.returns-clause-same
returns-clause-same c = pages_left c.args.changes.entries c.loop-page.page-iterator c.loop-page.left.entries c.args.added.now.items c.loop-page.added.items
    (memory_of c.args.base.now) (memory_of c.loop-page.base) c.args.space c.loop-page.invariant.0 c.in-None.ensures.steps.0

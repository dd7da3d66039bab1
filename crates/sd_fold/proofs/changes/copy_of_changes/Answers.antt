use Rattle.std.proofs.Common.{◌∙◌, ap}
use Rattle.std.specs.Option.{option_map}
use Rattle.sd_areas.specs.Memory.{page_of_snapshot}
use Rattle.sd_fold.specs.Overlay.{changes_of}
use Rattle.sd_fold.proofs.CopyLemmas.{all_copied, copied_more}
use Rattle.sd_fold.proofs.OverLemmas.{change_of}
use Rattle.sd_fold.proofs.changes.copy_of_changes.Goals as goal

pub loop-page-preserved-in_ok-insert : goal.loop-page-preserved-in_ok-insert
loop-page-preserved-in_ok-insert c = copied_more change_of c.args.changes.now.entries c.loop-page.page-iterator c.next.new.self c.loop-page.copy.entries c.insert.new.self.entries
    c.in-Some.page.now c.in-Some.found.now c.in_ok-copy_of_found.field-0 c.loop-page.invariant c.in-Some.ensures.steps
    (c.in_ok-copy_of_found.ensures ∙ ap (option_map page_of_snapshot) c.as_ref.ensures.value) c.in_ok-insert.ensures.entries

pub loop-page-preserved-in_ok-insert-2 : goal.loop-page-preserved-in_ok-insert-2
loop-page-preserved-in_ok-insert-2 c = copied_more change_of c.args.changes.now.entries c.loop-page.page-iterator c.next.new.self c.loop-page.copy.entries c.insert.new.self.entries
    c.in-Some.page.now c.in-Some.found.now c.in_ok-copy_of_found.field-0 c.loop-page.invariant c.in-Some.ensures.steps
    (c.in_ok-copy_of_found.ensures ∙ ap (option_map page_of_snapshot) c.as_ref.ensures.value) c.in_ok-insert.ensures.entries

pub loop-page-preserved : goal.loop-page-preserved
loop-page-preserved c = copied_more change_of c.args.changes.now.entries c.loop-page.page-iterator c.next.new.self c.loop-page.copy.entries c.insert.new.self.entries
    c.in-Some.page.now c.in-Some.found.now c.in_ok-copy_of_found.field-0 c.loop-page.invariant c.in-Some.ensures.steps
    (c.in_ok-copy_of_found.ensures ∙ ap (option_map page_of_snapshot) c.as_ref.ensures.value) c.in_ok-insert.ensures.entries

pub returns : goal.returns
unfolding changes_of
returns c = all_copied change_of c.args.changes.now.entries c.loop-page.page-iterator c.loop-page.copy.entries c.loop-page.invariant c.in-None.ensures.steps.0

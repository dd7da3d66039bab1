use Rattle.std.proofs.Common.{◌∙◌, ap, sym}
use Rattle.std.specs.FinMap as finmap
use Rattle.std.specs.Prelude.{Some}
use Rattle.sd_areas.specs.Memory.{page_of_snapshot}
use Rattle.sd_areas.specs.PlainMemory.{Page}
use Rattle.sd_fold.specs.Overlay.{changes_of}
use Rattle.sd_fold.proofs.OverLemmas.{filling_goes, filling_skips}
use Rattle.sd_fold.proofs.Tables.{none_of}
use Rattle.sd_fold.proofs.changes.copy_all.Goals as goal

pub loop-page-preserved-in_ok-put : goal.loop-page-preserved-in_ok-put
loop-page-preserved-in_ok-put c = filling_goes (λ page. Some (page_of_snapshot page)) c.args.pages.now.entries c.loop-page.page-iterator c.next.new.self c.args.changes.now.entries c.loop-page.changes.entries
    c.put.new.changes.entries c.in-Some.page.now c.in-Some.found.now c.loop-page.invariant c.in-Some.ensures.steps (none_of _ (sym c.contains_key.ensures ∙ c.if-not-contains_key.true))
    (c.in_ok-put.ensures.put ∙ ap (λ (page : Page). finmap.insert (changes_of c.loop-page.changes.entries) c.in-Some.page.now (Some page)) c.in_ok-try_clone.ensures.copy)

pub loop-page-preserved : goal.loop-page-preserved
loop-page-preserved c = filling_skips (λ page. Some (page_of_snapshot page)) c.args.pages.now.entries c.loop-page.page-iterator c.next.new.self c.args.changes.now.entries c.loop-page.changes.entries
    c.in-Some.page.now c.in-Some.found.now c.loop-page.invariant c.in-Some.ensures.steps (sym c.contains_key.ensures ∙ c.if-not-contains_key.false)

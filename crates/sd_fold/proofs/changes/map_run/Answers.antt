use Rattle.std.proofs.Common.{rules, ◌≡◌, sym, ap, ◌∙◌}
use Rattle.std.specs.FinMap as finmap
use Rattle.std.specs.Prelude.{Some}
use Rattle.sd_areas.specs.Memory.{page_of_snapshot}
use Rattle.sd_areas.specs.PlainMemory.{Page, Space}
use Rattle.sd_pagetable.specs.Page.{zeros}
use Rattle.sd_fold.specs.Overlay.{changes_of, pages_over}
use Rattle.sd_fold.proofs.OverLemmas.{over_put}
use Rattle.sd_fold.proofs.Tables.{set_none, set_more}
use Rattle.sd_fold.proofs.changes.map_run.Goals as goal

pub loop-number-init : goal.loop-number-init
loop-number-init c = λ pages. sym (set_none (pages_over c.args.changes.now.entries pages) c.args.first (record { prot = c.args.prot; bytes = zeros }))

pub loop-number-preserved : goal.loop-number-preserved
loop-number-preserved c = λ pages.
    let is : c.unwrap-page.result ≡ c.loop-number.number = search rules in
    let fresh : Page = record { prot = c.args.prot; bytes = zeros } in
    let put : changes_of c.put.new.changes.entries ≡ finmap.insert (changes_of c.loop-number.changes.entries) c.loop-number.number (Some (page_of_snapshot c.in_ok-zero_page.field-0)) = rw is at c.in_ok-put.ensures.put in
    over_put c.loop-number.changes.entries c.put.new.changes.entries c.loop-number.number (Some (page_of_snapshot c.in_ok-zero_page.field-0)) pages put
    ∙ ap (λ page. finmap.insert (pages_over c.loop-number.changes.entries pages) c.loop-number.number page) c.in_ok-zero_page.ensures
    ∙ ap (λ (m : Space). finmap.insert m c.loop-number.number fresh) (c.loop-number.invariant pages)
    ∙ set_more (pages_over c.args.changes.now.entries pages) c.args.first c.loop-number.number fresh c.loop-number.auto.number

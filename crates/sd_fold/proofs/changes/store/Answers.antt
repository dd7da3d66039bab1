use Rattle.std.proofs.Common.{◌≡◌, ◌∙◌, ap, sym, ℕ, List}
use Rattle.std.specs.FinMap as finmap
use Rattle.std.specs.Option.{option_map}
use Rattle.sd_areas.specs.Memory.{space_of, page_of_snapshot}
use Rattle.sd_areas.specs.PlainMemory.{Page}
use Rattle.sd_pagetable.specs.Access.{stored_at}
use Rattle.sd_fold.specs.Overlay.{pages_over}
use Rattle.sd_fold.proofs.OverLemmas.{over_put}
use Rattle.sd_fold.proofs.Tables.{on_ok, put_changed}
use Rattle.sd_fold.proofs.changes.store.Goals as goal

pub returns : goal.returns
returns c =
    let below = space_of c.args.pages.now.entries in
    let bytes : c.write.new.page ≡ stored_at c.in-Some.found.bytes.value c.args.offset c.args.bytes.now =
    c.write.ensures ∙ ap (λ (page : List ℕ). stored_at page c.args.offset c.args.bytes.now) c.deref_mut.ensures.value in
    on_ok c.put.result _ _ (λ put. put_changed (pages_over c.args.changes.now.entries below) (pages_over c.take.new.changes.entries below) (pages_over c.put.new.changes.entries below) c.args.page
    (λ (page : Page). record page { bytes = stored_at page.bytes c.args.offset c.args.bytes.now }) (page_of_snapshot c.in-Some.found) c.in_ok-found.ensures.rest
    (ap (option_map page_of_snapshot) (sym c.in-Some.is) ∙ c.in_ok-found.ensures.found)
    (over_put c.take.new.changes.entries c.put.new.changes.entries c.args.page _ below put
    ∙ ap (λ (b : List ℕ). finmap.insert (pages_over c.take.new.changes.entries below) c.args.page (let page : Page = record { prot = c.in-Some.found.prot; bytes = b } in page)) bytes)) c.put.ensures.put

use Rattle.std.proofs.Common.{◌∙◌, ap, sym}
use Rattle.std.specs.Option.{option_map}
use Rattle.sd_areas.specs.Memory.{space_of, page_of_snapshot}
use Rattle.sd_areas.specs.PlainMemory.{Page}
use Rattle.sd_fold.specs.Overlay.{pages_over}
use Rattle.sd_fold.proofs.OverLemmas.{over_put}
use Rattle.sd_fold.proofs.Tables.{none_taken, on_ok, put_changed}
use Rattle.sd_fold.proofs.changes.protect.Goals as goal

pub returns-in_default-clause-hole : goal.returns-in_default-clause-hole
returns-in_default-clause-hole c = λ none. c.in_ok-found.ensures.rest ∙ none_taken (pages_over c.args.changes.now.entries (space_of c.args.pages.now.entries)) c.args.page none

pub returns-clause-mapped : goal.returns-clause-mapped
returns-clause-mapped c =
    let below = space_of c.args.pages.now.entries in
    on_ok c.put.result _ _ (λ put. put_changed (pages_over c.args.changes.now.entries below) (pages_over c.take.new.changes.entries below) (pages_over c.put.new.changes.entries below) c.args.page
    (λ (page : Page). record page { prot = c.args.prot }) (page_of_snapshot c.in-Some.found) c.in_ok-found.ensures.rest
    (ap (option_map page_of_snapshot) (sym c.in-Some.is) ∙ c.in_ok-found.ensures.found)
    (over_put c.take.new.changes.entries c.put.new.changes.entries c.args.page _ below put)) c.put.ensures.put

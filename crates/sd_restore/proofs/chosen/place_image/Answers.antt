use Rattle.std.proofs.Common.{◌≡◌, ◌∙◌, List, ap, map, sym, subst, get_or}
use Rattle.std.proofs.lemmas.List.Elements.{All-contains, All-contains_itself}
use Rattle.std.specs.Prelude.{Contains}
use Rattle.sd_image.specs.declared.table.SpaceTable.{SpaceTable}
use Rattle.sd_image.specs.Table.{IsTable, listing_of}
use Rattle.sd_image.proofs.Members.{contains_map}
use Rattle.sd_chain.specs.Catalog.{Opened, images}
use Rattle.sd_restore.specs.At.{StandsFor}
use Rattle.sd_restore.specs.Placed.{IsLaidOut, placed_memory, placed_pages}
use Rattle.sd_restore.proofs.LaidLemmas.{laid_image}
use Rattle.sd_restore.proofs.RunLemmas.{runs_in_slots}
use Rattle.sd_restore.proofs.MappedLemmas.{space_of}
use Rattle.sd_restore.proofs.ShowLemmas.{pages_in_slots, stands_for}
use Rattle.sd_restore.proofs.chosen.place_image.Goals as goal

pub returns-clause-memory : goal.returns-clause-memory
returns-clause-memory c = λ contents catalog.
    let image = c.args.image.now in
    let pages = placed_pages c.in_ok-runs.runs.items in
    let spaces : map listing_of c.as_slice.result.now ≡ image.spaces = ap (map listing_of) c.as_slice.ensures.value ∙ c.table.ensures in
    subst (λ listed. StandsFor contents image (placed_memory contents listed pages)) (sym spaces)
    (stands_for contents c.args.catalog.now image pages catalog c.in_ok-runs.ensures.placed)

pub returns-clause-slots : goal.returns-clause-slots
returns-clause-slots c = λ count slots.
    let runs = c.in_ok-runs.runs.items in
    runs_in_slots count runs c.in_ok-runs.ensures.within
    (pages_in_slots count c.args.catalog.now c.args.image.now (placed_pages runs) slots c.requires.own c.requires.member c.in_ok-runs.ensures.placed)

pub returns-clause-areas : goal.returns-clause-areas
returns-clause-areas c = λ k d less.
    let image = c.args.image.now in
    let items : List SpaceTable = c.as_slice.result.now in
    let table = All-contains (λ (i : Opened). IsTable i.header i.spaces) (images c.args.catalog.now) image c.requires.images.tables c.requires.member in
    let space = get_or items k d in
    let here : Contains items space = All-contains_itself items k d less in
    let spaces : map listing_of items ≡ image.spaces = ap (map listing_of) c.as_slice.ensures.value ∙ c.table.ensures in
    (space_of image.header 0 image.spaces (listing_of space) table.each (subst (λ xs. Contains xs (listing_of space)) spaces (contains_map listing_of items space here))).1.areas

pub returns-clause-laid : goal.returns-clause-laid
returns-clause-laid c = λ contents all i catalog among.
    let image = c.args.image.now in
    let pages = placed_pages c.in_ok-runs.runs.items in
    let spaces : map listing_of c.as_slice.result.now ≡ image.spaces = ap (map listing_of) c.as_slice.ensures.value ∙ c.table.ensures in
    subst (λ listed. IsLaidOut contents listed pages (placed_memory contents listed pages)) (sym spaces)
    (laid_image c.areas_law.ensures c.one_list_law.ensures contents c.args.catalog.now image pages all i catalog among c.in_ok-runs.ensures.placed)

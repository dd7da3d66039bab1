use Rattle.std.proofs.Common.{rules, ◌≡◌, ◌+◌, ◌++◌, ◌∙◌, List, [], map, take, drop, ap, sym, subst, Contains, Some}
use Rattle.std.specs.List.{flat_map}
use Rattle.std.proofs.lemmas.List.Elements.{All-contains}
use Rattle.std.proofs.lemmas.List.Folds.{flat_map-map}
use Rattle.sd_image.specs.declared.header.Header.{Header}
use Rattle.sd_image.specs.declared.table.SpaceTable.{SpaceTable}
use Rattle.sd_image.specs.Table.{listing_of, IsTable}
use Rattle.sd_image.proofs.Members.{contains_map}
use Rattle.sd_chain.specs.Catalog.{Opened, images, place_of}
use Rattle.sd_restore.specs.Faulty.{FaultNames}
use Rattle.sd_restore.specs.Mapped.{space_mapped, mapped_pages}
use Rattle.sd_restore.specs.Placed.{MeetsBreak, ArePlaced, placed_pages}
use Rattle.sd_restore.proofs.MappedLemmas.{has_page, space_of}
use Rattle.sd_restore.proofs.PlacedLemmas.{part_breaks}
use Rattle.sd_restore.proofs.TakeLemmas.{contains_index, taken_all, split_parts}
use Rattle.sd_restore.proofs.chain.place_pages.Goals as goal

pub place_space-requires-clause-maximal : goal.place_space-requires-clause-maximal
place_space-requires-clause-maximal c =
    let image = c.args.image.now in
    let table = All-contains (λ (i : Opened). IsTable i.header i.spaces) (images c.args.catalog.now) image c.requires.images.tables c.requires.member in
    let items : List SpaceTable = c.deref-space-items.result.now in
    let here : Contains items c.space-item.result = contains_index items c.loop-space.space-index c.space-item.result c.loop-space-test.true c.space-item.is in
    let spaces : map listing_of items ≡ image.spaces = ap (map listing_of) c.deref-space-items.ensures.value ∙ c.table.ensures in
    (space_of image.header 0 image.spaces (listing_of c.space-item.result) table.each (subst (λ xs. Contains xs (listing_of c.space-item.result)) spaces (contains_map listing_of items c.space-item.result here))).1.areas

pub place_space-requires-clause-listed : goal.place_space-requires-clause-listed
place_space-requires-clause-listed c = λ page among absent.
    let image = c.args.image.now in
    let table = All-contains (λ (i : Opened). IsTable i.header i.spaces) (images c.args.catalog.now) image c.requires.images.tables c.requires.member in
    let items : List SpaceTable = c.deref-space-items.result.now in
    let here : Contains items c.space-item.result = contains_index items c.loop-space.space-index c.space-item.result c.loop-space-test.true c.space-item.is in
    let spaces : map listing_of items ≡ image.spaces = ap (map listing_of) c.deref-space-items.ensures.value ∙ c.table.ensures in
    let there : Contains image.spaces (listing_of c.space-item.result) = subst (λ xs. Contains xs (listing_of c.space-item.result)) spaces (contains_map listing_of items c.space-item.result here) in
    let space = space_of image.header 0 image.spaces (listing_of c.space-item.result) table.each there in
    let found = has_page image.header space.0 image.spaces (listing_of c.space-item.result) page c.requires.restored space.1 there among in
    absent image (subst (λ (h : Header). place_of c.args.catalog.now h.serial ≡ Some (Some image)) (sym c.header.ensures) c.requires.own) found.0 found.1

pub returns-in_err-place_space-clause-broken : goal.returns-in_err-place_space-clause-broken
returns-in_err-place_space-clause-broken c =
    let image = c.args.image.now in
    let items : List SpaceTable = c.deref-space-items.result.now in
    let i = c.loop-space.space-index in
    let mapped : SpaceTable → List _ = λ s. space_mapped (listing_of s) in
    let spaces : map listing_of items ≡ image.spaces = ap (map listing_of) c.deref-space-items.ensures.value ∙ c.table.ensures in
    let all : flat_map mapped items ≡ mapped_pages image.spaces = sym (flat_map-map space_mapped listing_of items) ∙ ap mapped_pages spaces in
    let broken = rw c.header.ensures at (c.in_err-place_space.ensures.broken ([] ++ flat_map mapped (take i items))) in
    let named : FaultNames (MeetsBreak c.args.catalog.now image.header.serial (mapped_pages image.spaces)) c.in_err-place_space.field-0.0 =
    subst (λ ms. FaultNames (MeetsBreak c.args.catalog.now image.header.serial ms) c.in_err-place_space.field-0.0) all
    (part_breaks c.args.catalog.now image.header.serial [] (flat_map mapped (take i items)) (mapped c.space-item.result) (flat_map mapped (drop (i + 1) items))
    (flat_map mapped items) c.in_err-place_space.field-0.0 (split_parts mapped items i c.space-item.result c.loop-space-test.true c.space-item.is)
    (broken c.loop-space.invariant.pages)) in
    search rules

pub returns-clause-placed : goal.returns-clause-placed
returns-clause-placed c =
    let image = c.args.image.now in
    let items : List SpaceTable = c.deref-space-items.result.now in
    let mapped : SpaceTable → List _ = λ s. space_mapped (listing_of s) in
    let spaces : map listing_of items ≡ image.spaces = ap (map listing_of) c.deref-space-items.ensures.value ∙ c.table.ensures in
    let every : flat_map mapped items ≡ mapped_pages image.spaces = sym (flat_map-map space_mapped listing_of items) ∙ ap mapped_pages spaces in
    subst (λ ms. ArePlaced c.args.catalog.now image.header.serial ms (placed_pages c.loop-space.runs.items))
    (ap (flat_map mapped) (taken_all items c.loop-space.space-index c.loop-space-test.false) ∙ every) c.loop-space.invariant.pages

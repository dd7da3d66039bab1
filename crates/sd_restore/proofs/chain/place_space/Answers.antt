use Rattle.std.proofs.Common.{rules, ◌≡◌, ◌<◌, ◌≤◌, ◌+◌, ◌++◌, ◌∙◌, take, drop, length, slice_index_or, ap, sym, subst, append_assoc, None}
use Rattle.std.specs.List.{flat_map}
use Rattle.sd_areas.specs.Areas.{area_pages}
use Rattle.sd_image.specs.Table.{listing_of}
use Rattle.sd_restore.specs.Faulty.{FaultNames}
use Rattle.sd_restore.specs.Mapped.{area_mapped, space_mapped}
use Rattle.sd_chain.specs.Chains.{IsChainOf}
use Rattle.sd_restore.specs.Placed.{MeetsBreak, ArePlaced, placed_pages}
use Rattle.sd_restore.proofs.MappedLemmas.{area_within}
use Rattle.sd_restore.proofs.PlacedLemmas.{part_breaks}
use Rattle.sd_restore.proofs.TakeLemmas.{contains_index, taken_parts, taken_all, split_parts, among_parts}
use Rattle.sd_restore.proofs.chain.place_space.Goals as goal

pub place_area-requires-clause-within : goal.place_area-requires-clause-within
place_area-requires-clause-within c =
    let areas = c.args.space.now.areas.items in
    let less : c.loop-area.area-index < length areas = rw c.deref-area-items.ensures.value at c.loop-area-test.true in
    let is : c.area-item.result ≡ slice_index_or areas c.loop-area.area-index c.area-item.result = rw c.deref-area-items.ensures.value at c.area-item.is in
    area_within None areas c.area-item.result c.requires.maximal (contains_index areas c.loop-area.area-index c.area-item.result less is)

pub place_area-requires-clause-listed : goal.place_area-requires-clause-listed
place_area-requires-clause-listed c = λ page among.
    let areas = c.args.space.now.areas.items in
    let less : c.loop-area.area-index < length areas = rw c.deref-area-items.ensures.value at c.loop-area-test.true in
    let is : c.area-item.result ≡ slice_index_or areas c.loop-area.area-index c.area-item.result = rw c.deref-area-items.ensures.value at c.area-item.is in
    c.requires.listed page (among_parts area_pages areas c.loop-area.area-index c.area-item.result less is page among)

pub returns-in_err-place_area-clause-broken : goal.returns-in_err-place_area-clause-broken
returns-in_err-place_area-clause-broken c = λ done was.
    let areas = c.args.space.now.areas.items in
    let i = c.loop-area.area-index in
    let space = c.args.space.now.space in
    let less : i < length areas = rw c.deref-area-items.ensures.value at c.loop-area-test.true in
    let is : c.area-item.result ≡ slice_index_or areas i c.area-item.result = rw c.deref-area-items.ensures.value at c.area-item.is in
    let named : FaultNames (MeetsBreak c.args.catalog.now c.args.serial (done ++ space_mapped (listing_of c.args.space.now))) c.in_err-place_area.field-0.0 =
    part_breaks c.args.catalog.now c.args.serial done (flat_map (area_mapped space) (take i areas)) (area_mapped space c.area-item.result) (flat_map (area_mapped space) (drop (i + 1) areas))
    (flat_map (area_mapped space) areas) c.in_err-place_area.field-0.0 (split_parts (area_mapped space) areas i c.area-item.result less is)
    (c.in_err-place_area.ensures.broken (done ++ flat_map (area_mapped space) (take i areas)) (c.loop-area.invariant.pages done was)) in
    search rules

pub place_area-requires-clause-chain : goal.place_area-requires-clause-chain
place_area-requires-clause-chain c = subst (IsChainOf c.args.catalog.now c.args.serial) (sym c.loop-area.invariant.chain) c.requires.chain

pub loop-area-preserved : goal.loop-area-preserved
loop-area-preserved c =
    let areas = c.args.space.now.areas.items in
    let i = c.loop-area.area-index in
    let space = c.args.space.now.space in
    let less : i < length areas = rw c.deref-area-items.ensures.value at c.loop-area-test.true in
    let is : c.area-item.result ≡ slice_index_or areas i c.area-item.result = rw c.deref-area-items.ensures.value at c.area-item.is in
    record {
      chain = c.in_ok-place_area.ensures.chain ∙ c.loop-area.invariant.chain;
      runs = λ all. c.in_ok-place_area.ensures.within (c.loop-area.invariant.runs all);
      pages = λ done was.
          subst (λ ms. ArePlaced c.args.catalog.now c.args.serial ms (placed_pages c.place_area.new.runs.items))
          (append_assoc done (flat_map (area_mapped space) (take i areas)) (area_mapped space c.area-item.result) ∙ ap (λ ms. done ++ ms) (sym (taken_parts (area_mapped space) areas i c.area-item.result less is)))
          (c.in_ok-place_area.ensures.placed (done ++ flat_map (area_mapped space) (take i areas)) (c.loop-area.invariant.pages done was));
    }

pub returns-clause-placed : goal.returns-clause-placed
returns-clause-placed c = λ done was.
    let areas = c.args.space.now.areas.items in
    let all : length areas ≤ c.loop-area.area-index = rw c.deref-area-items.ensures.value at c.loop-area-test.false in
    subst (λ xs. ArePlaced c.args.catalog.now c.args.serial (done ++ flat_map (area_mapped c.args.space.now.space) xs) (placed_pages c.loop-area.runs.items)) (taken_all areas c.loop-area.area-index all) (c.loop-area.invariant.pages done was)

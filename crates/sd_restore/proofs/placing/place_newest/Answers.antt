use Rattle.std.proofs.Common.{◌≡◌, ℕ, List, Some, ap, map, sym, subst}
use Rattle.sd_image.specs.Shows.{Shows}
use Rattle.sd_image.specs.Table.{listing_of}
use Rattle.sd_chain.specs.Store.{FindsTip}
use Rattle.sd_restore.specs.At.{StandsFor}
use Rattle.sd_restore.specs.Faulty.{IsBrokenChain}
use Rattle.sd_restore.specs.Mapped.{mapped_pages}
use Rattle.sd_restore.specs.Placed.{MeetsBreak, placed_memory, placed_pages}
use Rattle.sd_restore.specs.declared.placing.PlacedMemory.{PlacedMemory}
use Rattle.sd_restore.proofs.AtLemmas.{broken_tip, err_more, ok_both, tip_among}
use Rattle.sd_restore.proofs.ShowLemmas.{no_break, tip_shows}
use Rattle.sd_restore.proofs.placing.place_newest.Goals as goal

pub returns-clause-shown : goal.returns-clause-shown
returns-clause-shown c = λ contents catalog.
    let tip = c.in-Some.tip.now in
    let finds : FindsTip contents (Some c.in-Some.tip) = subst (FindsTip contents) c.in-Some.is (c.tip.ensures.store contents catalog) in
    ok_both (λ placed. placed.checkpoint ≡ tip.header.checkpoint)
    (λ placed. StandsFor contents tip (placed_memory contents (map listing_of placed.spaces.now) (placed_pages placed.runs.items)))
    (λ placed. Shows contents (Some (placed.checkpoint, placed_memory contents (map listing_of placed.spaces.now) (placed_pages placed.runs.items)))) c.place_image.result
    (λ placed number stands. subst (λ n. Shows contents (Some (n, placed_memory contents (map listing_of placed.spaces.now) (placed_pages placed.runs.items)))) (sym number) (tip_shows contents c.in-Some.tip _ finds stands))
    c.place_image.ensures.checkpoint (c.place_image.ensures.memory contents catalog)

pub returns-clause-laid : goal.returns-clause-laid
returns-clause-laid c = λ contents catalog.
    let finds : FindsTip contents (Some c.in-Some.tip) = subst (FindsTip contents) c.in-Some.is (c.tip.ensures.store contents catalog) in
    c.place_image.ensures.laid contents finds.images finds.newest.0 catalog (tip_among contents c.in-Some.tip finds)

pub returns-clause-broken : goal.returns-clause-broken
returns-clause-broken c = λ contents catalog.
    let tip = c.in-Some.tip.now in
    let finds : FindsTip contents (Some c.in-Some.tip) = subst (FindsTip contents) c.in-Some.is (c.tip.ensures.store contents catalog) in
    err_more (MeetsBreak c.args.catalog.now tip.header.serial (mapped_pages tip.spaces)) (IsBrokenChain contents) c.place_image.result
    (λ slot reason met. broken_tip contents c.args.catalog.now c.in-Some.tip slot reason c.sound.ensures catalog finds c.in-Some.ensures.newest met)
    c.place_image.ensures.broken

pub returns-clause-good : goal.returns-clause-good
returns-clause-good c = λ contents shown catalog shows.
    let tip = c.in-Some.tip.now in
    let finds : FindsTip contents (Some c.in-Some.tip) = subst (FindsTip contents) c.in-Some.is (c.tip.ensures.store contents catalog) in
    err_more (MeetsBreak c.args.catalog.now tip.header.serial (mapped_pages tip.spaces)) (λ slot reason. ⊥) c.place_image.result
    (λ slot reason met. no_break c.one_store.ensures c.tip_once.ensures contents c.args.catalog.now c.in-Some.tip slot reason shown catalog finds met shows)
    c.place_image.ensures.broken

pub returns-clause-wanted : goal.returns-clause-wanted
returns-clause-wanted c = λ _. (c.in-Some.tip.now, c.in-Some.ensures.newest)

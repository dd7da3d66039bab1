use Rattle.std.proofs.Common.{◌≡◌, ℕ, List, None, Some, map, subst}
use Rattle.sd_image.specs.Table.{listing_of}
use Rattle.sd_chain.specs.Checkpoints.{FindsCheckpoint}
use Rattle.sd_restore.specs.At.{IsBrokenAt, ShowsAt, StandsFor}
use Rattle.sd_restore.specs.Mapped.{mapped_pages}
use Rattle.sd_restore.specs.Placed.{MeetsBreak, placed_memory, placed_pages}
use Rattle.sd_restore.proofs.AtLemmas.{at_among, at_lacks, at_shows, broken_at, err_more, no_break_at, ok_both, shows_found}
use Rattle.sd_restore.proofs.at.place_at.Goals as goal

pub returns-in_default-clause-empty : goal.returns-in_default-clause-empty
returns-in_default-clause-empty c = λ contents catalog _.
    at_lacks contents c.args.number (subst (FindsCheckpoint contents c.args.number) c.in_default.is (c.of_checkpoint.ensures.store contents catalog))

pub returns-in_default-clause-saved : goal.returns-in_default-clause-saved
returns-in_default-clause-saved c = λ contents memory catalog shows _.
    shows_found c.one_store.ensures contents c.args.number memory
    (subst (FindsCheckpoint contents c.args.number) c.in_default.is (c.of_checkpoint.ensures.store contents catalog)) shows

pub returns-clause-shown : goal.returns-clause-shown
returns-clause-shown c = λ contents catalog.
    let finds : FindsCheckpoint contents c.args.number (Some c.in-Some.image) = subst (FindsCheckpoint contents c.args.number) c.in-Some.is (c.of_checkpoint.ensures.store contents catalog) in
    let stands = c.place_image.ensures.memory contents catalog in
    ok_both (λ placed. StandsFor contents c.in-Some.image.now (placed_memory contents (map listing_of placed.spaces.now) (placed_pages placed.runs.items)))
    (λ placed. StandsFor contents c.in-Some.image.now (placed_memory contents (map listing_of placed.spaces.now) (placed_pages placed.runs.items)))
    (λ placed. ShowsAt contents c.args.number (placed_memory contents (map listing_of placed.spaces.now) (placed_pages placed.runs.items))) c.place_image.result
    (λ placed is _. at_shows contents c.args.number c.in-Some.image _ finds is) stands stands

pub returns-clause-laid : goal.returns-clause-laid
returns-clause-laid c = λ contents catalog.
    let finds : FindsCheckpoint contents c.args.number (Some c.in-Some.image) = subst (FindsCheckpoint contents c.args.number) c.in-Some.is (c.of_checkpoint.ensures.store contents catalog) in
    c.place_image.ensures.laid contents finds.images finds.found.0 catalog (at_among contents c.args.number c.in-Some.image finds)

pub returns-clause-broken : goal.returns-clause-broken
returns-clause-broken c = λ contents catalog.
    let image = c.in-Some.image.now in
    let finds : FindsCheckpoint contents c.args.number (Some c.in-Some.image) = subst (FindsCheckpoint contents c.args.number) c.in-Some.is (c.of_checkpoint.ensures.store contents catalog) in
    err_more (MeetsBreak c.args.catalog.now image.header.serial (mapped_pages image.spaces)) (IsBrokenAt contents c.args.number) c.place_image.result
    (λ slot reason met. broken_at contents c.args.catalog.now c.args.number c.in-Some.image slot reason c.sound.ensures catalog finds c.in-Some.ensures.found met)
    c.place_image.ensures.broken

pub returns-clause-good : goal.returns-clause-good
returns-clause-good c = λ contents memory catalog shows.
    let image = c.in-Some.image.now in
    let finds : FindsCheckpoint contents c.args.number (Some c.in-Some.image) = subst (FindsCheckpoint contents c.args.number) c.in-Some.is (c.of_checkpoint.ensures.store contents catalog) in
    err_more (MeetsBreak c.args.catalog.now image.header.serial (mapped_pages image.spaces)) (λ slot reason. ⊥) c.place_image.result
    (λ slot reason met. no_break_at c.one_store.ensures contents c.args.catalog.now c.args.number c.in-Some.image slot reason memory catalog finds met shows)
    c.place_image.ensures.broken

pub returns-clause-wanted : goal.returns-clause-wanted
returns-clause-wanted c = λ _. (c.in-Some.image.now, c.in-Some.ensures.found)

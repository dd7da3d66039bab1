use Rattle.std.proofs.Common.{◌≡◌, ◌+◌, ◌≤◌, ℕ, List, None, Some, ap, sym, ◌∙◌, subst, arith}
use Rattle.sd_areas.specs.Memory.{memory_of}
use Rattle.sd_chain.specs.Checkpoints.{FindsCheckpoint}
use Rattle.sd_restore.specs.At.{IsBrokenAt, ShowsAt, StandsFor}
use Rattle.sd_restore.specs.Mapped.{mapped_pages}
use Rattle.sd_restore.specs.Placed.{MeetsBreak}
use Rattle.sd_restore.proofs.AtLemmas.{at_lacks, at_shows, broken_at, err_more, lacks_found, no_break_at, ok_both, shows_found, within_at}
use Rattle.sd_restore.proofs.at.restore_at_from.Goals as goal

pub returns-in_default-clause-empty : goal.returns-in_default-clause-empty
returns-in_default-clause-empty g c = λ catalog _.
    let contents : List (List ℕ) = g.D.Disk.contents c.args.disk.now in
    at_lacks contents c.args.number (subst (FindsCheckpoint contents c.args.number) c.in_default.is (c.of_checkpoint.ensures.store contents catalog))

pub returns-in_default-clause-saved : goal.returns-in_default-clause-saved
returns-in_default-clause-saved g c = λ memory catalog shows _.
    let contents : List (List ℕ) = g.D.Disk.contents c.args.disk.now in
    shows_found c.one_store.ensures contents c.args.number memory
    (subst (FindsCheckpoint contents c.args.number) c.in_default.is (c.of_checkpoint.ensures.store contents catalog)) shows

pub returns-clause-shown : goal.returns-clause-shown
returns-clause-shown g c = λ honest catalog.
    let contents : List (List ℕ) = g.D.Disk.contents c.args.disk.now in
    let finds : FindsCheckpoint contents c.args.number (Some c.in-Some.image) = subst (FindsCheckpoint contents c.args.number) c.in-Some.is (c.of_checkpoint.ensures.store contents catalog) in
    ok_both (λ snapshot. StandsFor contents c.in-Some.image.now (memory_of snapshot)) (λ snapshot. StandsFor contents c.in-Some.image.now (memory_of snapshot))
    (λ snapshot. ShowsAt contents c.args.number (memory_of snapshot)) c.restore_image.result
    (λ snapshot stands _. at_shows contents c.args.number c.in-Some.image (memory_of snapshot) finds stands)
    (c.restore_image.ensures.memory honest catalog) (c.restore_image.ensures.memory honest catalog)

pub returns-clause-broken : goal.returns-clause-broken
returns-clause-broken g c = λ catalog.
    let contents : List (List ℕ) = g.D.Disk.contents c.args.disk.now in
    let image = c.in-Some.image.now in
    let finds : FindsCheckpoint contents c.args.number (Some c.in-Some.image) = subst (FindsCheckpoint contents c.args.number) c.in-Some.is (c.of_checkpoint.ensures.store contents catalog) in
    err_more (MeetsBreak c.args.catalog.now image.header.serial (mapped_pages image.spaces)) (IsBrokenAt contents c.args.number) c.restore_image.result
    (λ slot reason met. broken_at contents c.args.catalog.now c.args.number c.in-Some.image slot reason c.sound.ensures catalog finds c.in-Some.ensures.found met)
    c.restore_image.ensures.broken

pub returns-clause-good : goal.returns-clause-good
returns-clause-good g c = λ memory catalog shows.
    let contents : List (List ℕ) = g.D.Disk.contents c.args.disk.now in
    let image = c.in-Some.image.now in
    let finds : FindsCheckpoint contents c.args.number (Some c.in-Some.image) = subst (FindsCheckpoint contents c.args.number) c.in-Some.is (c.of_checkpoint.ensures.store contents catalog) in
    err_more (MeetsBreak c.args.catalog.now image.header.serial (mapped_pages image.spaces)) (λ slot reason. ⊥) c.restore_image.result
    (λ slot reason met. no_break_at c.one_store.ensures contents c.args.catalog.now c.args.number c.in-Some.image slot reason memory catalog finds met shows)
    c.restore_image.ensures.broken

pub returns-clause-lacking : goal.returns-clause-lacking
returns-clause-lacking g c = λ catalog lacks.
    let contents : List (List ℕ) = g.D.Disk.contents c.args.disk.now in
    let finds : FindsCheckpoint contents c.args.number (Some c.in-Some.image) = subst (FindsCheckpoint contents c.args.number) c.in-Some.is (c.of_checkpoint.ensures.store contents catalog) in
    absurd (lacks_found c.one_store.ensures contents c.args.number c.in-Some.image finds lacks)

pub returns-clause-calls : goal.returns-clause-calls
returns-clause-calls g c = λ count catalog within.
    let contents : List (List ℕ) = g.D.Disk.contents c.args.disk.now in
    let finds : FindsCheckpoint contents c.args.number (Some c.in-Some.image) = subst (FindsCheckpoint contents c.args.number) c.in-Some.is (c.of_checkpoint.ensures.store contents catalog) in
    let few = within_at contents c.args.number c.in-Some.image count finds within in
    let made = c.restore_image.ensures.calls in
    omega (arith, few, made)

pub returns-clause-wanted : goal.returns-clause-wanted
returns-clause-wanted g c = λ _. (c.in-Some.image.now, c.in-Some.ensures.found)

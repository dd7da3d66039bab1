use Rattle.std.proofs.Common.{◌≡◌, ℕ, List, Result, Ok, Err}
use Rattle.std.specs.Prelude.{IfErr, OnOk}
use Rattle.sd_chain.specs.Store.{HasTheImages}
use Rattle.sd_drop.specs.declared.drop_error.DropError.TheVariants.{Needed}
use Rattle.sd_drop.specs.Errors.{ErrorSays}
use Rattle.sd_drop.specs.Needed.{IsDamagedBeside, IsNeeded}
use Rattle.sd_drop.specs.Reached.{IsReachedIn}
use Rattle.sd_drop.proofs.NeedLemmas.{needed_in_order, unneeded_in_order}
use Rattle.sd_drop.proofs.checking.check.Goals as goal

err_more : {T E : Type 0} (r : Result T E) (P Q : E → Type 0) → ((e : E) → P e → Q e) → IfErr r P → IfErr r Q
err_more (Ok x) P Q more was = tt
err_more (Err e) P Q more was = more e was

ok_more : {T E P Q : Type 0} (r : Result T E) → (P → Q) → OnOk r P → OnOk r Q
ok_more (Ok x) more was = more was
ok_more (Err e) more was = tt

pub returns-in-Ok-clause-says : goal.returns-in-Ok-clause-says
returns-in-Ok-clause-says g c = λ honest.
    let contents : List (List ℕ) = g.D.Disk.contents c.args.disk.now in
    let slot = c.args.slot in
    let store = c.in-Ok.ensures.store honest in
    let h : HasTheImages contents c.in-Ok.catalog store.0 = c.has_the_images.ensures contents store.0 (c.in-Ok.ensures.catalog honest) store.1.slots in
    err_more c.check_reached.result (λ error. (error ≡ Needed) × IsReachedIn c.in-Ok.catalog slot)
    (ErrorSays ⊥ (IsNeeded contents slot) (IsDamagedBeside contents slot))
    (λ error r. needed_in_order contents c.in-Ok.catalog store.0 slot error h store.1 r) (c.check_reached.ensures.needed c.in-Ok.ensures.images.fall)

pub returns-in-Ok-clause-unneeded : goal.returns-in-Ok-clause-unneeded
returns-in-Ok-clause-unneeded g c = λ honest.
    let contents : List (List ℕ) = g.D.Disk.contents c.args.disk.now in
    let slot = c.args.slot in
    let store = c.in-Ok.ensures.store honest in
    let h : HasTheImages contents c.in-Ok.catalog store.0 = c.has_the_images.ensures contents store.0 (c.in-Ok.ensures.catalog honest) store.1.slots in
    ok_more c.check_reached.result
    (λ free. unneeded_in_order contents c.in-Ok.catalog store.0 slot c.sound.ensures (c.in-Ok.ensures.catalog honest) h store.1 free)
    (c.check_reached.ensures.unneeded c.in-Ok.ensures.images.fall)

pub returns-in-Err-clause-unneeded : goal.returns-in-Err-clause-unneeded
returns-in-Err-clause-unneeded g c = λ honest. rw c.in-Err.ensures.reads.same at (c.check_fault.ensures.unneeded honest)

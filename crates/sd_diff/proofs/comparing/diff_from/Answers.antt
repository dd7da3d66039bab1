use Rattle.std.proofs.Common.{◌≡◌, ℕ, List, length, map, ap, sym, subst}
use Rattle.std.specs.Prelude.{Err}
use Rattle.sd_image.specs.Table.{listing_of}
use Rattle.sd_restore.specs.declared.fault.Fault.TheVariants as fault
use Rattle.sd_restore.specs.Placed.{placed_memory, placed_pages}
use Rattle.sd_diff.specs.Faults.{Names}
use Rattle.sd_diff.specs.Spaces.{AreDifferences, ArePagesOf, RiseInSpaces, held_of}
use Rattle.sd_diff.proofs.DifferenceLemmas.{placed_differ, rise}
use Rattle.sd_diff.proofs.FaultLemmas.{never_named}
use Rattle.sd_diff.proofs.comparing.diff_from.Goals as goal

pub diff_spaces-requires-clause-old : goal.diff_spaces-requires-clause-old
diff_spaces-requires-clause-old g c =
    let count : ℕ = length (g.D.Disk.contents c.args.disk.now) in
    let are : ArePagesOf count c.in-Ok.placed.runs.items = record { within = c.in-Ok.ensures.within; slots = c.in-Ok.ensures.slots count c.requires.slots } in
    subst (ArePagesOf count) (sym c.deref.ensures.value) are

pub diff_spaces-requires-clause-new : goal.diff_spaces-requires-clause-new
diff_spaces-requires-clause-new g c =
    let count : ℕ = length (g.D.Disk.contents c.args.disk.now) in
    let are : ArePagesOf count c.in-Ok-place_at.placed.runs.items = record { within = c.in-Ok-place_at.ensures.within; slots = c.in-Ok-place_at.ensures.slots count c.requires.slots } in
    subst (ArePagesOf count) (sym c.deref-2.ensures.value) are

pub returns-in-Err-clause-good : goal.returns-in-Err-clause-good
returns-in-Err-clause-good g c = λ catalog both.
    let contents : List (List ℕ) = g.D.Disk.contents c.args.disk.now in
    subst (Names (λ _. ⊥) (λ _ _. ⊥)) (sym c.at.ensures)
    (never_named c.args.old c.in-Err.fault
    (λ (e : c.in-Err.fault ≡ fault.EmptyChain). c.in-Err.ensures.saved contents both.before catalog both.old_is (ap Err e))
    (c.in-Err.ensures.good contents both.before catalog both.old_is))

pub returns-in-Err-place_at-clause-good : goal.returns-in-Err-place_at-clause-good
returns-in-Err-place_at-clause-good g c = λ catalog both.
    let contents : List (List ℕ) = g.D.Disk.contents c.args.disk.now in
    subst (Names (λ _. ⊥) (λ _ _. ⊥)) (sym c.at-in-Err-place_at.ensures)
    (never_named c.args.new c.in-Err-place_at.fault
    (λ (e : c.in-Err-place_at.fault ≡ fault.EmptyChain). c.in-Err-place_at.ensures.saved contents both.after catalog both.new_is (ap Err e))
    (c.in-Err-place_at.ensures.good contents both.after catalog both.new_is))

pub returns-in-Ok-diff_spaces-clause-exact : goal.returns-in-Ok-diff_spaces-clause-exact
returns-in-Ok-diff_spaces-clause-exact g c = λ honest catalog before after shows_old shows_new.
    let contents : List (List ℕ) = g.D.Disk.contents c.args.disk.now in
    let was = c.in-Ok in
    let is = c.in-Ok-place_at in
    let spaces = map listing_of was.placed.spaces.now in
    let others = map listing_of is.placed.spaces.now in
    let runs = was.placed.runs.items in
    let next = is.placed.runs.items in
    let laid_old = was.ensures.laid contents catalog in
    let laid_new = is.ensures.laid contents catalog in
    let old = c.deref.ensures.value in
    let new = c.deref-2.ensures.value in
    let d = c.in-Ok-diff_spaces.difference in
    let rise_old = subst RiseInSpaces (sym old) (rise contents spaces runs was.ensures.within laid_old) in
    let rise_new = subst RiseInSpaces (sym new) (rise contents others next is.ensures.within laid_new) in
    let are : AreDifferences contents 17 (held_of runs) (held_of next) d =
    subst (λ rs. AreDifferences contents 17 (held_of rs) (held_of next) d) old
    (subst (λ rs. AreDifferences contents 17 (held_of c.deref.result.now) (held_of rs) d) new (c.in-Ok-diff_spaces.ensures.exact honest rise_old rise_new)) in
    placed_differ c.one_store.ensures contents c.args.old c.args.new before after spaces others runs next d shows_old shows_new
    (was.ensures.shown contents catalog) (is.ensures.shown contents catalog) laid_old laid_new was.ensures.within is.ensures.within are

pub returns-in-Ok-diff_spaces-clause-shown : goal.returns-in-Ok-diff_spaces-clause-shown
returns-in-Ok-diff_spaces-clause-shown g c = λ catalog.
    let contents : List (List ℕ) = g.D.Disk.contents c.args.disk.now in
    record {
      before = placed_memory contents (map listing_of c.in-Ok.placed.spaces.now) (placed_pages c.in-Ok.placed.runs.items);
      after = placed_memory contents (map listing_of c.in-Ok-place_at.placed.spaces.now) (placed_pages c.in-Ok-place_at.placed.runs.items);
      old_is = c.in-Ok.ensures.shown contents catalog;
      new_is = c.in-Ok-place_at.ensures.shown contents catalog;
    }

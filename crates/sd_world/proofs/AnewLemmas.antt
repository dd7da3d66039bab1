-- What is so of every world stays so where a store was read again.
use Rattle.std.proofs.Common.{◌≡◌, ℕ, ◌<◌, List, [], map, drop, length, Some, slice_get, slice_index_or, sym, ◌∙◌, ap, subst}
use Rattle.std.proofs.lemmas.Option.{get_or_from_slice_get, slice_get-get_or, slice_get_within}
use Rattle.sd_disk.specs.Contents.{file_at}
use Rattle.sd_disk.specs.declared.disk.Disk.{Ghosts}
use Rattle.sd_gate.specs.declared.phase.Phase.{Phase}
use Rattle.sd_gate.specs.declared.phase.Phase.TheVariants.{Raw}
use Rattle.sd_gate.specs.declared.request_id.RequestId.{RequestId}
use Rattle.sd_gate.specs.Fits.{SlotFits, DiskLeaves}
use Rattle.sd_gate.specs.Laws.{found_phase}
use Rattle.sd_store_laws.specs.GateSteps.{SyncedIsFound}
use Rattle.sd_crash_safety.specs.Calls.{NoneOut, StartsAnew}
use Rattle.sd_crash_safety.specs.Knows.{IsRefound}
use Rattle.sd_crash_safety.specs.View.{CoreView}
use Rattle.sd_world.specs.declared.kept.Kept.{Kept}
use Rattle.sd_world.specs.declared.kept.Kept.TheVariants.{Outcome}
use Rattle.sd_world.specs.Consistent.{IsConsistent, IsWorld, SlotNow, slot_now}
use Rattle.sd_world.specs.View.{asked_of, kept_id}
use Rattle.sd_world.proofs.RestingLemmas as resting
use Rattle.sd_world.proofs.Lists.{get_map, map_get}
use Rattle.sd_world.proofs.Worlds.{Fits, slot_as}

module _ {D : Type 0} (g : Ghosts D) (disk : D) (old new : CoreView) (kept : List Kept) (anew : StartsAnew old new)
    (world : IsWorld g (record { core = old; disk = disk; kept = kept })) where
  files : List (List ℕ)
  files = g.contents disk

  idle : (worker : ℕ) (id : RequestId) → slice_get (map kept_id kept) worker ≡ Some (Some id) → ⊥
  idle = resting.idle g disk old kept anew.none world

  none_asked : NoneOut (map asked_of kept)
  none_asked = resting.none_asked g disk old kept anew.none world

  none_kept : (slot : ℕ) (now : SlotNow) → slot_now kept slot now ≡ now
  none_kept = resting.none_kept g disk old kept anew.none world

  module _ (was : IsConsistent g (record { core = old; disk = disk; kept = kept })) where
    fits : (slot : ℕ) (phase : Phase) → slice_get old.phases slot ≡ Some phase
        → SlotFits phase (file_at was.bodies slot) slot (g.contents disk) (g.may_leave disk)
    fits = resting.fits g disk old kept anew.none world was

    left : g.may_leave disk (g.contents disk) → DiskLeaves old.phases was.bodies (g.contents disk)
    left = resting.left g disk old kept anew.none world was

    refound : g.may_leave disk (g.contents disk) → (slot : ℕ) (phase : Phase) → slice_get old.phases slot ≡ Some phase → IsRefound phase
    refound as_read = anew.refound (map asked_of kept) was.bodies (g.contents disk) none_asked was.believes

    stands_anew : ((slot : ℕ) (phase : Phase) → slice_get old.phases slot ≡ Some phase → IsRefound phase)
        → SyncedIsFound (g.contents disk) (g.may_leave disk) → new.phases ≡ map found_phase (g.contents disk)
        → (slot : ℕ) (phase : Phase) → slice_get new.phases slot ≡ Some phase
        → Fits (g.contents disk) (g.may_leave disk) slot (slot_now kept slot (slot_as phase (file_at (map (drop 1) (g.contents disk)) slot)))
    stands_anew refounds found phases slot phase is =
        let contents = g.contents disk in
        let at = map_get found_phase contents slot phase (ap (λ all. slice_get all slot) (sym phases) ∙ is) in
        let same_file : file_at contents slot ≡ at.0 = get_or_from_slice_get contents slot at.0 [] at.1 in
        let same_body : file_at (map (drop 1) contents) slot ≡ drop 1 (file_at contents slot) =
        get_or_from_slice_get (map (drop 1) contents) slot (drop 1 at.0) [] (get_map (drop 1) contents slot at.0 at.1) ∙ ap (drop 1) (sym same_file) in
        let within : slot < length old.phases = subst (λ n. slot < n) world.count (slice_get_within contents slot at.0 at.1) in
        let there = slice_get-get_or old.phases slot Raw within in
        let before = slice_index_or old.phases slot Raw in
        let it : SlotFits (found_phase (file_at contents slot)) (drop 1 (file_at contents slot)) slot contents (g.may_leave disk) =
        found before (file_at was.bodies slot) slot (refounds slot before there) (fits slot before there) in
        subst (Fits contents (g.may_leave disk) slot) (sym (none_kept slot (slot_as phase (file_at (map (drop 1) contents) slot))))
        (subst (λ b. SlotFits phase b slot contents (g.may_leave disk)) (sym same_body)
        (subst (λ p. SlotFits p (drop 1 (file_at contents slot)) slot contents (g.may_leave disk)) (ap found_phase same_file ∙ at.2) it))

  pub anew_world : SyncedIsFound (g.contents disk) (g.may_leave disk) → g.may_leave disk (g.contents disk)
      → IsWorld g (record { core = new; disk = disk; kept = kept })
  anew_world found as_read = record {
    count = world.count ∙ sym anew.count;
    outs = anew.outs ∙ world.outs;
    places = world.places;
    consistent = λ honest.
        let was = world.consistent honest in
        let phases = anew.phases (map asked_of kept) was.bodies (g.contents disk) none_asked was.believes (left was as_read) in
        record {
          bodies = map (drop 1) (g.contents disk);
          believes = anew.believes (map asked_of kept) was.bodies (g.contents disk) none_asked was.believes (left was as_read);
          stands = stands_anew was (refound was as_read) found phases;
          told = λ worker made is. absurd (idle worker made.request.id (get_map kept_id kept worker (Outcome made) is));
        };
  }

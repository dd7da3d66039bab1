-- A checkpoint is cancelled.
use Rattle.std.proofs.Common.{◌≡◌, ◌≢◌, ◌⊎◌, ◌↔◌, ℕ, ◌==◌, Bool, true, false, if◌then◌else◌, ◌∷◌, length, Option, Some, None, IfSome, slice_get, refl, sym, ◌∙◌, ap, subst, inl, inr, arith}
use Rattle.std.proofs.lemmas.Bool.Decides.{eqb_tells}
use Rattle.sd_chain.specs.Catalog.{Changes, IsHeld, Opened, Places, place_of}
use Rattle.sd_journal.specs.declared.entry.Entry.TheVariants.{Cancelled}
use Rattle.sd_journal.specs.History.{Base, last, pending, unless_it_is}
use Rattle.sd_journal.specs.Kept.{JournalView}
use Rattle.sd_journal.specs.Legal.{IsAbove, MayFollow}
use Rattle.sd_journal.specs.Marked.{IsTracked, Marked, Told, entries_of}
use Rattle.sd_journal.specs.TrackedLaws.{TrackedLaws}
use Rattle.sd_gate.specs.declared.request_id.RequestId.{RequestId}
use Rattle.sd_merge.specs.Merger as merger
use Rattle.sd_rounds.specs.Dumper.{Dumping, HasSlot, Running, image_serial, out_of_running, serial_of_running, writes_of_running}
use Rattle.sd_rounds.specs.Making.{Making}
use Rattle.sd_rounds.specs.Writes.{no_writes}
use Rattle.sd_crash_safety.specs.Merges.{IsOtherImage, IsSpared, MakesOther}
use Rattle.sd_core.specs.Dumping.{ReleasesPlace}
use Rattle.sd_core.specs.Refusals.{is_page_out}
use Rattle.sd_core.specs.declared.numbers.Numbers.{Numbers}
use Rattle.sd_core.specs.Sound.{AreOuts, AreSoundNumbers, CheckpointsAreCounted, IsCore, IsJournal, MergeRuns, Parts}
use Rattle.sd_core.proofs.MergeLemmas.{merging_stays}
use Rattle.sd_core.proofs.OutsLemmas.{no_writes_of}
use Rattle.sd_core.proofs.SettledLemmas.{settled_more}
use Rattle.sd_core.proofs.WorkLemmas.{at_work}

-- ---- the entry

pub may_cancel : (core : Parts) → IsCore core → (core.dumper.running ≡ None → core.frozen ≡ None → ⊥)
    → MayFollow core.base (entries_of core.journal.items) (Cancelled core.numbers.begun)
may_cancel core sound some = by_frozen core.frozen refl
  where
    by_running : core.frozen ≡ None → (running : Option Running) → core.dumper.running ≡ running → IsAbove core.base (entries_of core.journal.items) core.numbers.begun
    by_running none None is = absurd (some is none)
    by_running none (Some running) is =
        subst (IsAbove core.base (entries_of core.journal.items)) (at_work core running sound is).number ((at_work core running sound is).above none)

    by_frozen : (frozen : Option ℕ) → core.frozen ≡ frozen
        → (pending (entries_of core.journal.items) ≡ Some core.numbers.begun)
        ⊎ ((pending (entries_of core.journal.items) ≡ None) × IsAbove core.base (entries_of core.journal.items) core.numbers.begun)
    by_frozen frozen is = grind arith

none_left : (n : ℕ) (frozen : Option ℕ) → IfSome frozen (λ m. m ≡ n) → None ≡ unless_it_is n frozen
none_left n frozen used = grind arith

pub cancelled_journal : TrackedLaws → (core : Parts) (journal : JournalView) → IsCore core → MayFollow core.base (entries_of core.journal.items) (Cancelled core.numbers.begun)
    → journal.items ≡ Told (Cancelled core.numbers.begun) ∷ core.journal.items → journal.first ≡ core.journal.first → journal.limit ≡ core.journal.limit
    → IsJournal core.base journal core.memory None core.newest
cancelled_journal laws core journal sound may items first limit = record {
  tracked = subst (λ all. IsTracked core.base all core.memory) (sym items)
      (laws.told core.base core.journal.items core.memory (Cancelled core.numbers.begun) sound.journal_is.tracked may refl);
  first = first ∙ sound.journal_is.first;
  limit = limit ∙ sound.journal_is.limit;
  frozen_for = none_left core.numbers.begun core.frozen sound.numbers_are.frozen_used ∙ ap (unless_it_is core.numbers.begun) sound.journal_is.frozen_for
      ∙ ap (λ all. pending (entries_of all)) (sym items);
  newest_is = sound.journal_is.newest_is ∙ ap (λ all. last core.base (entries_of all)) (sym items);
  settled = settled_more core.base core.journal.items journal.items (Told (Cancelled core.numbers.begun)) core.newest items sound.journal_is.settled;
}

pub cancelled_numbers : (base : Base) (items : Marked) (frozen newest : Option ℕ) (numbers : Numbers) → AreSoundNumbers base items frozen newest numbers
    → AreSoundNumbers base (Told (Cancelled numbers.begun) ∷ items) None newest numbers
cancelled_numbers base items frozen newest numbers was = grind arith

-- ---- the catalog has the same images

-- a place that was held is let go of, or nothing changes
pub record IsReleased (old new : Places) (serial : ℕ) : Type 0 where
  pub released : IsHeld old serial → Changes old new serial None
  pub nothing : (IsHeld old serial → ⊥) → new ≡ old

pub same_images : (old new : Places) (serial : ℕ) → IsReleased old new serial → (s : ℕ) (o : Opened)
    → place_of new s ≡ Some (Some o) ↔ place_of old s ≡ Some (Some o)
same_images old new serial r s o = by_place (place_of old serial) refl
  where
    same : new ≡ old → place_of new s ≡ Some (Some o) ↔ place_of old s ≡ Some (Some o)
    same is = ((λ at. ap (λ all. place_of all s) (sym is) ∙ at), (λ at. ap (λ all. place_of all s) is ∙ at))

    same_serial : (serial == s) ≡ true → serial ≡ s
    same_serial is = grind arith

    by_serial : IsHeld old serial → (b : Bool) → (serial == s) ≡ b → place_of new s ≡ (if b then None else place_of old s)
        → place_of new s ≡ Some (Some o) ↔ place_of old s ≡ Some (Some o)
    by_serial held b is now = grind arith

    by_place : (place : Option (Option Opened)) → place_of old serial ≡ place → place_of new s ≡ Some (Some o) ↔ place_of old s ≡ Some (Some o)
    by_place place is = grind arith

-- whichever place was released
pub images_same : (own : Option ℕ) (old new : Places) → ReleasesPlace own old new → (s : ℕ) (o : Opened)
    → place_of new s ≡ Some (Some o) ↔ place_of old s ≡ Some (Some o)
images_same own old new r s o = grind arith

pub counted_released : (numbers : Numbers) (old new : Places) (own : Option ℕ) → ReleasesPlace own old new → CheckpointsAreCounted numbers old → CheckpointsAreCounted numbers new
counted_released numbers old new own r was s o at = was s o ((images_same own old new r s o).0 at)

-- ---- no request of the dumper is out, and no write of a data page

pub written_of : (core : Parts) → IsCore core → is_page_out core.outs ≡ false → writes_of_running core.dumper.running ≡ no_writes
written_of core sound pages = by core.dumper.running refl
  where
    by : (running : Option Running) → core.dumper.running ≡ running → writes_of_running running ≡ no_writes
    by None is = refl
    by (Some running) is =
        let are = sound.outs_are.jobs (at_work core running sound is).stands ∙ ap (λ r. out_of_running r ∷ merger.out_of_merge core.merger ∷ None ∷ writes_of_running r) is in
        let eight = ap length are in
        let many = sound.outs_are.count in
        no_writes_of (writes_of_running (Some running)) (omega (arith, eight, many)) (ap is_page_out (sym are) ∙ pages)

-- so the requests are those of a core without a checkpoint
pub rests_cancelled : (core : Parts) (running : Option Running) → IsCore core → core.opener ≡ None → slice_get core.outs 0 ≡ Some None → is_page_out core.outs ≡ false → running ≡ None
    → AreOuts core.standing core.outs core.phases running core.merger core.opener
rests_cancelled core running sound closed at pages gone = record {
  count = sound.outs_are.count;
  jobs = λ stands.
      let are = sound.outs_are.jobs stands in
      let own = first (out_of_running core.dumper.running) (ap (λ outs. slice_get outs 0) (sym are) ∙ at) in
      let written = written_of core sound pages in
      are ∙ ap (λ o. o ∷ merger.out_of_merge core.merger ∷ None ∷ writes_of_running core.dumper.running) (own ∙ sym (ap out_of_running gone))
      ∙ ap (λ w. out_of_running running ∷ merger.out_of_merge core.merger ∷ None ∷ w) (written ∙ sym (ap writes_of_running gone));
  opening = sound.outs_are.opening;
  none = sound.outs_are.none;
  two = sound.outs_are.two;
  within = sound.outs_are.within;
  whose = sound.outs_are.whose;
  apart = sound.outs_are.apart;
}
  where
    first : (o : Option RequestId) → Some o ≡ Some None → o ≡ None
    first o e = cc

-- a merge beside it goes on
pub merges_on : (core : Parts) (places : Places) (dumper : Dumping) → IsCore core → dumper.running ≡ None
    → ReleasesPlace (serial_of_running core.dumper.running) core.places places
    → IfSome core.merger (MergeRuns core.standing core.phases places core.opener core.numbers core.room dumper.running)
merges_on core places dumper sound gone released = merging_stays core core.phases places core.numbers dumper.running sound (record {
  count = refl;
  given = omega arith;
  checkpoint = omega arith;
  serials = λ merge is due few. few;
  has = λ slot has. absurd (subst (λ r. HasSlot r slot) gone has);
  fills = λ slot spared. subst (λ r. IsSpared r slot) (sym gone) tt;
  other = λ serial given other. subst (λ r. MakesOther r serial) (sym gone) tt;
  held = λ serial given other held. still_held core.dumper.running serial other released held;
  images = λ serial o there spared. still_open (serial_of_running core.dumper.running) serial o released there;
})
  where
    not_same : (a b : ℕ) → a ≢ b → (a == b) ≡ false
    not_same a b differs = elim (eqb_tells a b) [
      | inl one ↦ absurd (differs one.1)
      | inr other ↦ other.0
    ]

    held_on : (serial own : ℕ) (old new : Places) → own ≢ serial → IsReleased old new own → IsHeld old serial → IsHeld new serial
    held_on serial own old new differs r held = by_place (place_of old own) refl
      where
        same : new ≡ old → IsHeld new serial
        same is = ap (λ all. place_of all serial) is ∙ held

        by_place : (place : Option (Option Opened)) → place_of old own ≡ place → IsHeld new serial
        by_place place is = grind arith

    still_held : (running : Option Running) (serial : ℕ) → MakesOther running serial → ReleasesPlace (serial_of_running running) core.places places → IsHeld core.places serial → IsHeld places serial
    still_held None serial other r held = ap (λ all. place_of all serial) r ∙ held
    still_held (Some running) serial other r held = by_image running.image other r
      where
        by_image : (image : Option Making) → IsOtherImage image serial → ReleasesPlace (image_serial image) core.places places → IsHeld places serial
        by_image None other r = ap (λ all. place_of all serial) r ∙ held
        by_image (Some image) other r = held_on serial image.order.serial core.places places other (record { released = r.0; nothing = r.1 }) held

    still_open : (own : Option ℕ) (serial : ℕ) (o : Opened) → ReleasesPlace own core.places places → place_of core.places serial ≡ Some (Some o) → place_of places serial ≡ Some (Some o)
    still_open own serial o r there = grind arith

-- The marks of an image, and the freeze, in the journal.
use Rattle.std.proofs.Common.{◌≡◌, ℕ, ◌+◌, ◌≤◌, ◌==◌, ◌&&◌, Bool, true, false, if◌then◌else◌, ◌∷◌, Option, Some, None, IfSome, refl, sym, ◌∙◌, ap, subst, arith}
use Rattle.std.proofs.lemmas.Bool.{eq-eqb}
use Rattle.sd_chain.specs.Catalog.{Changes, IsHeld, Places, place_of}
use Rattle.sd_gate.specs.Requests.{Asked}
use Rattle.sd_image.specs.declared.header.Kind.TheVariants.{Dump}
use Rattle.sd_image.specs.Words.{kind_number}
use Rattle.sd_journal.specs.declared.entry.Entry.TheVariants.{Freeze}
use Rattle.sd_journal.specs.declared.mark.Mark.TheVariants.{Start, Table, Visit}
use Rattle.sd_journal.specs.History.{Base, last, pending}
use Rattle.sd_journal.specs.Kept.{JournalView}
use Rattle.sd_journal.specs.Legal.{MayFollow}
use Rattle.sd_journal.specs.Marked.{IsTracked, Marked, Noted, Told, entries_of}
use Rattle.sd_journal.specs.TrackedLaws.{TrackedLaws}
use Rattle.sd_pagetable.specs.Contents.{Contents}
use Rattle.sd_pagetable.specs.Order.{IsNextPage}
use Rattle.sd_rounds.specs.declared.stage.Stage.TheVariants.{Pass as PassStage}
use Rattle.sd_rounds.specs.declared.visit.Visit.{Visit as PageVisit}
use Rattle.sd_rounds.specs.Dumper.{Running, is_frozen_image, next_slot, slot_before, slot_of}
use Rattle.sd_rounds.specs.Making.{IsReadyFor, MakerFreezes, Making, Visits, WritesTable, is_frozen_dump, is_past_freeze}
use Rattle.sd_rounds.specs.Sound.{HasSoundImage, IsSoundImage, IsSoundMaking}
use Rattle.sd_core.specs.declared.numbers.Numbers.{Numbers}
use Rattle.sd_core.specs.Sound.{AreSoundNumbers, CheckpointsAreCounted, IsCore, IsJournal, IsVisiting, IsVisitingIn, Parts, frozen_by}
use Rattle.sd_core.proofs.SettledLemmas.{settled_more}
use Rattle.sd_core.proofs.WorkLemmas.{at_work, image_of_work, noted_journal, numbers_noted}

-- ---- an image's last visit, and its table

cursor_of : (items : Marked) (image : Making) → image.stage ≡ PassStage → IsVisitingIn items image.order.serial image.pass image.stage
    → IsVisiting items image.order.serial image.pass
cursor_of items image stage is = subst (λ s. IsVisitingIn items image.order.serial image.pass s) stage is

pub table_journal : TrackedLaws → (core : Parts) (running : Running) (image next : Making) (request : Asked) (journal : JournalView) → IsCore core
    → core.dumper.running ≡ Some running → running.image ≡ Some image → WritesTable image core.memory request next
    → journal.items ≡ Noted (Table image.order.serial) ∷ core.journal.items → journal.first ≡ core.journal.first → journal.limit ≡ core.journal.limit
    → IsJournal core.base journal core.memory core.frozen core.newest
table_journal laws core running image next request journal sound was making writes items first limit =
    noted_journal core.base core.journal journal core.memory core.memory core.frozen core.newest (Table image.order.serial) items first limit
    (laws.tabled core.base core.journal.items core.memory image.order.serial sound.journal_is.tracked cursor.started
    (subst (λ at. IsNextPage core.memory.spaces at None) (sym cursor.cursor) writes.over)) sound.journal_is
  where
    cursor : IsVisiting core.journal.items image.order.serial image.pass
    cursor = cursor_of core.journal.items image writes.stage (image_of_work core running image sound was making).visiting_in

pub visit_journal : TrackedLaws → (core : Parts) (running : Running) (image next : Making) (visit : PageVisit) (after : Contents) (journal : JournalView) → IsCore core
    → core.dumper.running ≡ Some running → running.image ≡ Some image → Visits image core.memory visit next after
    → journal.items ≡ Noted (Visit image.order.serial visit.space visit.page) ∷ core.journal.items → journal.first ≡ core.journal.first
    → journal.limit ≡ core.journal.limit → IsJournal core.base journal after core.frozen core.newest
visit_journal laws core running image next visit after journal sound was making visits items first limit =
    noted_journal core.base core.journal journal core.memory after core.frozen core.newest (Visit image.order.serial visit.space visit.page) items first limit
    (laws.visited core.base core.journal.items core.memory after image.order.serial visit.space visit.page sound.journal_is.tracked cursor.started
    (subst (λ at. IsNextPage core.memory.spaces at (Some (visit.space, visit.page))) (sym cursor.cursor) visits.tests.next) visits.tests.cleared) sound.journal_is
  where
    cursor : IsVisiting core.journal.items image.order.serial image.pass
    cursor = cursor_of core.journal.items image visits.passes.0 (image_of_work core running image sound was making).visiting_in

-- ---- the freeze

-- an image that waits for the freeze is a dump, and none is pending
pub record IsBeforeFreeze (core : Parts) (running : Running) (image : Making) : Type 0 where
  pub kind : image.order.kind ≡ Dump
  pub none : core.frozen ≡ None

pub before_freeze : (core : Parts) (running : Running) (image next : Making) → IsCore core → core.dumper.running ≡ Some running → running.image ≡ Some image
    → HasSoundImage core.dumper.running → MakerFreezes image next → IsBeforeFreeze core running image
before_freeze core running image next sound was making images f = record { kind = dump; none = (at_work core running sound was).pends ∙ none }
  where
    own : IsSoundImage image
    own = subst IsSoundMaking making (subst HasSoundImage was images)

    dump : image.order.kind ≡ Dump
    dump = (subst (λ s. IsReadyFor image.order image.pass s) f.stage own.ready).1

    still : is_frozen_dump image ≡ false
    still = ap (λ s. (kind_number image.order.kind == 2) && is_past_freeze s) f.stage ∙ ap (λ k. (kind_number k == 2) && false) dump

    none : frozen_by running ≡ None
    none = ap (λ i. if is_frozen_image i then Some running.number else None) making ∙ ap (λ b. if b then Some running.number else None) still

pub frozen_next : (image next : Making) → image.order.kind ≡ Dump → MakerFreezes image next → is_frozen_dump next ≡ true
frozen_next image next dump f = ap is_frozen_dump f.is ∙ ap (λ k. (kind_number k == 2) && true) dump

-- the freeze may come
pub may_freeze : (core : Parts) (running : Running) → IsCore core → core.dumper.running ≡ Some running → core.frozen ≡ None
    → MayFollow core.base (entries_of core.journal.items) (Freeze core.numbers.begun)
may_freeze core running sound was none = grind arith

pub freeze_journal : TrackedLaws → (core : Parts) (running : Running) (journal : JournalView) → IsCore core → core.dumper.running ≡ Some running → core.frozen ≡ None
    → journal.items ≡ Told (Freeze core.numbers.begun) ∷ core.journal.items → journal.first ≡ core.journal.first → journal.limit ≡ core.journal.limit
    → IsJournal core.base journal core.memory (Some core.numbers.begun) core.newest
freeze_journal laws core running journal sound was none items first limit = record {
  tracked = subst (λ all. IsTracked core.base all core.memory) (sym items)
      (laws.told core.base core.journal.items core.memory (Freeze core.numbers.begun) sound.journal_is.tracked (may_freeze core running sound was none) refl);
  first = first ∙ sound.journal_is.first;
  limit = limit ∙ sound.journal_is.limit;
  frozen_for = ap (λ all. pending (entries_of all)) (sym items);
  newest_is = sound.journal_is.newest_is ∙ ap (λ all. last core.base (entries_of all)) (sym items);
  settled = settled_more core.base core.journal.items journal.items (Told (Freeze core.numbers.begun)) core.newest items sound.journal_is.settled;
}

pub freeze_numbers : (base : Base) (items : Marked) (newest : Option ℕ) (numbers : Numbers) → AreSoundNumbers base items None newest numbers
    → AreSoundNumbers base (Told (Freeze numbers.begun) ∷ items) (Some numbers.begun) newest numbers
freeze_numbers base items newest numbers was = grind arith

-- ---- what is so of the image

pub sound_image : (all : Option Running) (running : Running) (image : Making) → HasSoundImage all → all ≡ Some running → running.image ≡ Some image → IsSoundImage image
sound_image all running image sound was making = subst IsSoundMaking making (subst HasSoundImage was sound)

-- ---- an image that begins

pub start_numbers : (base : Base) (items : Marked) (frozen newest : Option ℕ) (old new : Numbers) → new.begun ≡ old.begun → new.checkpoint ≡ old.checkpoint
    → new.given ≡ old.serial + 1 → new.serial ≡ old.serial + 1 → AreSoundNumbers base items frozen newest old
    → AreSoundNumbers base (Noted (Start (old.serial + 1)) ∷ items) frozen newest new
start_numbers base items frozen newest old new begun checkpoint given serial was =
    let below = was.serials in
    let checkpoints = was.checkpoints in
    numbers_noted base items frozen newest new (Start (old.serial + 1)) (omega (arith, given)) (record {
      used = λ n above. was.used n (omega (arith, above, begun));
      newest_used = subst (λ b. IfSome newest (λ n. n ≤ b)) (sym begun) was.newest_used;
      frozen_used = subst (λ b. IfSome frozen (λ n. n ≡ b)) (sym begun) was.frozen_used;
      marks = λ s above. was.marks s (omega (arith, above, given, below));
      checkpoints = omega (arith, begun, checkpoint, checkpoints);
      serials = omega (arith, given, serial);
    })

-- the image that the next step begins
pub record IsNext (all : Option Running) (slot : ℕ) : Type 0 where
  pub running : Running
  pub was : all ≡ Some running
  pub none : running.image ≡ None
  pub slot_is : slot_of running ≡ slot

pub next_is : (all : Option Running) (slot : ℕ) → next_slot all ≡ Some slot → IsNext all slot
next_is None slot is = absurd (let no : None ≡ Some slot = is in cc)
next_is (Some running) slot is = go running.image refl is
  where
    first : Some (slot_of running) ≡ Some slot → slot_of running ≡ slot
    first e = cc

    go : (image : Option Making) → running.image ≡ image → slot_before running image ≡ Some slot → IsNext (Some running) slot
    go image none e = grind arith

-- its place in the catalog
pub held_place : (old new : Places) (serial : ℕ) → Changes old new serial (Some None) → IsHeld new serial
held_place old new serial changes = changes serial ∙ ap (λ b. if b then Some None else place_of old serial) (eq-eqb serial serial refl)

pub counted_held : (numbers : Numbers) (old new : Places) (serial : ℕ) → Changes old new serial (Some None) → CheckpointsAreCounted numbers old → CheckpointsAreCounted numbers new
counted_held numbers old new serial changes was s o at = go (serial == s) refl (sym (changes s) ∙ at)
  where
    go : (b : Bool) → (serial == s) ≡ b → (if b then Some None else place_of old s) ≡ Some (Some o) → o.header.checkpoint ≤ numbers.checkpoint
    go true is e = absurd (let no : Some None ≡ Some (Some o) = e in cc)
    go false is e = was s o e

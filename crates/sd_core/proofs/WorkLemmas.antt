-- A core while its dumper works.
use Rattle.std.proofs.Common.{◌≡◌, ◌≢◌, ◌⊎◌, ℕ, ◌+◌, ◌<◌, ◌≤◌, ◌^◌, ◌==◌, ◌||◌, Bool, true, false, if◌then◌else◌, List, ◌∷◌, length, Option, Some, None, IfSome, slice_get, refl, sym, ◌∙◌, ap, subst, inl, inr, arith}
use Rattle.std.specs.List.{list_any}
use Rattle.std.proofs.lemmas.Bool.Decides.{eqb_tells}
use Rattle.std.proofs.lemmas.Option.{same_Some}
use Rattle.sd_chain.specs.Catalog.{Changes, IsHeld, Opened, Places, place_of}
use Rattle.sd_gate.specs.declared.phase.Phase.{Phase}
use Rattle.sd_gate.specs.declared.request_id.RequestId.{RequestId}
use Rattle.sd_gate.specs.declared.worker.Worker.TheVariants.{Dumper, Merger}
use Rattle.sd_command.specs.declared.command.Command.{Command}
use Rattle.sd_command.specs.declared.reply.Reply.{Reply}
use Rattle.sd_journal.specs.declared.entry.Entry.TheVariants.{Applied}
use Rattle.sd_journal.specs.declared.mark.Mark.{Mark}
use Rattle.sd_journal.specs.History.{Base, last, pending}
use Rattle.sd_journal.specs.Kept.{HasGrown, JournalView}
use Rattle.sd_journal.specs.Legal.{IsAbove}
use Rattle.sd_journal.specs.Marked.{IsTracked, Marked, Noted, Told, entries_of, is_of, mark_serial}
use Rattle.sd_merge.specs.Merger as merger
use Rattle.sd_opener.specs.Looking.{Looking}
use Rattle.sd_pagetable.specs.Contents.{Contents}
use Rattle.sd_rounds.specs.declared.stage.Stage.{Stage}
use Rattle.sd_rounds.specs.Dumper.{AreRunning, Dumping, HasSlot, IsItsImage, Running, order_of, out_of_image, out_of_running, serial_of_running, slot_of, writes_of_image, writes_of_running}
use Rattle.sd_rounds.specs.Making.{Making, is_frozen_dump, out_of}
use Rattle.sd_writing.specs.Entries.{data_pages}
use Rattle.sd_rounds.specs.Sound.{IsSoundImage}
use Rattle.sd_rounds.specs.Writes.{AreWrites, no_writes}
use Rattle.sd_crash_safety.specs.Calls.{IsFree}
use Rattle.sd_crash_safety.specs.declared.standing.Standing.{Standing}
use Rattle.sd_crash_safety.specs.declared.standing.Standing.TheVariants.{Open}
use Rattle.sd_crash_safety.specs.Merges.{IsOtherImage, IsSpared, MakesOther}
use Rattle.sd_core.specs.Flags.{ticket_after}
use Rattle.sd_core.specs.Grown.{AreFlags, IsGated}
use Rattle.sd_core.specs.declared.numbers.Numbers.{Numbers}
use Rattle.sd_core.specs.Visited.{HasVisitedAll}
use Rattle.sd_core.proofs.MergeLemmas.{asks_apart, fills_same, merging_stays}
use Rattle.sd_core.proofs.OutsLemmas.{dumper_outs, lane_at, no_write, on_slot, open_outs}
use Rattle.sd_core.proofs.PreDumpLemmas.{TheyStay, pre_dumps_stay}
use Rattle.sd_core.proofs.SettledLemmas.{settled_more}
use Rattle.sd_core.specs.Images.{begun_as}
use Rattle.sd_core.specs.LittleWork.{HasLittle, TakesLittle}
use Rattle.sd_core.specs.Sound.{AreOuts, AreSoundNumbers, CheckpointRuns, CheckpointsAreCounted, HasWrites, IsCore, IsImageInMaking, IsJournal, IsVisiting, IsVisitingIn, MergeRuns, Parts, begun_images, serials_to_come, frozen_by, held_for}

-- ---- where none runs

none_runs : {P : Running → Type 0} (running : Option Running) → IfSome running P → ((r : Running) → P r → ⊥) → running ≡ None
none_runs running work none = grind arith

-- no checkpoint runs while the store isn't open
pub none_closed : (core : Parts) → IsCore core → core.standing ≢ Open → core.dumper.running ≡ None
none_closed core sound closed = none_runs core.dumper.running sound.work (λ running work. closed work.stands)

pub none_works : (P : Running → Type 0) (running : Option Running) → running ≡ None → IfSome running P
none_works P running none = subst (λ r. IfSome r P) (sym none) tt

-- ---- where one does

pub at_work : (core : Parts) (running : Running) → IsCore core → core.dumper.running ≡ Some running
    → CheckpointRuns core.base core.journal.items core.frozen core.standing core.phases core.places core.merger core.opener core.numbers running
at_work core running sound is =
    subst (λ r. IfSome r (CheckpointRuns core.base core.journal.items core.frozen core.standing core.phases core.places core.merger core.opener core.numbers)) is sound.work

-- what is out of the dumper
pub out_at_work : (core : Parts) (running : Running) (out : Option RequestId) → IsCore core → core.dumper.running ≡ Some running → slice_get core.outs 0 ≡ Some out
    → (out_of_running (Some running) ≡ out) × (core.outs ≡ out ∷ merger.out_of_merge core.merger ∷ None ∷ writes_of_running (Some running))
out_at_work core running out sound is at = (own, all)
  where
    first : Some (out_of_running (Some running)) ≡ Some out → out_of_running (Some running) ≡ out
    first e = cc

    are : core.outs ≡ out_of_running (Some running) ∷ merger.out_of_merge core.merger ∷ None ∷ writes_of_running (Some running)
    are = sound.outs_are.jobs (at_work core running sound is).stands ∙ ap (λ r. out_of_running r ∷ merger.out_of_merge core.merger ∷ None ∷ writes_of_running r) is

    own : out_of_running (Some running) ≡ out
    own = first (ap (λ outs. slice_get outs 0) (sym are) ∙ at)

    all : core.outs ≡ out ∷ merger.out_of_merge core.merger ∷ None ∷ writes_of_running (Some running)
    all = are ∙ ap (λ o. o ∷ merger.out_of_merge core.merger ∷ None ∷ writes_of_running (Some running)) own

-- a core whose dumper works
pub record IsWorking (core : Parts) (running : Running) : Type 0 where
  pub journal_is : IsJournal core.base core.journal core.memory core.frozen core.newest
  pub held : core.journal.held ≡ held_for core.frozen (Some running) None
  pub outs_are : AreOuts core.standing core.outs core.phases (Some running) core.merger None
  pub numbers_are : AreSoundNumbers core.base core.journal.items core.frozen core.newest core.numbers
  pub counted : CheckpointsAreCounted core.numbers core.places
  pub work : CheckpointRuns core.base core.journal.items core.frozen core.standing core.phases core.places core.merger core.opener core.numbers running
  pub little : HasLittle core.base core.journal.items core.memory running
  pub merging : IfSome core.merger (MergeRuns core.standing core.phases core.places core.opener core.numbers core.room (Some running))
  pub visited_is : HasVisitedAll core.swept core.frozen core.memory
  pub flags_are : AreFlags core.base core.journal.items core.swept core.grows core.committing
  pub gated : IsGated core.swept running

pub core_working : (core : Parts) (running : Running) → core.dumper.running ≡ Some running → IsWorking core running → IsCore core
core_working core running is w = grind arith

-- ---- numbers

pub record SameNumbers (old new : Numbers) : Type 0 where
  pub begun : new.begun ≡ old.begun
  pub given : new.given ≡ old.given
  pub checkpoint : new.checkpoint ≡ old.checkpoint
  pub serial : new.serial ≡ old.serial

-- the next ticket was given out
pub record Ticks (old new : Numbers) : Type 0 where
  pub begun : new.begun ≡ old.begun
  pub given : new.given ≡ old.given
  pub checkpoint : new.checkpoint ≡ old.checkpoint
  pub serial : new.serial ≡ old.serial
  pub ticket : new.ticket ≡ ticket_after old.ticket

pub ticked : (old new : Numbers) → new ≡ record old { ticket = ticket_after old.ticket } → Ticks old new
ticked old new is = subst (Ticks old) (sym is) (record { begun = refl; given = refl; checkpoint = refl; serial = refl; ticket = refl })

pub same_numbers : (numbers : Numbers) → SameNumbers numbers numbers
same_numbers numbers = record { begun = refl; given = refl; checkpoint = refl; serial = refl }

pub numbers_same : (base : Base) (items : Marked) (frozen newest : Option ℕ) (old new : Numbers) → SameNumbers old new → AreSoundNumbers base items frozen newest old
    → AreSoundNumbers base items frozen newest new
numbers_same base items frozen newest old new same was =
    let begun = same.begun in
    let given = same.given in
    let checkpoint = same.checkpoint in
    let serial = same.serial in
    let checkpoints = was.checkpoints in
    let serials = was.serials in
    record {
      used = λ n below. was.used n (omega (arith, below, begun));
      newest_used = subst (λ b. IfSome newest (λ n. n ≤ b)) (sym begun) was.newest_used;
      frozen_used = subst (λ b. IfSome frozen (λ n. n ≡ b)) (sym begun) was.frozen_used;
      marks = λ s above. was.marks s (omega (arith, above, given));
      checkpoints = omega (arith, begun, checkpoint, checkpoints);
      serials = omega (arith, given, serial, serials);
    }

pub counted_same : (places : Places) (old new : Numbers) → SameNumbers old new → CheckpointsAreCounted old places → CheckpointsAreCounted new places
counted_same places old new same was serial o at = grind arith

below-eqb : (a b : ℕ) → a < b → (a == b) ≡ false
below-eqb a b below = grind arith

-- a mark with a serial that was given out
pub numbers_noted : (base : Base) (items : Marked) (frozen newest : Option ℕ) (numbers : Numbers) (mark : Mark) → mark_serial mark ≤ numbers.given
    → AreSoundNumbers base items frozen newest numbers → AreSoundNumbers base (Noted mark ∷ items) frozen newest numbers
numbers_noted base items frozen newest numbers mark given was = record {
  used = was.used;
  newest_used = was.newest_used;
  frozen_used = was.frozen_used;
  marks = λ s above. ap (λ b. b || list_any (is_of s) items) (below-eqb (mark_serial mark) s (omega (arith, above, given))) ∙ was.marks s above;
  checkpoints = was.checkpoints;
  serials = was.serials;
}

-- ---- the journal with a mark more

pub noted_journal : (base : Base) (old new : JournalView) (before after : Contents) (frozen newest : Option ℕ) (mark : Mark) → new.items ≡ Noted mark ∷ old.items
    → new.first ≡ old.first → new.limit ≡ old.limit → IsTracked base (Noted mark ∷ old.items) after → IsJournal base old before frozen newest
    → IsJournal base new after frozen newest
noted_journal base old new before after frozen newest mark items first limit tracked was = record {
  tracked = subst (λ all. IsTracked base all after) (sym items) tracked;
  first = first ∙ was.first;
  limit = limit ∙ was.limit;
  frozen_for = was.frozen_for ∙ ap (λ all. pending (entries_of all)) (sym items);
  newest_is = was.newest_is ∙ ap (λ all. last base (entries_of all)) (sym items);
  settled = settled_more base old.items new.items (Noted mark) newest items was.settled;
}

-- ---- the image in the making turns to another stage

-- the places that are held stay so, and so do images in slots that the checkpoint hasn't
pub record KeepsPlaces (running : Running) (old new : Places) : Type 0 where
  pub held : (serial : ℕ) → IsHeld old serial → IsHeld new serial
  pub images : (serial : ℕ) (o : Opened) → place_of old serial ≡ Some (Some o) → (HasSlot (Some running) o.slot → ⊥) → place_of new serial ≡ Some (Some o)

pub same_places : (running : Running) (places : Places) → KeepsPlaces running places places
same_places running places = record { held = λ serial is. is; images = λ serial o there spared. there }

-- what a step or an outcome with which it turns leaves
pub record Turns (core : Parts) (journal : JournalView) (memory : Contents) (phases : List Phase)
    (outs : List (Option RequestId)) (places : Places) (dumper : Dumping) (numbers : Numbers) (committing swept : Bool)
    (running : Running) (image next : Making) : Type 0 where
  pub was : core.dumper.running ≡ Some running
  pub making : running.image ≡ Some image
  pub is : dumper.running ≡ Some (record running { image = Some next })
  pub serial : next.order.serial ≡ image.order.serial
  pub places_stay : KeepsPlaces running core.places places
  pub count : length phases ≡ length core.phases
  pub same : SameNumbers core.numbers numbers
  pub entries : entries_of journal.items ≡ entries_of core.journal.items
  pub held : journal.held ≡ core.journal.held
  pub journal_is : IsJournal core.base journal memory core.frozen core.newest
  pub numbers_are : AreSoundNumbers core.base journal.items core.frozen core.newest numbers
  pub counted : CheckpointsAreCounted numbers places
  pub outs_are : outs ≡ out_of next.stage ∷ merger.out_of_merge core.merger ∷ None ∷ next.writes
  pub stay : TheyStay (begun_as running) core.places places running.opened
  pub asked : IfSome (out_of next.stage) (λ id. id.slot ≡ slot_of running)
  pub whose : IfSome (out_of next.stage) (λ id. id.worker ≡ Dumper)
  pub writes : HasWrites running (Some next)
  pub image_is : IsImageInMaking journal.items places numbers next
  pub still : is_frozen_dump next ≡ is_frozen_dump image
  pub little : TakesLittle core.base journal.items memory running.number next
  pub visited_is : HasVisitedAll swept core.frozen memory
  pub flags_are : AreFlags core.base journal.items swept core.grows committing
  pub gated : IsGated swept (record running { image = Some next })

-- ---- requests that are out while the store is open

-- the merger's request that is out is on a slot of the store
pub merger_out : (core : Parts) (id : RequestId) → IsCore core → core.standing ≡ Open → merger.out_of_merge core.merger ≡ Some id → (id.slot < length core.phases) × (id.worker ≡ Merger)
merger_out core id sound stands out =
    let at = ap (λ all. slice_get all 1) (sound.outs_are.jobs stands) ∙ ap Some out in
    (sound.outs_are.within 1 id at, sound.outs_are.whose 1 id at)

pub held_same : (frozen : Option ℕ) (one other : Running) (opener : Option Looking) → held_for frozen (Some one) opener ≡ held_for frozen (Some other) opener
held_same frozen one other opener = grind arith

pub held_at_work : (core : Parts) (running : Running) → IsCore core → core.dumper.running ≡ Some running → core.journal.held ≡ held_for core.frozen (Some running) None
held_at_work core running sound is = sound.held ∙ ap (λ r. held_for core.frozen r core.opener) is ∙ ap (held_for core.frozen (Some running)) (at_work core running sound is).closed

-- whether an image is the frozen memory's says what is pending
pub pends_so : (running : Running) (image next : Making) → running.image ≡ Some image → is_frozen_dump next ≡ is_frozen_dump image
    → frozen_by (record running { image = Some next }) ≡ frozen_by running
pends_so running image next making still =
    ap (λ b. if b then Some running.number else None) still ∙ ap (λ i. frozen_by (record running { image = i })) (sym making)

-- a merge goes on while the image turns
pub merging_turned : (core : Parts) (phases : List Phase) (places : Places) (numbers : Numbers) (running : Running) (image next : Making) → IsCore core → core.dumper.running ≡ Some running
    → running.image ≡ Some image → next.order.serial ≡ image.order.serial → KeepsPlaces running core.places places → length phases ≡ length core.phases → SameNumbers core.numbers numbers
    → IfSome core.merger (MergeRuns core.standing phases places core.opener numbers core.room (Some (record running { image = Some next })))
merging_turned core phases places numbers running image next sound was making serial stay count same = merging_stays core phases places numbers (Some (record running { image = Some next })) sound (record {
  count = count;
  given = (let given = same.given in omega (arith, given));
  checkpoint = (let checkpoint = same.checkpoint in omega (arith, checkpoint));
  serials = λ merge is due few. (let now = same.serial in omega (arith, now, few));
  has = λ slot has. subst (λ r. HasSlot r slot) (sym was) has;
  fills = λ slot spared. fills_same running (Some next) slot (subst (λ r. IsSpared r slot) was spared);
  other = λ s given other its. subst (λ i. IsOtherImage i s) making (subst (λ r. MakesOther r s) was other) (sym serial ∙ its);
  held = λ s given other held. stay.held s held;
  images = λ s o there spared. stay.images s o there (λ has. spared (subst (λ r. HasSlot r o.slot) (sym was) has));
})

pub turned : {core : Parts} {journal : JournalView} {memory : Contents} {phases : List Phase} {outs : List (Option RequestId)} {places : Places} {dumper : Dumping} {numbers : Numbers}
    {committing swept : Bool} (running : Running) (image next : Making) → IsCore core → Turns core journal memory phases outs places dumper numbers committing swept running image next
    → IsWorking (record core { journal = journal; memory = memory; phases = phases; outs = outs; places = places; dumper = dumper; numbers = numbers; committing = committing; swept = swept })
    (record running { image = Some next })
turned {core} {journal} {memory} {phases} {outs} {places} {dumper} {numbers} {committing} {swept} running image next sound t =
    let w = at_work core running sound t.was in
    let serial = t.same.serial in
    let serials : core.numbers.serial + serials_to_come core.merger ≤ 2 ^ 63 + (running.opened + 1) = subst (λ i. core.numbers.serial + serials_to_come core.merger ≤ 2 ^ 63 + begun_images running i) t.making w.serials in
    record {
      journal_is = t.journal_is;
      held = t.held ∙ held_at_work core running sound t.was ∙ held_same core.frozen running (record running { image = Some next }) None;
      outs_are = subst (λ st. AreOuts st outs phases (Some (record running { image = Some next })) core.merger None) (sym w.stands)
          (open_outs outs phases (Some (record running { image = Some next })) core.merger t.outs_are
          (dumper_outs phases (record running { image = Some next })
          (subst (λ k. slot_of running < k) (sym t.count) (w.within (slot_of running) (record { place = running.opened; from = omega arith; is = refl }))) t.asked t.whose t.writes)
          (λ id out. (let its = merger_out core id sound w.stands out in (subst (λ n. id.slot < n) (sym t.count) its.0, its.1)))
          (λ id other one two. asks_apart core running id other sound t.was (on_slot (record running { image = Some next }) id t.asked t.writes one) two));
      numbers_are = t.numbers_are;
      counted = t.counted;
      work = record {
        stands = w.stands;
        closed = w.closed;
        pends = w.pends ∙ sym (pends_so running image next t.making t.still);
        above = λ none. subst (λ all. IsAbove core.base all running.number) (sym t.entries) (w.above none);
        some = w.some;
        number = w.number ∙ sym t.same.begun;
        few = w.few;
        serials = omega (arith, serial, serials);
        within = λ slot reserved. subst (λ k. slot < k) (sym t.count) (w.within slot (record { place = reserved.place; from = reserved.from; is = reserved.is }));
        apart = w.apart;
        pre_dumps = pre_dumps_stay (begun_as running) core.places places running.opened running.parent t.stay w.pre_dumps;
        asked = t.asked;
        whose = t.whose;
        writes = t.writes;
        image = t.image_is;
      };
      little = t.little;
      visited_is = t.visited_is;
      flags_are = t.flags_are;
      gated = t.gated;
      merging = merging_turned core phases places numbers running image next sound t.was t.making t.serial t.places_stay t.count t.same;
    }

-- ---- more room in the journal

pub grown_core : (core : Parts) (journal : JournalView) → IsCore core → HasGrown core.journal journal → IsCore (record core { journal = journal })
grown_core core journal sound grown = grind arith

-- ---- the image in the making

pub image_of_work : (core : Parts) (running : Running) (image : Making) → IsCore core → core.dumper.running ≡ Some running → running.image ≡ Some image
    → IsImageInMaking core.journal.items core.places core.numbers image
image_of_work core running image sound was making =
    subst (λ i. IfSome i (IsImageInMaking core.journal.items core.places core.numbers)) making (at_work core running sound was).image

pub own_order : (since : ℕ) (all : Option Running) (running : Running) (image : Making) → AreRunning since all → all ≡ Some running → running.image ≡ Some image
    → image.order ≡ order_of running image.order.serial image.order.state
own_order since all running image are was making = subst (IsItsImage running) making (subst (AreRunning since) was are).own

pub own_slot : (since : ℕ) (all : Option Running) (running : Running) (image : Making) → AreRunning since all → all ≡ Some running → running.image ≡ Some image
    → image.order.slot ≡ slot_of running
own_slot since all running image are was making = ap (λ o. o.slot) (own_order since all running image are was making)

-- the writes that are out are on the slot of its image
pub sound_writes : (running : Running) (image : Making) → image.order.slot ≡ slot_of running → IsSoundImage image → HasWrites running (Some image)
sound_writes running image own sound = (subst (λ slot. AreWrites slot (data_pages image.pass.entries) image.writes) own sound.lanes, sound.rests)

-- the request that is out then is on the slot of the checkpoint's image
pub asked_on : (running : Running) (image next : Making) (out : Option RequestId) → out_of next.stage ≡ out → IfSome out (λ id. id.slot ≡ image.order.slot)
    → image.order.slot ≡ slot_of running → IfSome (out_of next.stage) (λ id. id.slot ≡ slot_of running)
asked_on running image next out is on own = subst (λ o. IfSome o (λ id. id.slot ≡ slot_of running)) (sym is) (subst (λ s. IfSome out (λ id. id.slot ≡ s)) own on)

pub slot_within : (core : Parts) (running : Running) → IsCore core → core.dumper.running ≡ Some running → slot_of running < length core.phases
slot_within core running sound was =
    (at_work core running sound was).within (slot_of running) (record { place = running.opened; from = omega arith; is = refl })

-- the serial that the dumper says is the image's
pub its_serial : (running : Option Running) (now : Running) (image : Making) (told : Option ℕ) (serial : ℕ) → running ≡ Some (record now { image = Some image }) → told ≡ serial_of_running running
    → told ≡ Some serial → serial ≡ image.order.serial
its_serial running now image told serial is tells some = same_Some serial image.order.serial (sym some ∙ tells ∙ ap serial_of_running is)

-- its slot is one of the store's
pub image_within : (core : Parts) (since : ℕ) (running : Running) (image : Making) → IsCore core → AreRunning since core.dumper.running → core.dumper.running ≡ Some running
    → running.image ≡ Some image → image.order.slot < length core.phases
image_within core since running image sound are was making =
    subst (λ slot. slot < length core.phases) (sym (ap (λ o. o.slot) (own_order since core.dumper.running running image are was making))) (slot_within core running sound was)

-- between two images nothing of the dumper is out
pub rests_before : (core : Parts) (running : Running) → IsCore core → core.dumper.running ≡ Some running → running.image ≡ None → core.outs ≡ None ∷ merger.out_of_merge core.merger ∷ None ∷ no_writes
rests_before core running sound was none = sound.outs_are.jobs (at_work core running sound was).stands ∙ ap (λ r. out_of_running r ∷ merger.out_of_merge core.merger ∷ None ∷ writes_of_running r) was
    ∙ ap (λ i. out_of_image i ∷ merger.out_of_merge core.merger ∷ None ∷ writes_of_image i) none

-- no request is out on the slot of the checkpoint's image
pub free_beside : (core : Parts) (running : Running) (slot : ℕ) → IsCore core → core.dumper.running ≡ Some running → core.outs ≡ None ∷ merger.out_of_merge core.merger ∷ None ∷ no_writes
    → slot ≡ slot_of running → IsFree core.outs slot
free_beside core running slot sound was outs own worker id at same =
    elim (lane_at None (merger.out_of_merge core.merger) no_writes worker id (ap (λ all. slice_get all worker) (sym outs) ∙ at)) [
      | inl a ↦ (let no : None ≡ Some id = a.1 in cc)
      | inr rest ↦ elim rest [
        | inl b ↦ by core.merger sound.merging b.1
        | inr page ↦ no_write page.0 id page.2
      ]
    ]
  where
    by : (m : Option merger.Running) → IfSome m (MergeRuns core.standing core.phases core.places core.opener core.numbers core.room core.dumper.running)
        → merger.out_of_merge m ≡ Some id → ⊥
    by None is out = (let no : None ≡ Some id = out in cc)
    by (Some merge) is out = (subst (λ r. IsSpared r id.slot) was (is.asks id out)) (record { place = running.opened; from = omega arith; is = same ∙ own })

-- ---- a place is held for an image that begins

pub held_more : (old new : Places) (serial other : ℕ) → Changes old new serial (Some None) → IsHeld old other → IsHeld new other
held_more old new serial other changes held = changes other ∙ by (serial == other)
  where
    by : (b : Bool) → (if b then Some None else place_of old other) ≡ Some None
    by true = refl
    by false = held

pub open_more : (old new : Places) (serial other : ℕ) (o : Opened) → Changes old new serial (Some None) → ((o : Opened) → place_of old serial ≡ Some (Some o) → ⊥)
    → place_of old other ≡ Some (Some o) → place_of new other ≡ Some (Some o)
open_more old new serial other o changes none there = changes other ∙ by (eqb_tells serial other)
  where
    by : (((serial == other) ≡ true) × (serial ≡ other)) ⊎ (((serial == other) ≡ false) × (serial ≢ other)) → (if serial == other then Some None else place_of old other) ≡ Some (Some o)
    by (inl same) = absurd (none o (ap (place_of old) same.1 ∙ there))
    by (inr differs) = ap (λ b. if b then Some None else place_of old other) differs.0 ∙ there

-- ---- a command was journaled

pub applied_numbers : (base : Base) (items : Marked) (frozen newest : Option ℕ) (numbers : Numbers) (seat : ℕ) (command : Command) (reply : Reply)
    → AreSoundNumbers base items frozen newest numbers → AreSoundNumbers base (Told (Applied seat command reply) ∷ items) frozen newest numbers
applied_numbers base items frozen newest numbers seat command reply was = grind arith

image_applied : (items : Marked) (places : Places) (numbers : Numbers) (image : Making) (seat : ℕ) (command : Command) (reply : Reply)
    → IsImageInMaking items places numbers image → IsImageInMaking (Told (Applied seat command reply) ∷ items) places numbers image
image_applied items places numbers image seat command reply is = record {
  given = is.given;
  held = is.held;
  stage = is.stage;
  visiting_in = by_stage image.stage is.visiting_in;
  begun = is.begun;
}
  where
    same : IsVisiting items image.order.serial image.pass → IsVisiting (Told (Applied seat command reply) ∷ items) image.order.serial image.pass
    same v = record { started = v.started; cursor = v.cursor }

    by_stage : (stage : Stage) → IsVisitingIn items image.order.serial image.pass stage
        → IsVisitingIn (Told (Applied seat command reply) ∷ items) image.order.serial image.pass stage
    by_stage stage v = grind arith

image_applied_some : (items : Marked) (places : Places) (numbers : Numbers) (image : Option Making) (seat : ℕ) (command : Command) (reply : Reply)
    → IfSome image (IsImageInMaking items places numbers) → IfSome image (IsImageInMaking (Told (Applied seat command reply) ∷ items) places numbers)
image_applied_some items places numbers image seat command reply is = grind arith

pub applied_work : (base : Base) (items : Marked) (frozen : Option ℕ) (stands : Standing) (phases : List Phase) (places : Places) (merge : Option merger.Running) (opener : Option Looking) (numbers : Numbers)
    (running : Option Running) (seat : ℕ) (command : Command) (reply : Reply) → IfSome running (CheckpointRuns base items frozen stands phases places merge opener numbers)
    → IfSome running (CheckpointRuns base (Told (Applied seat command reply) ∷ items) frozen stands phases places merge opener numbers)
applied_work base items frozen stands phases places merge opener numbers running seat command reply work = grind arith

-- A core whose merger goes on, beside what its dumper does.
use Rattle.std.proofs.Common.{◌≡◌, ◌≢◌, ◌⊎◌, ℕ, ◌+◌, ◌<◌, ◌≤◌, ◌^◌, List, ◌∷◌, length, Option, Some, None, IfSome, slice_get, slice_set, refl, sym, ◌∙◌, ap, subst, inl, inr, arith}
use Rattle.std.proofs.lemmas.Option.{same_Some}
use Rattle.sd_chain.specs.Catalog.{IsHeld, Opened, Places, place_of}
use Rattle.sd_gate.specs.declared.phase.Phase.{Phase}
use Rattle.sd_gate.specs.declared.request_id.RequestId.{RequestId}
use Rattle.sd_gate.specs.declared.worker.Worker.TheVariants.{Merger}
use Rattle.sd_gate.specs.declared.call.Call.TheVariants.{Sync}
use Rattle.sd_merge.specs.declared.retired.Retired.{Retired}
use Rattle.sd_merge.specs.declared.copy_order.CopyOrder.{CopyOrder}
use Rattle.sd_merge.specs.Copying.{Copying, out_of}
use Rattle.sd_merge.specs.Merger as merger
use Rattle.sd_merge.specs.Merger.{Retiring, due, copying, retiring}
use Rattle.sd_rounds.specs.Dumper.{HasSlot, Running, out_of_running, slot_of, writes_of_running}
use Rattle.sd_rounds.specs.Making.{Making}
use Rattle.sd_crash_safety.specs.Calls.{IsFree}
use Rattle.sd_crash_safety.specs.Merges.{IsOtherImage, IsSpared, MakesOther}
use Rattle.sd_crash_safety.specs.declared.standing.Standing.TheVariants.{Open}
use Rattle.sd_core.specs.declared.numbers.Numbers.{Numbers}
use Rattle.sd_core.specs.Images.{begun_as}
use Rattle.sd_core.specs.Merging.{IsMergedImage}
use Rattle.sd_core.specs.Sound.{AreOuts, CheckpointRuns, CheckpointsAreCounted, ClosesWithHeader, IsCore, IsDoing, IsImageInMaking, IsOpening, MergeRuns, Parts, begun_images, serials_to_come}
use Rattle.sd_core.proofs.MergeLemmas.{image_stays}
use Rattle.sd_core.proofs.OutsLemmas.{DumperOuts, IsOfDumper, dumper_none, dumper_outs, no_write, on_slot, open_outs}
use Rattle.sd_core.proofs.OwnLemmas.{own_has, spared_of}
use Rattle.sd_core.proofs.PreDumpLemmas.{pre_dumps_stay}
use Rattle.sd_core.proofs.WorkLemmas.{SameNumbers, at_work, image_of_work}

-- ---- a merge that runs

pub merger_works : (core : Parts) (merge : merger.Running) → IsCore core → core.merger ≡ Some merge
    → MergeRuns core.standing core.phases core.places core.opener core.numbers core.room core.dumper.running merge
merger_works core merge sound is =
    subst (λ m. IfSome m (MergeRuns core.standing core.phases core.places core.opener core.numbers core.room core.dumper.running)) is sound.merging

-- in an open store the requests that are out are those of the jobs
pub jobs_out : (core : Parts) → IsCore core → core.standing ≡ Open → core.outs ≡ out_of_running core.dumper.running ∷ merger.out_of_merge core.merger ∷ None ∷ writes_of_running core.dumper.running
jobs_out core sound stands = sound.outs_are.jobs stands

-- what is out of the dumper is on slots of the store
dumper_of : (core : Parts) (phases : List Phase) → IsCore core → length phases ≡ length core.phases → DumperOuts phases core.dumper.running
dumper_of core phases sound count = by core.dumper.running refl
  where
    by : (running : Option Running) → core.dumper.running ≡ running → DumperOuts phases running
    by None is = dumper_none phases
    by (Some running) is =
        let w = at_work core running sound is in
        dumper_outs phases running (subst (λ n. slot_of running < n) (sym count) (w.within (slot_of running) (record { place = running.opened; from = omega arith; is = refl }))) w.asked w.whose w.writes

-- a request of the dumper isn't on a slot that the checkpoint spares
dumper_on : (core : Parts) (id : RequestId) (slot : ℕ) → IsCore core → IsOfDumper core.dumper.running id → IsSpared core.dumper.running slot → id.slot ≢ slot
dumper_on core id slot sound out spared same = by core.dumper.running refl out spared
  where
    by : (running : Option Running) → core.dumper.running ≡ running → IsOfDumper running id → IsSpared running slot → ⊥
    by None is out spared = elim out [ inl own ↦ (let no : None ≡ Some id = own in cc) | inr page ↦ no_write page.0 id page.1 ]
    by (Some running) is out spared =
        let w = at_work core running sound is in
        spared (record { place = running.opened; from = omega arith; is = sym same ∙ on_slot running id w.asked w.writes out })

-- one that is out in a lane of an open store is the dumper's, or the merger's
out_of_jobs : (core : Parts) (merge : Option RequestId) (outs : List (Option RequestId)) (lane : ℕ) (id : RequestId) → outs ≡ out_of_running core.dumper.running ∷ merge ∷ None ∷ writes_of_running core.dumper.running
    → slice_get outs lane ≡ Some (Some id) → IsOfDumper core.dumper.running id ⊎ (merge ≡ Some id)
out_of_jobs core merge outs lane id are at = grind arith

-- none is out on a spared slot, once the merger's is in
pub free_spared : (core : Parts) (slot : ℕ) → IsCore core → core.standing ≡ Open → IsSpared core.dumper.running slot → IsFree (slice_set core.outs 1 None) slot
free_spared core slot sound stands spared lane id at same =
    elim (out_of_jobs core None (slice_set core.outs 1 None) lane id (ap (λ all. slice_set all 1 None) (jobs_out core sound stands)) at) [
      | inl its ↦ dumper_on core id slot sound its spared same
      | inr b ↦ (let no : None ≡ Some id = b in cc)
    ]

-- none is out on a spared slot, where the merger has none out
pub free_asked : (core : Parts) (slot : ℕ) → IsCore core → core.standing ≡ Open → slice_get core.outs 1 ≡ Some None → IsSpared core.dumper.running slot → IsFree core.outs slot
free_asked core slot sound stands rests spared lane id at same =
    elim (out_of_jobs core (merger.out_of_merge core.merger) core.outs lane id (jobs_out core sound stands) at) [
      | inl its ↦ dumper_on core id slot sound its spared same
      | inr b ↦ (let no : Some None ≡ Some (Some id) = sym rests ∙ ap (λ all. slice_get all 1) (jobs_out core sound stands) ∙ ap Some b in cc)
    ]

-- none is out on a spared slot, where the merger's is on another
pub free_on : (core : Parts) (slot : ℕ) → IsCore core → core.standing ≡ Open → IsSpared core.dumper.running slot → ((id : RequestId) → merger.out_of_merge core.merger ≡ Some id → id.slot ≢ slot) → IsFree core.outs slot
free_on core slot sound stands spared other lane id at same =
    elim (out_of_jobs core (merger.out_of_merge core.merger) core.outs lane id (jobs_out core sound stands) at) [
      | inl its ↦ dumper_on core id slot sound its spared same
      | inr b ↦ other id b same
    ]

-- ---- the requests that are out, once the merger's is another

pub beside_outs : (core : Parts) (outs : List (Option RequestId)) (phases : List Phase) (merge : Option merger.Running) → IsCore core → core.standing ≡ Open → core.opener ≡ None
    → length phases ≡ length core.phases → outs ≡ out_of_running core.dumper.running ∷ merger.out_of_merge merge ∷ None ∷ writes_of_running core.dumper.running
    → ((id : RequestId) → merger.out_of_merge merge ≡ Some id → (id.slot < length phases) × (id.worker ≡ Merger))
    → ((id : RequestId) → merger.out_of_merge merge ≡ Some id → IsSpared core.dumper.running id.slot)
    → AreOuts core.standing outs phases core.dumper.running merge core.opener
beside_outs core outs phases merge sound stands closed count are within spared =
    subst (λ st. AreOuts st outs phases core.dumper.running merge core.opener) (sym stands)
    (subst (λ o. AreOuts Open outs phases core.dumper.running merge o) (sym closed)
    (open_outs outs phases core.dumper.running merge are (dumper_of core phases sound count) within
    (λ id other out its. dumper_on core id other.slot sound out (spared other its))))

-- ---- the checkpoint that runs beside it

-- what the merger leaves of it: its images stay, and so does the place of the one that is made
pub record LeavesWork (core : Parts) (places : Places) (numbers : Numbers) (merge : Option merger.Running) : Type 0 where
  pub begun : numbers.begun ≡ core.numbers.begun
  pub given : core.numbers.given ≤ numbers.given
  pub checkpoint : numbers.checkpoint ≡ core.numbers.checkpoint
  pub above : numbers.given ≤ numbers.serial
  pub serials : (running : Running) → core.dumper.running ≡ Some running → numbers.serial + serials_to_come merge ≤ 2 ^ 63 + begun_images running running.image
  pub held : (running : Running) (image : Making) → core.dumper.running ≡ Some running → running.image ≡ Some image → IsHeld core.places image.order.serial
      → IsHeld places image.order.serial
  pub stay : (serial : ℕ) (o : Opened) → place_of core.places serial ≡ Some (Some o) → HasSlot core.dumper.running o.slot → place_of places serial ≡ Some (Some o)

image_beside : (core : Parts) (places : Places) (numbers : Numbers) (merge : Option merger.Running) (running : Running) (image : Option Making) → LeavesWork core places numbers merge
    → core.dumper.running ≡ Some running → running.image ≡ image → IfSome image (IsImageInMaking core.journal.items core.places core.numbers)
    → IfSome image (IsImageInMaking core.journal.items places numbers)
image_beside core places numbers merge running image l was making is = grind arith

work_beside : (core : Parts) (phases : List Phase) (places : Places) (numbers : Numbers) (merge : Option merger.Running) → IsCore core → length phases ≡ length core.phases
    → LeavesWork core places numbers merge
    → IfSome core.dumper.running (CheckpointRuns core.base core.journal.items core.frozen core.standing phases places merge core.opener numbers)
work_beside core phases places numbers merge sound count l = by core.dumper.running refl
  where
    by : (running : Option Running) → core.dumper.running ≡ running → IfSome running (CheckpointRuns core.base core.journal.items core.frozen core.standing phases places merge core.opener numbers)
    by None is = tt
    by (Some running) is =
        let w = at_work core running sound is in
        record {
          stands = w.stands;
          closed = w.closed;
          pends = w.pends;
          above = w.above;
          some = w.some;
          number = w.number ∙ sym l.begun;
          few = w.few;
          serials = l.serials running is;
          within = λ slot reserved. subst (λ n. slot < n) (sym count) (w.within slot reserved);
          apart = w.apart;
          pre_dumps = pre_dumps_stay (begun_as running) core.places places running.opened running.parent
              (λ place serial o below one. l.stay serial o one.is_in (subst (λ r. HasSlot r o.slot) (sym is) (subst (HasSlot (Some running)) (sym one.slot) (own_has running place)))) w.pre_dumps;
          asked = w.asked;
          whose = w.whose;
          writes = w.writes;
          image = image_beside core places numbers merge running running.image l is refl w.image;
        }

-- the core, once its merger went on
pub core_beside : (core : Parts) (outs : List (Option RequestId)) (phases : List Phase) (places : Places) (room : ℕ) (numbers : Numbers) (merge : Option merger.Running) → IsCore core
    → core.standing ≡ Open → core.opener ≡ None → length phases ≡ length core.phases → LeavesWork core places numbers merge → CheckpointsAreCounted numbers places
    → outs ≡ out_of_running core.dumper.running ∷ merger.out_of_merge merge ∷ None ∷ writes_of_running core.dumper.running
    → ((id : RequestId) → merger.out_of_merge merge ≡ Some id → (id.slot < length phases) × (id.worker ≡ Merger))
    → ((id : RequestId) → merger.out_of_merge merge ≡ Some id → IsSpared core.dumper.running id.slot)
    → IfSome merge (MergeRuns core.standing phases places core.opener numbers room core.dumper.running)
    → IsCore (record core { outs = outs; phases = phases; places = places; room = room; numbers = numbers; merger = merge })
core_beside core outs phases places room numbers merge sound stands closed count l counted are within spared merging = record {
  journal_is = sound.journal_is;
  held = sound.held;
  outs_are = beside_outs core outs phases merge sound stands closed count are within spared;
  opening = subst (λ o. IfSome o (IsOpening core.standing phases)) (sym closed) tt;
  numbers_are =
      let was = sound.numbers_are in
      let begun = l.begun in
      let given = l.given in
      let checkpoint = l.checkpoint in
      let checkpoints = was.checkpoints in
      let above = l.above in
      record {
        used = λ n below. was.used n (omega (arith, below, begun));
        newest_used = subst (λ b. IfSome core.newest (λ n. n ≤ b)) (sym begun) was.newest_used;
        frozen_used = subst (λ b. IfSome core.frozen (λ n. n ≡ b)) (sym begun) was.frozen_used;
        marks = λ s past. was.marks s (omega (arith, past, given));
        checkpoints = omega (arith, begun, checkpoint, checkpoints);
        serials = above;
      };
  counted = counted;
  rests = sound.rests;
  visited_is = sound.visited_is;
  flags_are = sound.flags_are;
  gated = sound.gated;
  work = work_beside core phases places numbers merge sound count l;
  little = sound.little;
  merging = merging;
}

-- ---- the merger has no request out, and makes a step

rests_now : (core : Parts) → IsCore core → core.standing ≡ Open → slice_get core.outs 1 ≡ Some None → core.outs ≡ out_of_running core.dumper.running ∷ None ∷ None ∷ writes_of_running core.dumper.running
rests_now core sound stands rests = jobs_out core sound stands
    ∙ ap (λ o. out_of_running core.dumper.running ∷ o ∷ None ∷ writes_of_running core.dumper.running) (none_of (merger.out_of_merge core.merger) (ap (λ all. slice_get all 1) (sym (jobs_out core sound stands)) ∙ rests))
  where
    none_of : (o : Option RequestId) → Some o ≡ Some None → o ≡ None
    none_of o e = cc

-- before its image begins it has none out
pub due_rests : (core : Parts) (merge : merger.Running) → IsCore core → core.merger ≡ Some merge → merge.doing ≡ due → slice_get core.outs 1 ≡ Some None
due_rests core merge sound is doing = ap (λ all. slice_get all 1) (jobs_out core sound (merger_works core merge sound is).stands)
    ∙ ap Some (ap merger.out_of_merge is ∙ ap merger.out_in doing)

-- it asks for a call
pub core_asks : (core : Parts) (outs : List (Option RequestId)) (places : Places) (numbers : Numbers) (next : merger.Running) (now : Option merger.Running) (id : RequestId) → IsCore core
    → core.standing ≡ Open → core.opener ≡ None → now ≡ Some next → slice_get core.outs 1 ≡ Some None → outs ≡ slice_set core.outs 1 (Some id) → merger.out_in next.doing ≡ Some id
    → id.slot < length core.phases → id.worker ≡ Merger → IsSpared core.dumper.running id.slot → LeavesWork core places numbers (Some next) → CheckpointsAreCounted numbers places
    → MergeRuns core.standing core.phases places core.opener numbers core.room core.dumper.running next
    → IsCore (record core { outs = outs; places = places; numbers = numbers; merger = now })
core_asks core outs places numbers next now id sound stands closed is rests are out within whose spared l counted merging =
    subst (λ m. IsCore (record core { outs = outs; places = places; numbers = numbers; merger = m })) (sym is)
    (core_beside core outs core.phases places core.room numbers (Some next) sound stands closed refl l counted
    (are ∙ ap (λ all. slice_set all 1 (Some id)) (rests_now core sound stands rests) ∙ ap (λ o. out_of_running core.dumper.running ∷ o ∷ None ∷ writes_of_running core.dumper.running) (sym out))
    (λ other at. subst (λ (i : RequestId). (i.slot < length core.phases) × (i.worker ≡ Merger)) (same_Some id other (sym out ∙ at)) (within, whose))
    (λ other at. subst (λ (i : RequestId). IsSpared core.dumper.running i.slot) (same_Some id other (sym out ∙ at)) spared) merging)

-- ---- serials

-- the image of the checkpoint has a serial that was given out
pub other_above : (core : Parts) (serial : ℕ) → IsCore core → core.numbers.given < serial → MakesOther core.dumper.running serial
other_above core serial sound above = by core.dumper.running refl
  where
    by_image : (running : Running) (image : Option Making) → core.dumper.running ≡ Some running → running.image ≡ image → IsOtherImage image serial
    by_image running None is making = tt
    by_image running (Some image) is making = λ same. (let given = (image_of_work core running image sound is making).given in omega (arith, given, same, above))

    by : (running : Option Running) → core.dumper.running ≡ running → MakesOther running serial
    by running is = grind arith

-- nothing of the checkpoint changes, nor what the merge takes of serials
pub leaves_same : (core : Parts) (numbers : Numbers) (merge next : merger.Running) → IsCore core → core.merger ≡ Some merge → serials_to_come (Some next) ≤ serials_to_come (Some merge)
    → SameNumbers core.numbers numbers → LeavesWork core core.places numbers (Some next)
leaves_same core numbers merge next sound is fewer same = grind arith

-- ---- the merge

merged_as : (merge next : merger.Running) (places : Places) (serial own : ℕ) → own ≡ serial → next.slot ≡ merge.slot → next.source ≡ merge.source → IsMergedImage merge places serial
    → IsMergedImage next places own
merged_as merge next places serial own same slot source i = grind arith

-- its image goes on: another request is out, on a slot that the checkpoint spares
pub copy_goes_on : (core : Parts) (phases : List Phase) (places : Places) (numbers : Numbers) (merge : merger.Running) (copy next : Copying) → IsCore core → core.merger ≡ Some merge
    → merge.doing ≡ copying copy → next.order ≡ copy.order → length phases ≡ length core.phases → SameNumbers core.numbers numbers
    → (ClosesWithHeader copy.order copy.stage → ClosesWithHeader copy.order next.stage) → (IsHeld core.places copy.order.serial → IsHeld places copy.order.serial)
    → ((id : RequestId) → out_of next.stage ≡ Some id → IsSpared core.dumper.running id.slot)
    → ((id : RequestId) → out_of next.stage ≡ Some id → id.call ≡ Sync → HasSlot core.dumper.running id.slot → ⊥)
    → MergeRuns core.standing phases places core.opener numbers core.room core.dumper.running (record merge { doing = copying next })
copy_goes_on core phases places numbers merge copy next sound is doing order count same header held spared syncs =
    let m = merger_works core merge sound is in
    let d = subst (IsDoing core.phases core.places core.numbers core.room core.dumper.running merge) doing m.doing in
    let given = d.0.given in
    let more = same.given in
    let counted = m.counted in
    let checkpoint = same.checkpoint in
    let own = ap (λ (o : CopyOrder). o.serial) order in
    record {
      stands = m.stands;
      closed = m.closed;
      within = subst (λ n. merge.slot < n) (sym count) m.within;
      spared = m.spared;
      counted = omega (arith, counted, checkpoint);
      asks = spared;
      syncs = syncs;
      doing = (
        record {
          header = subst (λ o. ClosesWithHeader o next.stage) (sym order) (header d.0.header);
          given = omega (arith, given, more, own);
          held = subst (IsHeld places) (sym own) (held d.0.held);
          other = subst (MakesOther core.dumper.running) (sym own) d.0.other;
        },
        d.1 ∙ sym count,
      );
    }

-- the images of its list go on to be closed
pub retiring_goes_on : (core : Parts) (phases : List Phase) (places : Places) (numbers : Numbers) (merge : merger.Running) (r next : Retiring) → IsCore core → core.merger ≡ Some merge
    → merge.doing ≡ retiring r → (next.serial ≡ r.serial) × (next.list ≡ r.list) → length phases ≡ length core.phases → SameNumbers core.numbers numbers
    → ((o : Opened) → place_of core.places r.serial ≡ Some (Some o) → o.slot ≡ merge.slot → place_of places r.serial ≡ Some (Some o))
    → ((id : RequestId) → next.plan.out ≡ Some id → (place : ℕ) × (one : Retired) × (slice_get r.list place ≡ Some one) × (id.slot ≡ one.slot))
    → MergeRuns core.standing phases places core.opener numbers core.room core.dumper.running (record merge { doing = retiring next })
retiring_goes_on core phases places numbers merge r next sound is doing same_list count same stays asks =
    let m = merger_works core merge sound is in
    let d = subst (IsDoing core.phases core.places core.numbers core.room core.dumper.running merge) doing m.doing in
    let counted = m.counted in
    let checkpoint = same.checkpoint in
    let spared_at : (id : RequestId) → next.plan.out ≡ Some id → HasSlot core.dumper.running id.slot → ⊥ = (λ id out has.
    let a = asks id out in (d.each a.0 a.1 a.2).spared (subst (HasSlot core.dumper.running) a.3 has)) in
    record {
      stands = m.stands;
      closed = m.closed;
      within = subst (λ n. merge.slot < n) (sym count) m.within;
      spared = m.spared;
      counted = omega (arith, counted, checkpoint);
      asks = λ id out. spared_of core.dumper.running id.slot (spared_at id out);
      syncs = λ id out sync. spared_at id out;
      doing = record {
        image = merged_as merge (record merge { doing = retiring next }) places r.serial next.serial same_list.0 refl refl (image_stays merge core.places places r.serial stays d.image);
        elsewhere = λ id out at. (let a = asks id out in (d.each a.0 a.1 a.2).apart (sym a.3 ∙ at));
        each = λ place one at. let e = d.each place one (ap (λ all. slice_get all place) (sym same_list.1) ∙ at) in record {
          within = subst (λ n. one.slot < n) (sym count) e.within;
          spared = e.spared;
          apart = e.apart;
        };
        rises = λ place other a b below one two. d.rises place other a b below (ap (λ all. slice_get all place) (sym same_list.1) ∙ one) (ap (λ all. slice_get all other) (sym same_list.1) ∙ two);
      };
    }

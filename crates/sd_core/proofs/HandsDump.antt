-- The outcome of a dumper's call is handed in: what is known of it, and what follows for the core.
use Rattle.std.proofs.Common.{◌≡◌, ◌≢◌, ◌⊎◌, ◌↔◌, ℕ, suc, ◌+◌, ◌<◌, ◌≤◌, ◌^◌, ◌==◌, ◌&&◌, Bool, true, false, if◌then◌else◌, List, ◌∷◌, length, Contains, Option, Some, None, IfSome, slice_get, slice_set, refl, sym, ◌∙◌, ap, subst, inl, inr, arith}
use Rattle.std.proofs.lemmas.Bool.{eq-eqb}
use Rattle.std.proofs.lemmas.Option.{same_Some}
use Rattle.std.proofs.Math.Bool.{and-false}
use Rattle.sd_chain.specs.Catalog.{Changes, Places}
use Rattle.sd_command.specs.declared.reply.Reply.{Reply}
use Rattle.sd_command.specs.declared.reply.Reply.TheVariants as reply
use Rattle.sd_gate.specs.declared.phase.Phase.{Phase}
use Rattle.sd_gate.specs.declared.phase.Phase.TheVariants.{Whole}
use Rattle.sd_gate.specs.declared.request_id.RequestId.{RequestId}
use Rattle.sd_gate.specs.declared.worker.Worker.TheVariants.{Dumper, Merger}
use Rattle.sd_gate.specs.Phases.{bodies_after}
use Rattle.sd_gate.specs.Requests.{Asked, Made}
use Rattle.sd_image.specs.declared.header.Kind.TheVariants.{Dump, PreDump}
use Rattle.sd_image.specs.Shows.{pages_of}
use Rattle.sd_image.specs.Words.{kind_number}
use Rattle.sd_journal.specs.declared.entry.Entry.TheVariants.{Acked}
use Rattle.sd_journal.specs.History.{last, pending, unless_it_is}
use Rattle.sd_journal.specs.Kept.{JournalView}
use Rattle.sd_journal.specs.Marked.{IsTracked, Told, entries_of}
use Rattle.sd_journal.specs.TrackedLaws.{MustDumpLaws, TrackedLaws, before_freeze}
use Rattle.sd_merge.specs.Merger as merger
use Rattle.sd_pagetable.specs.Contents.{IsSound}
use Rattle.sd_pagetable.specs.Law.{PlainLaw}
use Rattle.sd_rounds.specs.declared.image_order.ImageOrder.{ImageOrder}
use Rattle.sd_writing.specs.declared.new_image.NewImage.{NewImage}
use Rattle.sd_rounds.specs.Dumper.{AreRunning, Dumping, HasSlot, IsReserved, Running, after_pre_dump, is_frozen_image, is_last, order_of, out_of_image, out_of_running, slot_of, writes_of_image, writes_of_running}
use Rattle.sd_rounds.specs.LittleWork.{LittleLaws, TookVisited}
use Rattle.sd_rounds.specs.Making.{IsWritten, Making, Opens, PlanGoesOn, is_frozen_dump, is_past_freeze, out_of}
use Rattle.sd_rounds.specs.Sound.{HasSoundImage, IsSoundImage}
use Rattle.sd_rounds.specs.Writes.{no_writes}
use Rattle.sd_crash_safety.specs.Believes.{Believes}
use Rattle.sd_crash_safety.specs.Calls.{AddsByOutcome, HandedIn, IsFree}
use Rattle.sd_crash_safety.specs.DumperOutcomes.{DumperOutcomes, ImageOpens, IsDumpersOutcome, LeavesCatalog, closes_for_sure, is_being_closed}
use Rattle.sd_crash_safety.specs.DumperSteps.{OnlyDumps}
use Rattle.sd_crash_safety.specs.Merges.{IsOtherImage, IsSpared, MakesOther}
use Rattle.sd_crash_safety.specs.View.{CoreView, page_lane}
use Rattle.sd_crash_safety.specs.declared.standing.Standing.TheVariants.{Open}
use Rattle.sd_core.specs.Kept.{KeepsEach}
use Rattle.sd_core.specs.Following.{FollowsOutcome}
use Rattle.sd_core.specs.Grown.{IsGated, has_grown, has_visited_all}
use Rattle.sd_core.specs.Images.{HasImage, HasPreDumps, IsAcked, begun_as}
use Rattle.sd_core.specs.LittleWork.{HasLittle, IsLittleDump, IsLittlePreDump, OpensPreDump, TakesLittle, visits_of, right_way}
use Rattle.sd_core.specs.Rounds.{OpensItsGate, SameRound}
use Rattle.sd_core.specs.Sound.{AreOuts, AreSoundNumbers, CheckpointRuns, CheckpointsAreCounted, HasWrites, IsCore, IsHeaderOf, IsImageInMaking, IsOpening, IsStageOfImage, MergeRuns, Parts, begun_images, serials_to_come, held_for}
use Rattle.sd_core.specs.Visited.{is_closing}
use Rattle.sd_core.proofs.OthersLemmas.{keeps_changed}
use Rattle.sd_core.proofs.CoreParts.{seen_of}
use Rattle.sd_core.proofs.EnteredLemmas.{entered_held, entered_image, left_image}
use Rattle.sd_core.proofs.FallenLemmas.{apart_after, free_after}
use Rattle.sd_core.proofs.FlagLemmas.{gated_more, gated_of, set_flags}
use Rattle.sd_core.proofs.ImageLemmas.{IsTurned, image_more}
use Rattle.sd_core.proofs.LaneLemmas.{handed_at, jobs_are, out_is, same_lane, slot_at}
use Rattle.sd_core.proofs.LittleLemmas.{due_is_way, freeze_memory, little_of, more_little}
use Rattle.sd_core.proofs.MarkLemmas.{sound_image}
use Rattle.sd_core.proofs.MergeLemmas.{merging_stays}
use Rattle.sd_core.proofs.OpenedLemmas.{image_of}
use Rattle.sd_core.proofs.OutcomeLemmas.{handed_dumper, left_counted, left_held}
use Rattle.sd_core.proofs.OutsLemmas.{DumperOuts, IsOfDumper, dumper_none, dumper_outs, far, no_write, open_outs}
use Rattle.sd_core.proofs.OwnLemmas.{own_has}
use Rattle.sd_core.proofs.PreDumpLemmas.{TheyStay, all_pre_dumps, change_stays, few_opened, none_held, pre_dump_entered, pre_dumps_stay}
use Rattle.sd_core.proofs.RoundLemmas.{opens_for, round_goes_on}
use Rattle.sd_core.proofs.SettledLemmas.{not_swept, settled_now}
use Rattle.sd_core.proofs.WorkLemmas.{at_work, core_working, held_at_work, held_same, image_of_work, merger_out, own_order, same_numbers, sound_writes, turned}

-- ---- the outcome

-- An outcome of the dumper's call for the image in the making is handed in, and followed: what is known of the core
-- before it, and of the phases of the slots and the requests that are out after it.
pub record HandsDump (core : Parts) (seen : CoreView) (lane : ℕ) (made : Made) (phases : List Phase)
    (outs : List (Option RequestId)) (closed : Bool) (running : Running) (image : Making) : Type 0 where
  pub sound : IsCore core
  pub seen_is : seen_of core ≡ seen
  pub out : slice_get seen.outs lane ≡ Some (Some made.request.id)
  pub whose : made.request.id.worker ≡ Dumper
  pub was : core.dumper.running ≡ Some running
  pub making : running.image ≡ Some image
  pub orders : AreRunning core.dumper.since_freeze core.dumper.running
  pub images : HasSoundImage core.dumper.running
  pub follows : FollowsOutcome core.phases made phases closed
  pub outs_are : outs ≡ slice_set core.outs lane None

module _ {core : Parts} {seen : CoreView} {lane : ℕ} {made : Made} {phases : List Phase}
    {outs : List (Option RequestId)} {closed : Bool} {running : Running} {image : Making}
    (h : HandsDump core seen lane made phases outs closed running image) where
  pub work : CheckpointRuns core.base core.journal.items core.frozen core.standing core.phases core.places core.merger core.opener core.numbers running
  work = at_work core running h.sound h.was

  own : slice_get core.outs lane ≡ Some (Some made.request.id)
  own = ap (λ (v : CoreView). slice_get v.outs lane) h.seen_is ∙ h.out

  in_making : IsImageInMaking core.journal.items core.places core.numbers image
  in_making = image_of_work core running image h.sound h.was h.making

  pub its_order : image.order ≡ order_of running image.order.serial image.order.state
  its_order = own_order core.dumper.since_freeze core.dumper.running running image h.orders h.was h.making

  its_slot : image.order.slot ≡ slot_of running
  its_slot = ap (λ (o : ImageOrder). o.slot) its_order

  pub good : IsSoundImage image
  good = sound_image core.dumper.running running image h.images h.was h.making

  little_so : TakesLittle core.base core.journal.items core.memory running.number image
  little_so = little_of core.base core.journal.items core.memory core.dumper.running running image h.sound.little h.was h.making

  on_slot : made.request.id.slot ≡ slot_of running
  on_slot = slot_at core running lane made.request.id h.sound h.was h.whose own

  few : running.opened ≤ length running.pre_dumps
  few = few_opened core.dumper.since_freeze core.dumper.running running h.orders h.was

  -- what is out, and in which lane
  jobs : core.outs ≡ out_of image.stage ∷ merger.out_of_merge core.merger ∷ None ∷ image.writes
  jobs = jobs_are core running h.sound h.was ∙ ap (λ i. out_of_image i ∷ merger.out_of_merge core.merger ∷ None ∷ writes_of_image i) h.making

  plan_lane : out_of image.stage ≡ Some made.request.id → lane ≡ 0
  plan_lane out = same_lane core lane 0 made.request.id h.sound own (ap (λ all. slice_get all 0) jobs ∙ ap Some out)

  write_lane : (k : ℕ) → slice_get image.writes k ≡ Some (Some made.request.id) → lane ≡ suc (suc (suc k))
  write_lane k out = same_lane core lane (suc (suc (suc k))) made.request.id h.sound own (ap (λ all. slice_get all (suc (suc (suc k)))) jobs ∙ out)

  -- beside a call of the plan nothing else is out on its slot
  alone : lane ≡ 0 → IsFree (slice_set core.outs 0 None) made.request.id.slot
  alone zero_is = free_after core.standing core.outs core.phases core.dumper.running core.merger core.opener 0 made.request.id h.sound.outs_are
      (ap (slice_get core.outs) (sym zero_is) ∙ own) (omega arith)

  -- the merger's request that is out stays as it was
  merger_stays : (other : RequestId) → merger.out_of_merge core.merger ≡ Some other → (other.slot < length phases) × (other.worker ≡ Merger)
  merger_stays other is = (let its = merger_out core other h.sound work.stands is in (subst (λ n. other.slot < n) (sym h.follows.count) its.0, its.1))

  -- as the laws of beliefs take it
  pub its_outcome : (new : Parts) (at : ℕ) → lane ≡ at → new.base ≡ core.base → new.opener ≡ core.opener → new.memory ≡ core.memory → new.outs ≡ outs → new.phases ≡ phases
      → IsDumpersOutcome (seen_of core) at made h.follows.phase (seen_of new)
  its_outcome new at same base opener memory now_out now_phases = subst (λ k. IsDumpersOutcome (seen_of core) k made h.follows.phase (seen_of new)) same (record {
    base = base;
    closed = opener ∙ work.closed;
    memory = memory;
    out = own;
    outs = now_out ∙ h.outs_are;
    apart = λ other id out on. (apart_after core.standing core.outs core.phases core.dumper.running core.merger core.opener lane made.request.id h.sound.outs_are own other id out on).are;
    phase_is = h.follows.is;
    phases = now_phases ∙ h.follows.phases;
  })

  -- as the calls of a core say it
  pub handed_as : (new : Parts) (at : ℕ) (answer : Reply) → lane ≡ at → IsDumpersOutcome (seen_of core) at made h.follows.phase (seen_of new)
      → ((asked : List (Option Asked)) (bodies files : List (List ℕ)) → slice_get asked at ≡ Some (Some made.request) → Believes (seen_of core) asked bodies files
      → Believes (seen_of new) (slice_set asked at None) (bodies_after bodies made.request.id made.request.bytes) files)
      → AddsByOutcome made.request.id.worker answer (entries_of core.journal.items) (entries_of new.journal.items) → HandedIn seen lane made answer (seen_of new)
  handed_as new at answer same o goes adds = subst (λ old. HandedIn old lane made answer (seen_of new)) h.seen_is
      (handed_at (seen_of core) (seen_of new) lane at made answer same (handed_dumper (seen_of core) (seen_of new) at made h.follows.phase answer o
      (ap length (o.phases ∙ sym h.follows.phases) ∙ h.follows.count) goes adds))

-- ---- the image goes on

-- the core after an outcome that ends no checkpoint
abbrev pub handed_core : Parts → List Phase → List (Option RequestId) → Places → Dumping → Parts
handed_core core phases outs places dumper = record core { phases = phases; outs = outs; places = places; dumper = dumper }

-- an outcome with which the image goes on
pub record GoesOn (core : Parts) (seen : CoreView) (lane : ℕ) (made : Made) (phases : List Phase)
    (outs : List (Option RequestId)) (places : Places) (dumper : Dumping) : Type 0 where
  pub closed : Bool
  pub running : Running
  pub image : Making
  pub next : Making
  pub hands : HandsDump core seen lane made phases outs closed running image
  pub goes : PlanGoesOn image made next ⊎ IsWritten image made next
  pub is : dumper.running ≡ Some (record running { image = Some next })
  pub images : HasSoundImage dumper.running
  pub leaves : LeavesCatalog closed made.request.id.slot core.places places

module _ {core : Parts} {seen : CoreView} {lane : ℕ} {made : Made} {phases : List Phase}
    {outs : List (Option RequestId)} {places : Places} {dumper : Dumping}
    (g : GoesOn core seen lane made phases outs places dumper) where
  changed : IsTurned core.journal.items places core.numbers g.image g.next None
  changed = image_more core.journal.items core.places places core.numbers g.image g.next made (in_making g.hands)
      (left_held g.closed made.request.id.slot core.places places g.image.order.serial g.leaves (in_making g.hands).held) g.goes

  goes_lane : PlanGoesOn g.image made g.next → lane ≡ 0
  goes_lane goes = plan_lane g.hands (out_is g.image.stage goes.plan goes.awaited.was ∙ goes.awaited.out)

  outs_then : outs ≡ out_of g.next.stage ∷ merger.out_of_merge core.merger ∷ None ∷ g.next.writes
  outs_then = g.hands.outs_are ∙ by g.goes
    where
      by : PlanGoesOn g.image made g.next ⊎ IsWritten g.image made g.next → slice_set core.outs lane None ≡ out_of g.next.stage ∷ merger.out_of_merge core.merger ∷ None ∷ g.next.writes
      by (inl goes) = ap (λ k. slice_set core.outs k None) (goes_lane goes) ∙ ap (λ all. slice_set all 0 None) (jobs g.hands)
          ∙ ap (λ (m : Making). None ∷ merger.out_of_merge core.merger ∷ None ∷ m.writes) (sym goes.is)
          ∙ ap (λ o. o ∷ merger.out_of_merge core.merger ∷ None ∷ g.next.writes) (sym changed.out_is)
      by (inr written) = ap (λ k. slice_set core.outs k None) (write_lane g.hands written.lane written.out) ∙ ap (λ all. slice_set all (suc (suc (suc written.lane))) None) (jobs g.hands)
          ∙ ap (λ (m : Making). out_of m.stage ∷ merger.out_of_merge core.merger ∷ None ∷ m.writes) (sym written.is)

  pub goes_on_core : LittleLaws → IsCore (handed_core core phases outs places dumper)
  goes_on_core laws = core_working (handed_core core phases outs places dumper) (record g.running { image = Some g.next }) g.is
      (turned g.running g.image g.next g.hands.sound (record {
        was = g.hands.was;
        making = g.hands.making;
        is = g.is;
        serial = ap (λ (o : ImageOrder). o.serial) changed.order;
        places_stay = record {
          held = λ serial held. left_held g.closed made.request.id.slot core.places places serial g.leaves held;
          images = λ serial o there spared. left_image g.closed made.request.id.slot core.places places serial o g.leaves
              (λ same. spared (subst (HasSlot (Some g.running)) (sym (same ∙ on_slot g.hands)) (own_has g.running g.running.opened))) there;
        };
        count = g.hands.follows.count;
        same = same_numbers core.numbers;
        entries = refl;
        held = refl;
        journal_is = g.hands.sound.journal_is;
        numbers_are = g.hands.sound.numbers_are;
        visited_is = g.hands.sound.visited_is;
        flags_are = g.hands.sound.flags_are;
        gated = gated_more (is_last g.running) core.swept g.image g.next made (good g.hands) g.goes
            (gated_of core.swept core.dumper.running g.running g.image g.hands.sound.gated g.hands.was g.hands.making);
        counted = left_counted g.closed made.request.id.slot core.places places core.numbers g.leaves g.hands.sound.counted;
        outs_are = outs_then;
        stay = λ place serial o below is. left_image g.closed made.request.id.slot core.places places serial o g.leaves
            (λ same. (work g.hands).apart place g.running.opened below (few g.hands) (sym is.slot ∙ same ∙ on_slot g.hands)) is.is_in;
        asked = subst (λ o. IfSome o (λ i. i.slot ≡ slot_of g.running)) (sym changed.out_is) tt;
        whose = subst (λ o. IfSome o (λ i. i.worker ≡ Dumper)) (sym changed.out_is) tt;
        writes = sound_writes g.running g.next (ap (λ (o : ImageOrder). o.slot) changed.order ∙ its_slot g.hands)
            (sound_image dumper.running (record g.running { image = Some g.next }) g.next g.images g.is refl);
        image_is = changed.image_is;
        still = changed.still;
        little = more_little laws core.base core.journal.items core.memory g.running.number g.image g.next made g.goes changed.still (little_so g.hands);
      }))

  pub goes_on_handed : DumperOutcomes → HandedIn seen lane made reply.Worked (seen_of (handed_core core phases outs places dumper))
  goes_on_handed laws = by g.goes
    where
      outcome : (at : ℕ) → lane ≡ at → IsDumpersOutcome (seen_of core) at made g.hands.follows.phase (seen_of (handed_core core phases outs places dumper))
      outcome at same = its_outcome g.hands (handed_core core phases outs places dumper) at same refl refl refl refl refl

      rest : OnlyDumps (seen_of core) (seen_of (handed_core core phases outs places dumper))
      rest = record { stands = (work g.hands).stands; base = refl; closed = (work g.hands).closed; grows = refl; merger = refl }

      leaves : LeavesCatalog (closes_for_sure g.hands.follows.phase made.request.id.call) made.request.id.slot core.places places
      leaves = subst (λ b. LeavesCatalog b made.request.id.slot core.places places) g.hands.follows.closes g.leaves

      by : PlanGoesOn g.image made g.next ⊎ IsWritten g.image made g.next → HandedIn seen lane made reply.Worked (seen_of (handed_core core phases outs places dumper))
      by (inl goes) = handed_as g.hands (handed_core core phases outs places dumper) 0 reply.Worked (goes_lane goes) (outcome 0 (goes_lane goes))
          (λ asked bodies files. laws.goes_on _ _ g.running g.image g.next made g.hands.follows.phase asked bodies files (record {
            outcome = outcome 0 (goes_lane goes);
            alone = alone g.hands (goes_lane goes);
            rest = rest;
            history = refl;
            serial = refl;
            catalog = leaves;
            was = g.hands.was;
            making = g.hands.making;
            own = its_order g.hands;
            sound = good g.hands;
            hands = goes;
            committing = refl;
            is = g.is;
          })) refl
      by (inr written) =
          let page_is = write_lane g.hands written.lane written.out ∙ sym (far written.lane) in
          let write = ((subst (λ i. HasWrites g.running i) g.hands.making (work g.hands).writes).0.each written.lane made.request.id written.out).call in
          handed_as g.hands (handed_core core phases outs places dumper) (page_lane written.lane) reply.Worked page_is (outcome (page_lane written.lane) page_is)
          (λ asked bodies files. laws.written _ _ g.running g.image g.next made g.hands.follows.phase asked bodies files (record {
            hands = written;
            outcome = outcome (page_lane written.lane) page_is;
            rest = rest;
            history = refl;
            serial = refl;
            catalog = subst (λ b. LeavesCatalog b made.request.id.slot core.places places)
                (ap (closes_for_sure g.hands.follows.phase) write ∙ and-false (is_being_closed g.hands.follows.phase)) leaves;
            was = g.hands.was;
            making = g.hands.making;
            own = its_order g.hands;
            sound = good g.hands;
            committing = refl;
            is = g.is;
          })) refl

  pub goes_on_same : SameRound seen.dumper.running dumper.running
  goes_on_same = subst (λ (v : CoreView). SameRound v.dumper.running dumper.running) g.hands.seen_is
      (round_goes_on core.dumper.running dumper.running g.running (record g.running { image = Some g.next }) g.hands.was g.is (record { job = refl; opened = refl; parent = refl }))

-- ---- the image is open

-- the core after the acknowledgement
abbrev pub acked_core : Parts → JournalView → Parts
acked_core core journal = record core { journal = journal; frozen = None; newest = Some core.numbers.begun; grows = true; committing = false; swept = false }

-- an outcome with which the image is open: the last one ends the checkpoint, and after another the next is to come
pub record OpensDump (core : Parts) (seen : CoreView) (lane : ℕ) (made : Made) (phases : List Phase)
    (outs : List (Option RequestId)) (places : Places) (dumper : Dumping) (opened : NewImage) (last : Bool) : Type 0 where
  pub closed : Bool
  pub running : Running
  pub image : Making
  pub hands : HandsDump core seen lane made phases outs closed running image
  pub opens : Opens image made opened
  pub last_is : is_last running ≡ last
  pub is : dumper.running ≡ (if last then None else Some (after_pre_dump running opened))
  pub changes : Changes core.places places opened.header.serial (Some (Some (image_of opened)))

module _ {core : Parts} {seen : CoreView} {lane : ℕ} {made : Made} {phases : List Phase}
    {outs : List (Option RequestId)} {places : Places} {dumper : Dumping} {opened : NewImage} {last : Bool}
    (o : OpensDump core seen lane made phases outs places dumper opened last) where
  header : IsHeaderOf o.image.order opened.header
  header = (subst (IsStageOfImage o.image.order) o.opens.was (in_making o.hands).stage).1

  changes : Changes core.places places o.image.order.serial (Some (Some (image_of opened)))
  changes = subst (λ s. Changes core.places places s (Some (Some (image_of opened)))) header.serial o.changes

  -- no image changes under its serial
  pub keeps_entered : KeepsEach core.places places
  keeps_entered = keeps_changed core.places places o.image.order.serial (Some (Some (image_of opened))) changes
      (λ one there. none_held core.places o.image.order.serial one (in_making o.hands).held there)

  pub has : HasImage o.running places (image_of opened)
  has = grind arith

  counted : CheckpointsAreCounted core.numbers places
  counted = grind arith

  stay : TheyStay (begun_as o.running) core.places places o.running.opened
  stay = change_stays (begun_as o.running) core.places places o.image.order.serial o.running.opened (Some (Some (image_of opened))) changes
      (λ one there. none_held core.places o.image.order.serial one (in_making o.hands).held there)

  zero_is : lane ≡ 0
  zero_is = plan_lane o.hands (ap out_of o.opens.was ∙ o.opens.out)

  outs_now : outs ≡ None ∷ merger.out_of_merge core.merger ∷ None ∷ no_writes
  outs_now = o.hands.outs_are ∙ ap (λ k. slice_set core.outs k None) zero_is ∙ ap (λ all. slice_set all 0 None) (jobs o.hands)
      ∙ ap (λ w. None ∷ merger.out_of_merge core.merger ∷ None ∷ w) o.opens.rests

  its_kind : o.image.order.kind ≡ (if last then Dump else PreDump)
  its_kind = ap (λ (i : ImageOrder). i.kind) (its_order o.hands) ∙ ap (λ b. if b then Dump else PreDump) o.last_is

  -- a dump is made while its checkpoint is pending, and a pre-dump while none is
  pub frozen_so : is_frozen_dump o.image ≡ ((kind_number (if last then Dump else PreDump) == 2) && true)
  frozen_so = ap (λ k. (kind_number k == 2) && is_past_freeze o.image.stage) its_kind ∙ ap (λ s. (kind_number (if last then Dump else PreDump) == 2) && is_past_freeze s) o.opens.was

  pub pends : core.frozen ≡ (if (kind_number (if last then Dump else PreDump) == 2) && true then Some o.running.number else None)
  pends = (work o.hands).pends ∙ ap (λ i. if is_frozen_image i then Some o.running.number else None) o.hands.making ∙ ap (λ b. if b then Some o.running.number else None) frozen_so

  whole_is : o.image.pass.takes_all ≡ (opened.header.parent == 0)
  whole_is = (good o.hands).takes ∙ ap (λ p. p == 0) (sym header.parent)

  -- the merge beside it
  merging : IfSome core.merger (MergeRuns core.standing phases places core.opener core.numbers core.room dumper.running)
  merging = merging_stays core phases places core.numbers dumper.running o.hands.sound (record {
    count = o.hands.follows.count;
    given = omega arith;
    checkpoint = omega arith;
    serials = λ merge is due below. below;
    has = λ slot has. subst (λ r. HasSlot r slot) (sym o.hands.was) (has_slot last o.is slot has);
    fills = λ slot spared. fills last o.is slot (subst (λ r. IsSpared r slot) o.hands.was spared);
    other = λ serial given other. makes_other last o.is serial;
    held = λ serial given other held. entered_held core.places places o.image.order.serial (Some (Some (image_of opened))) serial changes (differs serial (subst (λ r. MakesOther r serial) o.hands.was other)) held;
    images = λ serial other there spared. entered_image core.places places o.image.order.serial (Some (Some (image_of opened))) serial other changes (in_making o.hands).held there;
  })
    where
      differs : (serial : ℕ) → MakesOther (Some o.running) serial → o.image.order.serial ≢ serial
      differs serial other = subst (λ i. IsOtherImage i serial) o.hands.making other

      has_slot : (b : Bool) → dumper.running ≡ (if b then None else Some (after_pre_dump o.running opened)) → (slot : ℕ) → HasSlot dumper.running slot → HasSlot (Some o.running) slot
      has_slot b is slot has = grind arith

      -- after a pre-dump the checkpoint fills one slot less
      fills : (b : Bool) → dumper.running ≡ (if b then None else Some (after_pre_dump o.running opened)) → (slot : ℕ) → IsSpared (Some o.running) slot → IsSpared dumper.running slot
      fills b is slot spared = grind arith

      makes_other : (b : Bool) → dumper.running ≡ (if b then None else Some (after_pre_dump o.running opened)) → (serial : ℕ) → MakesOther dumper.running serial
      makes_other b is serial = grind arith

  -- as the laws of beliefs take it
  as_believed : (new : Parts) → IsDumpersOutcome (seen_of core) 0 made o.hands.follows.phase (seen_of new) → new.merger ≡ core.merger → new.numbers.serial ≡ core.numbers.serial → new.places ≡ places
      → ImageOpens (seen_of core) o.running o.image made o.hands.follows.phase opened (seen_of new)
  as_believed new outcome merger serial now_places = record {
    outcome = outcome;
    alone = alone o.hands zero_is;
    stands = (work o.hands).stands;
    merger = merger;
    serial = serial;
    held = (in_making o.hands).held;
    catalog = subst (λ p. Changes core.places p o.image.order.serial (Some (Some (image_of opened)))) (sym now_places) changes;
    was = o.hands.was;
    making = o.hands.making;
    own = its_order o.hands;
    sound = good o.hands;
    opens = o.opens;
  }

  -- the gate of its slot is open
  gates : DumperOutcomes → (new : Parts) (answer : Reply) → ImageOpens (seen_of core) o.running o.image made o.hands.follows.phase opened (seen_of new) → new.standing ≡ core.standing
      → OpensItsGate seen lane made.request answer (seen_of new)
  gates laws new answer believed stands = subst (λ old. OpensItsGate old lane made.request answer (seen_of new)) o.hands.seen_is (λ other asked bodies files enters at b.
      let same : o.running ≡ other = same_Some o.running other (sym o.hands.was ∙ opens_for other (seen_of core) (seen_of new) answer enters) in
      record {
        stands = stands ∙ (work o.hands).stands;
        whole = subst (λ n. slice_get new.phases n ≡ Some Whole) (its_slot o.hands ∙ ap slot_of same)
            (laws.enters_open _ _ o.running o.image made o.hands.follows.phase opened asked bodies files believed (ap (slice_get asked) (sym zero_is) ∙ at) b);
        free = subst (IsFree new.outs) (on_slot o.hands ∙ ap slot_of same) (subst (λ all. IsFree all made.request.id.slot) (sym believed.outcome.outs) believed.alone);
      })

-- ---- a pre-dump is open

module _ {core : Parts} {seen : CoreView} {lane : ℕ} {made : Made} {phases : List Phase}
    {outs : List (Option RequestId)} {places : Places} {dumper : Dumping} {opened : NewImage}
    (o : OpensDump core seen lane made phases outs places dumper opened false) where
  pre_dump_outcome : IsDumpersOutcome (seen_of core) 0 made o.hands.follows.phase (seen_of (handed_core core phases outs places dumper))
  pre_dump_outcome = its_outcome o.hands (handed_core core phases outs places dumper) 0 (zero_is o) refl refl refl refl refl

  pub pre_dump_core : IsCore (handed_core core phases outs places dumper)
  pre_dump_core = core_working (handed_core core phases outs places dumper) now o.is (record {
    journal_is = o.hands.sound.journal_is;
    held = held_at_work core o.running o.hands.sound o.hands.was ∙ held_same core.frozen o.running now None;
    outs_are = subst (λ st. AreOuts st outs phases (Some now) core.merger None) (sym w.stands)
        (open_outs outs phases (Some now) core.merger (outs_now o)
        (dumper_outs phases now (within (slot_of now) (record { place = o.running.opened + 1; from = omega arith; is = refl })) tt tt tt) (merger_stays o.hands)
        (λ other one is at same. elim is [ inl plan ↦ (let no : None ≡ Some other = plan in cc) | inr page ↦ no_write page.0 other page.1 ]));
    numbers_are = o.hands.sound.numbers_are;
    visited_is = o.hands.sound.visited_is;
    flags_are = o.hands.sound.flags_are;
    gated = tt;
    counted = counted o;
    work = record {
      stands = w.stands;
      closed = w.closed;
      pends = pends o;
      above = w.above;
      some = w.some;
      number = w.number;
      few = w.few;
      serials = subst (λ i. core.numbers.serial + serials_to_come core.merger ≤ 2 ^ 63 + begun_images o.running i) o.hands.making w.serials;
      within = λ slot reserved. within slot (record { place = reserved.place; from = (let from = reserved.from in omega (arith, from)); is = reserved.is });
      apart = w.apart;
      pre_dumps = pre_dump_entered o.running core.places places (image_of opened) (has o) o.last_is (stay o) w.pre_dumps;
      asked = tt;
      whose = tt;
      writes = tt;
      image = tt;
    };
    little = tt;
    merging = subst (λ r. IfSome core.merger (MergeRuns core.standing phases places core.opener core.numbers core.room r)) o.is (merging o);
  })
    where
      now : Running
      now = after_pre_dump o.running opened

      w : CheckpointRuns core.base core.journal.items core.frozen core.standing core.phases core.places core.merger core.opener core.numbers o.running
      w = work o.hands

      within : (slot : ℕ) → IsReserved o.running slot → slot < length phases
      within slot reserved = subst (λ k. slot < k) (sym o.hands.follows.count) (w.within slot reserved)

  believed_pre_dump : ImageOpens (seen_of core) o.running o.image made o.hands.follows.phase opened (seen_of (handed_core core phases outs places dumper))
  believed_pre_dump = as_believed o (handed_core core phases outs places dumper) pre_dump_outcome refl refl refl

  pub pre_dump_handed : DumperOutcomes → HandedIn seen lane made reply.Worked (seen_of (handed_core core phases outs places dumper))
  pre_dump_handed laws = handed_as o.hands (handed_core core phases outs places dumper) 0 reply.Worked (zero_is o) pre_dump_outcome
      (λ asked bodies files. laws.opens_pre_dump _ _ o.running o.image made o.hands.follows.phase opened asked bodies files
      (record { opens_it = believed_pre_dump; history = refl; grows = refl; more = o.last_is; is = o.is })) refl

  pub pre_dump_gates : DumperOutcomes → OpensItsGate seen lane made.request reply.Worked (seen_of (handed_core core phases outs places dumper))
  pre_dump_gates laws = gates o laws (handed_core core phases outs places dumper) reply.Worked believed_pre_dump refl

  -- it has no pages but those that its visits found
  pub pre_dump_little : LittleLaws → (running : Running) → OpensPreDump running seen (seen_of (handed_core core phases outs places dumper))
      → IsLittlePreDump running seen (seen_of (handed_core core phases outs places dumper))
  pre_dump_little laws running opens =
      let same : o.running ≡ running = same_Some o.running running (sym o.hands.was ∙ ap (λ (v : CoreView). v.dumper.running) o.hands.seen_is ∙ opens.was) in
      record {
        image = image_of opened;
        has = subst (λ r. HasImage r places (image_of opened)) same (has o);
        took = subst (λ (v : CoreView). TookVisited (opened.header.parent == 0) (visits_of v.base v.items opened.header.serial) opened.table) o.hands.seen_is
            (subst (λ b. TookVisited b (visits_of core.base core.journal.items opened.header.serial) opened.table) (whole_is o)
            (subst (λ s. TookVisited o.image.pass.takes_all (visits_of core.base core.journal.items s) opened.table) (sym (header o).serial)
            (laws.took (visits_of core.base core.journal.items o.image.order.serial) o.image made opened o.opens ((little_so o.hands).round (its_kind o)))));
      }

-- ---- the dump is open

module _ {core : Parts} {seen : CoreView} {lane : ℕ} {made : Made} {phases : List Phase}
    {outs : List (Option RequestId)} {places : Places} {dumper : Dumping} {opened : NewImage}
    (o : OpensDump core seen lane made phases outs places dumper opened true) where
  was_seen : seen.dumper.running ≡ Some o.running
  was_seen = sym (ap (λ (v : CoreView). v.dumper.running) o.hands.seen_is) ∙ o.hands.was

  pub dump_core : TrackedLaws → PlainLaw → (journal : JournalView) → journal.items ≡ Told (Acked core.numbers.begun) ∷ core.journal.items → journal.first ≡ core.journal.first
      → journal.limit ≡ core.journal.limit → journal.held + 1 ≡ core.journal.held → IsSound core.memory → IsCore (acked_core (handed_core core phases outs places dumper) journal)
  dump_core laws law journal items first limit held whole = record {
    journal_is = record {
      tracked = tracked;
      first = first ∙ o.hands.sound.journal_is.first;
      limit = limit ∙ o.hands.sound.journal_is.limit;
      frozen_for = ap (λ b. if b then None else Some core.numbers.begun) (sym (eq-eqb core.numbers.begun core.numbers.begun refl))
          ∙ ap (unless_it_is core.numbers.begun) (sym pending_is) ∙ ap (λ all. pending (entries_of all)) (sym items);
      newest_is = ap (λ all. last core.base (entries_of all)) (sym items);
      -- once the dump is open each page was visited, and nothing was touched since
      settled = settled_now law core.base core.journal.items journal.items core.memory core.numbers.begun (Acked core.numbers.begun) items (refl, pending_is) tracked whole
          ((little_so o.hands).closed (frozen_so o) (ap is_closing o.opens.was));
    };
    held = free ∙ ap (λ r. held_for None r None) (sym o.is) ∙ ap (held_for None dumper.running) (sym w.closed);
    outs_are = subst (λ st. AreOuts st outs phases dumper.running core.merger core.opener) (sym w.stands)
        (subst (λ one. AreOuts Open outs phases dumper.running core.merger one) (sym w.closed)
        (open_outs outs phases dumper.running core.merger (outs_now o ∙ ap (λ r. out_of_running r ∷ merger.out_of_merge core.merger ∷ None ∷ writes_of_running r) (sym o.is))
        (subst (DumperOuts phases) (sym o.is) (dumper_none phases)) (merger_stays o.hands)
        (λ other one is at same. elim (subst (λ r. IsOfDumper r other) o.is is) [ inl plan ↦ (let no : None ≡ Some other = plan in cc) | inr page ↦ no_write page.0 other page.1 ])));
    opening = subst (λ one. IfSome one (IsOpening core.standing phases)) (sym w.closed) tt;
    numbers_are = subst (λ all. AreSoundNumbers core.base all None (Some core.numbers.begun) core.numbers) (sym items) (record {
      used = λ n below. (below, numbers.used n below);
      newest_used = omega arith;
      frozen_used = tt;
      marks = numbers.marks;
      checkpoints = numbers.checkpoints;
      serials = numbers.serials;
    });
    visited_is = not_swept false None core.memory refl;
    flags_are = set_flags core.base journal.items false true false (ap (λ all. has_grown core.base (entries_of all)) (sym items)) refl (ap has_visited_all (sym items));
    gated = subst (λ r. IfSome r (IsGated false)) (sym o.is) tt;
    counted = counted o;
    rests = λ none open_. refl;
    work = subst (λ r. IfSome r (CheckpointRuns core.base journal.items None core.standing phases places core.merger core.opener core.numbers)) (sym o.is) tt;
    little = subst (λ r. IfSome r (HasLittle core.base journal.items core.memory)) (sym o.is) tt;
    merging = merging o;
  }
    where
      w : CheckpointRuns core.base core.journal.items core.frozen core.standing core.phases core.places core.merger core.opener core.numbers o.running
      w = work o.hands

      numbers : AreSoundNumbers core.base core.journal.items core.frozen core.newest core.numbers
      numbers = o.hands.sound.numbers_are

      pending_is : pending (entries_of core.journal.items) ≡ Some core.numbers.begun
      pending_is = sym o.hands.sound.journal_is.frozen_for ∙ pends o ∙ ap Some w.number

      tracked : IsTracked core.base journal.items core.memory
      tracked = subst (λ all. IsTracked core.base all core.memory) (sym items)
          (laws.told core.base core.journal.items core.memory (Acked core.numbers.begun) o.hands.sound.journal_is.tracked pending_is refl)

      free : journal.held ≡ 0
      free = grind arith

  dump_outcome : (journal : JournalView) → IsDumpersOutcome (seen_of core) 0 made o.hands.follows.phase (seen_of (acked_core (handed_core core phases outs places dumper) journal))
  dump_outcome journal = its_outcome o.hands (acked_core (handed_core core phases outs places dumper) journal) 0 (zero_is o) refl refl refl refl refl

  believed_dump : (journal : JournalView)
      → ImageOpens (seen_of core) o.running o.image made o.hands.follows.phase opened (seen_of (acked_core (handed_core core phases outs places dumper) journal))
  believed_dump journal = as_believed o (acked_core (handed_core core phases outs places dumper) journal) (dump_outcome journal) refl refl refl

  pub dump_handed : DumperOutcomes → TrackedLaws → (journal : JournalView) → journal.items ≡ Told (Acked core.numbers.begun) ∷ core.journal.items
      → HandedIn seen lane made (reply.Acked core.numbers.begun) (seen_of (acked_core (handed_core core phases outs places dumper) journal))
  dump_handed laws tracked journal items = handed_as o.hands (acked_core (handed_core core phases outs places dumper) journal) 0 (reply.Acked core.numbers.begun) (zero_is o) (dump_outcome journal)
      (λ asked bodies files. laws.opens_dump _ _ o.running o.image made o.hands.follows.phase opened asked bodies files (record {
        opens_it = believed_dump journal;
        items = items ∙ ap (λ n. Told (Acked n) ∷ core.journal.items) (sym (work o.hands).number);
        legal = tracked.legal core.base core.journal.items o.hands.sound.journal_is.tracked.marked;
        grows = refl;
        last = o.last_is;
        is = o.is;
      })) (o.hands.whose, ap entries_of items)

  pub dump_gates : DumperOutcomes → (journal : JournalView)
      → OpensItsGate seen lane made.request (reply.Acked core.numbers.begun) (seen_of (acked_core (handed_core core phases outs places dumper) journal))
  dump_gates laws journal = gates o laws (acked_core (handed_core core phases outs places dumper) journal) (reply.Acked core.numbers.begun) (believed_dump journal) refl

  pub dump_acked : (journal : JournalView) (n : ℕ) → core.numbers.begun ≡ n → dumper.since_freeze ≡ opened.header.pages + 5
      → IsAcked n seen (seen_of (acked_core (handed_core core phases outs places dumper) journal))
  dump_acked journal n named counted = record {
    running = o.running;
    was = was_seen;
    number = sym named ∙ sym (work o.hands).number;
    last = o.last_is;
    dump = image_of opened;
    has = has o;
    pre_dumps = subst (HasPreDumps (begun_as o.running) places (length o.running.pre_dumps)) (sym (has o).parent)
        (all_pre_dumps o.running places o.running.parent (few o.hands) o.last_is
        (pre_dumps_stay (begun_as o.running) core.places places o.running.opened o.running.parent (stay o) (work o.hands).pre_dumps));
    counted = counted;
  }

  -- it has exactly the pages that must be dumped
  pub dump_little : LittleLaws → PlainLaw → MustDumpLaws → (journal : JournalView) (n : ℕ) → core.numbers.begun ≡ n
      → IsLittleDump n seen (seen_of (acked_core (handed_core core phases outs places dumper) journal))
  dump_little laws plain due journal n named =
      let d = (little_so o.hands).dump (frozen_so o) in
      let before = subst (λ (v : CoreView). before_freeze v.items n ≡ Some d.frozen) o.hands.seen_is (subst (λ m. before_freeze core.journal.items m ≡ Some d.frozen) ((work o.hands).number ∙ named) d.before) in
      record {
        running = o.running;
        was = was_seen;
        last = o.last_is;
        dump = image_of opened;
        has = has o;
        frozen = d.frozen;
        before = before;
        freeze = freeze_memory seen.base seen.items d.frozen n before;
        ways = λ kind at. subst (λ (v : CoreView). Contains (pages_of kind opened.table) at ↔ right_way (opened.header.parent == 0) v.base d.frozen at ≡ Some kind) o.hands.seen_is
            (subst (λ way. Contains (pages_of kind opened.table) at ↔ way ≡ Some kind)
            (due_is_way plain due core.base d.frozen d.cut d.tracked o.image.pass.takes_all at ∙ ap (λ b. right_way b core.base d.frozen at) (whole_is o))
            (laws.opens d.cut o.image made opened core.memory o.opens (good o.hands).rising d.takes kind at));
      }

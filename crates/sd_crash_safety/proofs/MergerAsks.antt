-- The next call of a merged image's plan is asked for.
use Rattle.std.proofs.Common.{◌≡◌, ◌≢◌, ◌⊎◌, ◌↔◌, ℕ, ◌≤◌, true, List, [], ◌∷◌, Option, Some, None, Contains, option_and_then, slice_get, slice_set, refl, sym, ◌∙◌, ap, subst, inl, inr, arith}
use Rattle.std.proofs.lemmas.Bool.{cases_eq}
use Rattle.std.proofs.lemmas.Option.{same_Some}
use Rattle.sd_disk.specs.Contents.{file_at}
use Rattle.sd_image.specs.declared.header.Header.{Header}
use Rattle.sd_image.specs.declared.header.Kind.TheVariants.{PreDump, Merged}
use Rattle.sd_image.specs.Image.{Image, IsImage, gate, image_text}
use Rattle.sd_image.specs.Laws.{HaveTables}
use Rattle.sd_image.specs.Table.{Listed}
use Rattle.sd_image.proofs.Members.{contains_at, place_in}
use Rattle.sd_gate.specs.declared.phase.Phase.{Phase}
use Rattle.sd_gate.specs.Phases.{is_ready}
use Rattle.sd_gate.specs.Plans.{Gives, Planned}
use Rattle.sd_gate.specs.Requests.{Asked}
use Rattle.sd_journal.specs.History.{History}
use Rattle.sd_merge.specs.declared.merge_step.MergeStep.TheVariants.{Call}
use Rattle.sd_merge.specs.declared.stage.Stage.{Stage as CopyStage}
use Rattle.sd_merge.specs.declared.stage.Stage.TheVariants as copy
use Rattle.sd_merge.specs.Copying.{Asks, Copying, IsReadyFor, plan_of as copy_plan, with_plan as copy_with}
use Rattle.sd_merge.specs.Files.{FileLaws, IsFiled, IsFiledIn}
use Rattle.sd_merge.specs.Merger.{copying}
use Rattle.sd_merge.specs.Merger as merger
use Rattle.sd_merge.specs.Merging.{KeepsCopy}
use Rattle.sd_rounds.specs.declared.image_order.ImageOrder.{ImageOrder}
use Rattle.sd_rounds.specs.Dumper.{Running}
use Rattle.sd_rounds.specs.Making.{plan_of, with_plan}
use Rattle.sd_rounds.specs.MakingLaws.{MakingLaws}
use Rattle.sd_writing.specs.Files.{Pages, image_of}
use Rattle.sd_writing.specs.Entries.{ImageEntry, Place}
use Rattle.sd_store_laws.specs.Beliefs.{Belief, Closed, Kept, Closing, Opening, image_at, image_in}
use Rattle.sd_store_laws.specs.Cut.{Repeats}
use Rattle.sd_store_laws.specs.LiveImages.{CatalogFollows}
use Rattle.sd_store_laws.specs.Makers.{MergedRepeats}
use Rattle.sd_store_laws.specs.Needs.{IsNeededIn}
use Rattle.sd_store_laws.specs.SlotSteps.{with_belief}
use Rattle.sd_store_laws.specs.Store.{IsMergedCopy, Store, jobs}
use Rattle.sd_crash_safety.specs.Believes.{Believes, HasStore}
use Rattle.sd_crash_safety.specs.GateSteps.{GateSteps}
use Rattle.sd_crash_safety.specs.LiveImages.{IsLiveOn, IsSlotFor, body_written}
use Rattle.sd_crash_safety.specs.MergerSteps.{AsksForMerged}
use Rattle.sd_crash_safety.specs.Merges.{IsAskedIn, IsCopyOfSource, IsCopyOn, IsMergeAt, IsMergeOn, MakesOther, lanes_in_slot, order_of_slot, request_in_slot, stage_in_slot}
use Rattle.sd_crash_safety.specs.StoreSteps.{MayAsk, QuietSteps}
use Rattle.sd_crash_safety.specs.View.{CoreView, history_of}
use Rattle.sd_merge.proofs.FileLemmas.{filed_asked as filed_with}
use Rattle.sd_crash_safety.proofs.Asks.{HasIt, IsChangedAt, changed_by, unchanged_at}
use Rattle.sd_crash_safety.proofs.AsksImage.{plan_on}
use Rattle.sd_crash_safety.proofs.AsksSlot.{AsksOn, AsksQuietly, AsksToClose, AsksToOpen, asks_on, image_in_stage}
use Rattle.sd_crash_safety.proofs.BeginsImage.{none_at}
use Rattle.sd_crash_safety.proofs.MergeStays.{needed_there}
use Rattle.sd_crash_safety.proofs.MergerUse.{use_then}
use Rattle.sd_crash_safety.proofs.OpenCore.{believes_parts}
use Rattle.sd_crash_safety.proofs.Places.{free_there, ids_set, set_same}

-- ---- what is done in the slot of a merged image

-- a plan that gives a call is on the image's own slot: a read gives none once it is out
pub plan_in_slot : (stage : CopyStage) (entries : List ImageEntry) (taking : Option Place) (read : Option (List ℕ)) (plan next : Planned) (request : Asked)
    → IsReadyFor entries taking read stage → ((own : Planned) → stage ≡ copy.PageWrite own → ⊥) → copy_plan stage ≡ Some plan → Gives plan next request
    → (plan_of (stage_in_slot stage) ≡ Some plan) × (stage_in_slot (copy_with stage next) ≡ with_plan (stage_in_slot stage) next)
    × ((r : Option Asked) → request_in_slot (copy_with stage next) r ≡ r) × ((r : Option Asked) → request_in_slot stage r ≡ r)
    × ((r : Option Asked) → lanes_in_slot (copy_with stage next) r ≡ []) × ((r : Option Asked) → lanes_in_slot stage r ≡ [])
plan_in_slot copy.Pass entries taking read plan next request ready other was gives = absurd (let no : None ≡ Some plan = was in cc)
plan_in_slot (copy.PageRead own) entries taking read plan next request ready other was gives =
    absurd (none_given (sym (ready.2.last) ∙ ap (λ (p : Planned). p.calls) (same_Some own plan was) ∙ gives.next))
  where
    none_given : [] ≡ (request.id.call, request.bytes) ∷ next.calls → ⊥
    none_given same = cc
plan_in_slot (copy.PageWrite own) entries taking read plan next request ready other was gives = absurd (other own refl)
plan_in_slot _ entries taking read plan next request ready other was gives = (was, refl, λ r. refl, λ r. refl, λ r. refl, λ r. refl)

pub copy_on : (catalog : List Image) (source : Image) (pages : Pages) (made : Copying) (next : Planned) → KeepsCopy catalog source pages made
    → KeepsCopy catalog source pages (record made { stage = copy_with made.stage next })
copy_on catalog source pages made next k = grind arith

asked_with : (stage : CopyStage) (next : Planned) (plan : Planned) (request : Asked) (is : (r : Option Asked) → request_in_slot (copy_with stage next) r ≡ r)
    (phases : List Phase) (bodies : List (List ℕ)) (store : Store) (beliefs : List Belief) (running : Option Running) (target : ℕ) (source : Image) (page : Option Place)
    → request.id.slot ≡ target → IsAskedIn (copy_with stage next) phases bodies store beliefs running target source page (Some request)
asked_with (copy.Format own) next plan request is phases bodies store beliefs running target source page on = on
asked_with copy.Pass next plan request is phases bodies store beliefs running target source page on = on
asked_with (copy.Close own header tables) next plan request is phases bodies store beliefs running target source page on = on
asked_with _ next plan request is phases bodies store beliefs running target source page on =
    absurd (let no : None ≡ Some request = is (Some request) in cc)

-- the image that is opened
its_stage : (stage : CopyStage) (p : Planned) (pages : Pages) (i : Image) → image_in_stage (with_plan (stage_in_slot stage) p) pages ≡ Some i
    → (header : Header) × (tables : List Listed) × (plan : Planned) × (stage ≡ copy.Close plan header tables) × (i ≡ image_of header pages tables)
its_stage stage p pages i is = grind arith

module _ (quiet : QuietSteps) (gates : GateSteps) (files_of : FileLaws) (repeats : MergedRepeats) (follows : CatalogFollows) (making : MakingLaws)
    (old new : CoreView) (merge : merger.Running) (made next : Copying) (ticket : ℕ) (request : Asked) (asked : List (Option Asked)) (bodies files : List (List ℕ))
    (s : AsksForMerged old merge made ticket (Call request) request next new) (b : Believes old asked bodies files) where
  abbrev history : History
  history = history_of old

  abbrev target : ℕ
  target = merge.slot

  abbrev running : Option Running
  running = old.dumper.running

  abbrev asked_now : List (Option Asked)
  asked_now = slice_set asked 1 (Some request)

  abbrev last : ℕ
  last = old.numbers.serial

  u : IsLiveOn old.base history old.catalog old.grows old.memory old.phases asked bodies last b.store b.dump b.beliefs running
  u = b.knows.is_live s.merges.rest.stands

  k : IsCopyOfSource old.phases asked bodies last b.store b.beliefs running merge.slot merge.source made
  k = subst (IsMergeAt old.phases asked bodies last b.store b.beliefs running merge.slot merge.source) s.merges.doing
      (subst (λ m. IsMergeOn old.phases asked bodies last b.store b.beliefs running m) s.merges.was (b.knows.merging s.merges.rest.stands).is)

  c : IsCopyOn old.phases asked bodies last b.store b.beliefs running target k.repeats.image made
  c = k.copy

  abbrev source : Image
  source = k.repeats.image

  asks : Asks made request next
  asks = s.merges.steps.0

  abbrev later : Copying
  later = record made { stage = copy_with made.stage asks.next }

  free : slice_get asked 1 ≡ Some None
  free = free_there asked 1 (ap (λ ids. slice_get ids 1) b.knows.out ∙ s.free)

  none : c.request ≡ None
  none = same_Some c.request None (sym c.own ∙ free)

  -- no page is being written: that would be a request that is out
  none_written : (own : Planned) → made.stage ≡ copy.PageWrite own → ⊥
  none_written own is = subst (λ st. IsAskedIn st old.phases bodies b.store b.beliefs running target source made.taking None) is
      (subst (IsAskedIn made.stage old.phases bodies b.store b.beliefs running target source made.taking) none c.asked_in)

  its : (plan_of (stage_in_slot made.stage) ≡ Some asks.plan) × (stage_in_slot (copy_with made.stage asks.next) ≡ with_plan (stage_in_slot made.stage) asks.next)
      × ((r : Option Asked) → request_in_slot (copy_with made.stage asks.next) r ≡ r) × ((r : Option Asked) → request_in_slot made.stage r ≡ r)
      × ((r : Option Asked) → lanes_in_slot (copy_with made.stage asks.next) r ≡ []) × ((r : Option Asked) → lanes_in_slot made.stage r ≡ [])
  its = plan_in_slot made.stage made.entries made.taking made.read asks.plan asks.next request s.merges.sound.ready none_written asks.was asks.gives

  abbrev order : ImageOrder
  order = order_of_slot target made.order.state

  slot_is : IsSlotFor (stage_in_slot made.stage) order c.pages c.phase (file_at bodies target) None c.belief None
  slot_is = subst (λ r. IsSlotFor (stage_in_slot made.stage) order c.pages c.phase (file_at bodies target) r c.belief None) (its.3 c.request ∙ none)
      (subst (λ lanes. IsSlotFor (stage_in_slot made.stage) order c.pages c.phase (body_written (file_at bodies target) lanes) (request_in_slot made.stage c.request) c.belief None) (its.5 c.request) c.slot_is)

  on : request.id.slot ≡ target
  on = asks.gives.slot ∙ plan_on (stage_in_slot made.stage) order c.pages c.phase (file_at bodies target) None c.belief None asks.plan its.0 slot_is

  asked_on : (is_ready c.phase request.id.call ≡ true)
      × AsksOn (with_plan (stage_in_slot made.stage) asks.next) order c.pages c.phase (file_at bodies target) request c.belief None
  asked_on = asks_on (stage_in_slot made.stage) order c.pages c.phase (file_at bodies target) c.belief None asks.plan asks.next request its.0 asks.gives slot_is

  abbrev may : MayAsk old.phases asked 1 request
  may = record {
    free = free;
    phase = c.phase;
    waits = record { is = ap (slice_get old.phases) on ∙ c.phase_is; ready = asked_on.0 };
  }

  -- the merge, with what is believed of its slot
  merge_with : (belief_now : Belief) (then : List Belief) → IsChangedAt b.beliefs target belief_now then
      → IsSlotFor (with_plan (stage_in_slot made.stage) asks.next) order c.pages c.phase (file_at bodies target) (Some request) belief_now None
      → ((i : Image) → image_in belief_now ≡ Some i → IsNeededIn b.store i → ⊥)
      → IsCopyOfSource old.phases asked_now bodies last b.store then running merge.slot merge.source later
  merge_with belief_now then changed slot_now unneeded = record {
    repeats = record {
      image = source;
      source = (let x = k.repeats.source in record {
        is = x.is;
        work = x.work;
        serial = x.serial;
        stands = x.stands;
        checkpoint = x.checkpoint;
        pages = x.pages;
        restorable = x.restorable;
        some = x.some;
        slot = x.slot;
        kept = changed.others x.slot x.apart ∙ x.kept;
        spared = x.spared;
        apart = x.apart;
        held = x.held;
      });
      slot = record {
        within = k.repeats.slot.within;
        spared = k.repeats.slot.spared;
        unneeded = λ i has. unneeded i (sym (ap (λ o. option_and_then image_in o) changed.there) ∙ has);
      };
      opening = λ slot j opens apart. k.repeats.opening slot j (sym (changed.others slot apart) ∙ opens) apart;
    };
    order = k.order;
    copy = record {
      pages = c.pages;
      keeps = copy_on b.store.catalog source c.pages made asks.next c.keeps;
      files = filed_with made.stage asks.next made.order source made.entries c.pages c.files;
      serial = c.serial;
      other = c.other;
      above = c.above;
      others = λ slot j has apart. c.others slot j (sym (ap (λ o. option_and_then image_in o) (changed.others slot apart)) ∙ has) apart;
      phase = c.phase;
      phase_is = c.phase_is;
      belief = belief_now;
      belief_is = changed.there;
      request = Some request;
      own = set_same asked 1 None (Some request) free;
      asked_in = asked_with made.stage asks.next asks.plan request its.2 old.phases bodies b.store then running target source made.taking on;
      slot_is = subst (λ lanes. IsSlotFor (stage_in_slot (copy_with made.stage asks.next)) order c.pages c.phase (body_written (file_at bodies target) lanes)
          (request_in_slot (copy_with made.stage asks.next) (Some request)) belief_now None) (sym (its.4 (Some request)))
          (subst (λ r. IsSlotFor (stage_in_slot (copy_with made.stage asks.next)) order c.pages c.phase (file_at bodies target) r belief_now None) (sym (its.2 (Some request)))
          (subst (λ st. IsSlotFor st order c.pages c.phase (file_at bodies target) (Some request) belief_now None) (sym its.1) slot_now));
    };
  }

  -- the new core, with these beliefs
  believes_with : (belief_now : Belief) (then : List Belief) → IsChangedAt b.beliefs target belief_now then
      → HasStore old.base history old.phases asked_now bodies b.store b.dump then
      → ((i : Image) → HasIt c.belief i ↔ HasIt belief_now i) → ((i : Image) → image_in belief_now ≡ Some i → i.header.serial ≤ last)
      → ((i : Image) → image_in belief_now ≡ Some i → (image_in c.belief ≡ Some i) ⊎ MakesOther running i.header.serial)
      → IsSlotFor (with_plan (stage_in_slot made.stage) asks.next) order c.pages c.phase (file_at bodies target) (Some request) belief_now None
      → ((i : Image) → image_in belief_now ≡ Some i → IsNeededIn b.store i → ⊥) → Believes new asked_now bodies files
  believes_with belief_now then changed has same few other slot_now unneeded =
      believes_parts new old.base history old.catalog old.grows old.memory old.phases last running (Some (record merge { doing = copying later }))
      (record {
        base_is = s.merges.rest.base;
        history_is = s.merges.rest.history;
        places_is = s.merges.catalog;
        grows_is = s.merges.rest.grows;
        memory_is = s.merges.rest.memory;
        phases_is = s.merges.phases;
        last_is = s.merges.serial;
        running_is = s.merges.rest.dumper;
        merger_is = s.merges.is ∙ ap (λ x. Some (record merge { doing = copying x })) asks.is;
        closed = s.merges.rest.closed;
      })
      asked_now bodies files b.store b.dump then (λ is. b.knows.sure (sym s.merges.rest.committing ∙ is)) b.knows.count
      (ids_set asked 1 (Some request) ∙ ap (λ ids. slice_set ids 1 (Some request.id)) b.knows.out ∙ sym s.outs) has
      (use_then follows making old.base history old.catalog old.grows old.memory old.phases asked bodies last b.store b.dump b.beliefs then running target c.belief belief_now request
      u free on c.belief_is changed same few other k.repeats.slot.spared s.merges.rest.makes)
      (record { spelled = (b.knows.merging s.merges.rest.stands).spelled; is = merge_with belief_now then changed slot_now unneeded })

  few_of : (i : Image) → image_in c.belief ≡ Some i → i.header.serial ≤ last
  few_of i has = u.used.slots target i (ap (λ o. option_and_then image_in o) c.belief_is ∙ has)

  unneeded_of : (i : Image) → image_in c.belief ≡ Some i → IsNeededIn b.store i → ⊥
  unneeded_of i has = k.repeats.slot.unneeded i (ap (λ o. option_and_then image_in o) c.belief_is ∙ has)

  -- ---- a quiet call

  quietly : AsksQuietly (with_plan (stage_in_slot made.stage) asks.next) order c.pages c.phase (file_at bodies target) request c.belief None → Believes new asked_now bodies files
  quietly q = believes_with c.belief b.beliefs (unchanged_at b.beliefs target c.belief c.belief_is)
      (quiet.asks old.base history old.phases asked bodies b.store b.dump b.beliefs 1 request may (record { opens = q.opens; closes = q.closes }) b.has)
      (λ i. (λ has. has, λ has. has)) few_of (λ i has. inl has) q.slot_is unneeded_of

  -- ---- the gate of an image that nobody needs is closed

  closes_it : AsksToClose (with_plan (stage_in_slot made.stage) asks.next) order c.pages c.phase (file_at bodies target) request c.belief None → Believes new asked_now bodies files
  closes_it q =
      let i = q.image in
      let kept : slice_get b.beliefs target ≡ Some (Kept i) = c.belief_is ∙ ap Some q.kept in
      let has_i : image_in c.belief ≡ Some i = ap image_in q.kept in
      believes_with (Closing i) (with_belief b.beliefs target (Closing i)) (changed_by b.beliefs target c.belief (Closing i) c.belief_is)
      (subst (λ x. HasStore old.base history old.phases asked_now bodies b.store b.dump (with_belief b.beliefs x (Closing i))) on
      ((gates old.base history old.phases asked bodies).closes b.store b.dump b.beliefs 1 request i (record {
        may = may;
        none = none_at asked old request.id.slot b.knows.out s.apart;
        call = q.call;
        phase = q.whole;
        belief = ap (slice_get b.beliefs) on ∙ kept;
        unneeded = unneeded_of i has_i;
      }) b.has))
      (λ j. (λ has. to_closing j has, λ has. to_kept j has)) (λ j has. few_of j (has_i ∙ has)) (λ j has. inl (has_i ∙ has)) q.slot_is (λ j has. unneeded_of j (has_i ∙ has))
    where
      to_closing : (j : Image) → HasIt c.belief j → HasIt (Closing q.image) j
      to_closing j (inl is) = inr (let same : Kept q.image ≡ Kept j = sym q.kept ∙ is in cc)
      to_closing j (inr is) = absurd (let no : Kept q.image ≡ Closing j = sym q.kept ∙ is in cc)

      to_kept : (j : Image) → HasIt (Closing q.image) j → HasIt c.belief j
      to_kept j given = grind arith

  -- ---- the gate of the merged image is opened

  module _ (q : AsksToOpen (with_plan (stage_in_slot made.stage) asks.next) order c.pages c.phase (file_at bodies target) request c.belief None) where
    abbrev i : Image
    i = q.image

    staged : (header : Header) × (tables : List Listed) × (plan : Planned) × (made.stage ≡ copy.Close plan header tables) × (i ≡ image_of header c.pages tables)
    staged = its_stage made.stage asks.next c.pages i q.its

    filed : IsFiled made.order source made.entries c.pages staged.0 staged.1
    filed = subst (λ stage. IsFiledIn stage made.order source made.entries c.pages) staged.3 c.files

    serial_is : i.header.serial ≡ made.order.serial
    serial_is = ap (λ (x : Image). x.header.serial) staged.4 ∙ ap (λ h. h.serial) filed.numbers

    kind_is : i.header.kind ≡ Merged
    kind_is = ap (λ (x : Image). x.header.kind) staged.4 ∙ ap (λ h. h.kind) filed.numbers

    parent_is : i.header.parent ≡ 0
    parent_is = ap (λ (x : Image). x.header.parent) staged.4 ∙ ap (λ h. h.parent) filed.numbers

    stands_is : i.header.stands_for ≡ source.header.stands_for
    stands_is = ap (λ (x : Image). x.header.stands_for) staged.4 ∙ ap (λ h. h.stands_for) filed.numbers ∙ ap (λ x. x.stands_for) k.order.0 ∙ k.repeats.source.stands

    there : Contains b.store.catalog source
    there = (b.has.slots.catalog source).1 (inl (contains_at b.beliefs k.repeats.source.slot (Kept source) k.repeats.source.kept))

    tables_are : HaveTables b.store.catalog
    tables_are j member = ((b.knows.merging s.merges.rest.stands).spelled j member).1.table

    closed_at : slice_get b.beliefs target ≡ Some Closed
    closed_at = c.belief_is ∙ ap Some q.closed

    -- no image of the catalog has its serial
    alone : (j : Image) → Contains b.store.catalog j → j.header.serial ≢ i.header.serial
    alone j member same =
        let at = stands_at j member in
        elim (cases_eq at.0 target) [
          | inl its ↦ (let no : None ≡ Some j = sym (ap (λ o. option_and_then image_in o) (ap (slice_get b.beliefs) its ∙ closed_at)) ∙ at.1 in cc)
          | inr differs ↦ c.others at.0 j at.1 differs (same ∙ serial_is)
        ]
      where
        stands_at : (j : Image) → Contains b.store.catalog j → (slot : ℕ) × (image_at b.beliefs slot ≡ Some j)
        stands_at j member = elim ((b.has.slots.catalog j).0 member) [
          | inl kept ↦ (let at = place_in b.beliefs (Kept j) kept in (at.0, ap (λ o. option_and_then image_in o) at.1))
          | inr closing ↦ (let at = place_in b.beliefs (Closing j) closing in (at.0, ap (λ o. option_and_then image_in o) at.1))
        ]

    twin : IsMergedCopy b.store.catalog b.store.source i
    twin = record {
      source = source;
      running = k.repeats.source.is;
      repeats = subst (λ x. Repeats b.store.catalog source x) (sym staged.4)
          (repeats b.store.catalog source (image_of staged.0 c.pages staged.1)
          (files_of.merged b.store.catalog source c.pages made staged.2 staged.0 staged.1 staged.3 c.files c.keeps
          (record { stands = ap (λ x. x.stands_for) k.order.0 ∙ k.repeats.source.stands; checkpoint = ap (λ x. x.checkpoint) k.order.0 ∙ k.repeats.source.checkpoint })
          b.has.sound.serials tables_are there));
      restorable = λ other. (let no : Merged ≡ PreDump = sym kind_is ∙ other in cc);
      alone = parent_is;
      falls = (let less = b.has.sound.fall source there in let stands = stands_is in omega (arith, less, stands));
      serial = alone;
      above = λ j member stands. (let less = c.above j member (stands ∙ stands_is) in let serial = serial_is in omega (arith, less, serial));
    }

    opens_it : Believes new asked_now bodies files
    opens_it = believes_with (Opening i) (with_belief b.beliefs target (Opening i)) (changed_by b.beliefs target c.belief (Opening i) c.belief_is)
        (subst (λ x. HasStore old.base history old.phases asked_now bodies b.store b.dump (with_belief b.beliefs x (Opening i))) on
        ((gates old.base history old.phases asked bodies).opens b.store b.dump b.beliefs 1 request i (record {
          may = may;
          none = none_at asked old request.id.slot b.knows.out s.apart;
          call = q.call;
          image = subst (λ text. IsImage (gate ∷ text) i) (sym q.spelled ∙ ap (file_at bodies) (sym on)) (subst (λ x. IsImage (gate ∷ image_text x) x) (sym staged.4) filed.spelled);
          belief = ap (slice_get b.beliefs) on ∙ closed_at;
          alone = λ other j has. elim (cases_eq other target) [
            | inl its ↦ (let no : None ≡ Some j = sym (ap (λ o. option_and_then image_in o) (ap (slice_get b.beliefs) its ∙ closed_at)) ∙ has in absurd cc)
            | inr differs ↦ (λ same. c.others other j has differs (same ∙ serial_is))
          ];
        }) (inr (inl twin)) b.has))
        (λ j. (λ has. was_closed j has, λ has. is_opening j has))
        (λ j has. (let same = ap (λ (x : Image). x.header.serial) (same_Some i j has) in let serial = serial_is in let low = c.serial in omega (arith, same, serial, low)))
        (λ j has. inr (subst (MakesOther running) (sym serial_is ∙ ap (λ (x : Image). x.header.serial) (same_Some i j has)) c.other))
        q.slot_is
        (λ j has needed. alone j (needed_there b.store.catalog (jobs b.store) j needed) (ap (λ (x : Image). x.header.serial) (sym (same_Some i j has))))
      where
        was_closed : (j : Image) → HasIt c.belief j → HasIt (Opening i) j
        was_closed j (inl is) = absurd (let no : Closed ≡ Kept j = sym q.closed ∙ is in cc)
        was_closed j (inr is) = absurd (let no : Closed ≡ Closing j = sym q.closed ∙ is in cc)

        is_opening : (j : Image) → HasIt (Opening i) j → HasIt c.belief j
        is_opening j given = grind arith

  pub merger_asks_lem : Believes new asked_now bodies files
  merger_asks_lem = elim asked_on.1 [
    | inl q ↦ quietly q
    | inr more ↦ elim more [
      | inl q ↦ closes_it q
      | inr q ↦ opens_it q
    ]
  ]

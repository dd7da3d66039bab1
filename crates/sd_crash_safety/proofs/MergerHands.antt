-- An outcome of a call of the merged image is handed in: it failed, or the image goes on.
use Rattle.std.proofs.Common.{◌≡◌, ◌≢◌, ℕ, suc, ◌<◌, Bool, true, false, List, [], ◌∷◌, length, Option, Some, None, IfSome, slice_get, slice_set, refl, sym, ◌∙◌, ap, subst, inl, inr, arith}
use Rattle.std.proofs.lemmas.Bool.{cases_eq}
use Rattle.std.proofs.lemmas.Option.{same_Some, slice_get_within}
use Rattle.std.proofs.Math.Bool.{and-false}
use Rattle.sd_disk.specs.Contents.{file_at}
use Rattle.sd_image.specs.declared.header.Header.{Header}
use Rattle.sd_image.specs.Image.{Image, IsImage, gate, image_text}
use Rattle.sd_image.specs.Laws.{PageInFile}
use Rattle.sd_image.specs.Shows.{Holds}
use Rattle.sd_image.specs.Table.{Listed}
use Rattle.sd_gate.specs.declared.call.Call.{Call as GateCall}
use Rattle.sd_gate.specs.declared.call.Call.TheVariants.{Read}
use Rattle.sd_gate.specs.declared.phase.Phase.{Phase}
use Rattle.sd_gate.specs.declared.phase.Phase.TheVariants.{Whole, Writing}
use Rattle.sd_gate.specs.Calls.{is_done}
use Rattle.sd_gate.specs.Inspections.{nothing}
use Rattle.sd_gate.specs.Phases.{after, body_after, filled}
use Rattle.sd_gate.specs.Plans.{Planned, plan_after}
use Rattle.sd_gate.specs.Requests.{Asked, Made}
use Rattle.sd_gate.specs.Sequences.{Calls, data_place}
use Rattle.sd_merge.specs.declared.stage.Stage.{Stage as CopyStage}
use Rattle.sd_merge.specs.declared.stage.Stage.TheVariants as copy
use Rattle.sd_merge.specs.Copying.{Copying, IsReadyFor, PlanGoesOn, plan_of as copy_plan, stage_after as copy_after}
use Rattle.sd_merge.specs.Copying as copies_of
use Rattle.sd_merge.specs.Files.{FileLaws, IsFiledIn}
use Rattle.sd_merge.specs.Merger.{copying}
use Rattle.sd_merge.specs.Merger as merger
use Rattle.sd_merge.specs.Merging.{KeepsCopy, MergeLaws, ReadsSource}
use Rattle.sd_rounds.specs.declared.image_order.ImageOrder.{ImageOrder}
use Rattle.sd_rounds.specs.declared.stage.Stage.TheVariants.{Format, Pass as PassStage, Close}
use Rattle.sd_rounds.specs.Dumper.{Running}
use Rattle.sd_rounds.specs.Making.{plan_of, stage_after}
use Rattle.sd_rounds.specs.MakingLaws.{MakingLaws}
use Rattle.sd_writing.specs.Files.{Pages, image_of}
use Rattle.sd_writing.specs.Entries.{ImageEntry, Place, data_pages}
use Rattle.sd_image.specs.declared.header.Kind.TheVariants.{Merged}
use Rattle.sd_store_laws.specs.Beliefs.{Belief, Closed, Kept, Opening}
use Rattle.sd_store_laws.specs.Below.{StepsGive}
use Rattle.sd_store_laws.specs.Cut.{CutHoldsTheSame}
use Rattle.sd_store_laws.specs.LiveImages.{CatalogFollows, IsLiveCatalog}
use Rattle.sd_store_laws.specs.Gates.{IsBelievedAs, MayBelieve}
use Rattle.sd_store_laws.specs.Needs.{NeedsNoMore}
use Rattle.sd_store_laws.specs.SlotSteps.{ClosingRetires}
use Rattle.sd_store_laws.specs.Steps.{StepsKeep}
use Rattle.sd_store_laws.specs.Store.{Store}
use Rattle.sd_crash_safety.specs.Believes.{Believes, HasStore}
use Rattle.sd_crash_safety.specs.Calls.{WasLookedAt}
use Rattle.sd_crash_safety.specs.DumperOutcomes.{LeavesCatalog, closes_for_sure, is_being_closed}
use Rattle.sd_crash_safety.specs.GateSteps.{GateSteps}
use Rattle.sd_crash_safety.specs.LiveImages.{IsFilledSlot, IsLiveOn, IsSlotFor, body_written}
use Rattle.sd_crash_safety.specs.Knows.{SeesStore}
use Rattle.sd_crash_safety.specs.MergerOutcomes.{MergeGoesDown, MergedGoesOn, OutcomeIsBelieved}
use Rattle.sd_crash_safety.specs.Merges.{IsAskedIn, IsCopyOfSource, IsCopyOn, IsMergeAt, IsMergeOn, IsReadOn, IsWriteOn, lanes_in_slot, order_of_slot, request_in_slot, stage_in_slot}
use Rattle.sd_crash_safety.specs.declared.standing.Standing.TheVariants as standing
use Rattle.sd_crash_safety.specs.StoreSteps.{QuietSteps}
use Rattle.sd_crash_safety.specs.View.{CoreView, history_of}
use Rattle.sd_crash_safety.proofs.HandsImage.{SlotGoesOn, calls_of_done, hands_slot}
use Rattle.sd_crash_safety.proofs.HandsLaw.{file_set, opening_before}
use Rattle.sd_crash_safety.proofs.HandsSlot.{belief_after, closed_exact}
use Rattle.sd_merge.proofs.MergingLemmas.{stays as copy_stays}
use Rattle.sd_crash_safety.proofs.MergeStays.{holds_same, slots_at}
use Rattle.sd_crash_safety.proofs.MergerOutcome.{SlotHandedIn, asked_then, believes_handed, bodies_then, count_handed, has_handed, ids_handed, others_handed, phases_then, slot_handed, store_same, use_handed}
use Rattle.sd_crash_safety.proofs.PageTold.{page_told}
use Rattle.sd_store_laws.proofs.SlotSteps.{set_other}
use Rattle.sd_crash_safety.proofs.Places.{body_other, set_count, set_same}

-- ---- it failed

pub fails_lem : QuietSteps → (old new : CoreView) (made : Made) (phase : Phase) → MergeGoesDown old made phase new → OutcomeIsBelieved old new made
fails_lem quiet old new made phase g asked bodies files at told b = record {
  store = b.store;
  dump = b.dump;
  beliefs = b.beliefs;
  has = subst (λ x. HasStore x (history_of new) new.phases (asked_then asked) (bodies_then bodies made) b.store b.dump b.beliefs) (sym g.base)
      (subst (λ h. HasStore old.base h new.phases (asked_then asked) (bodies_then bodies made) b.store b.dump b.beliefs) (sym g.history)
      (subst (λ p. HasStore old.base (history_of old) p (asked_then asked) (bodies_then bodies made) b.store b.dump b.beliefs) (sym g.outcome.phases)
      (has_handed old new made phase asked bodies files g.outcome at b quiet)));
  knows = record {
    count = count_handed old new made phase asked bodies files g.outcome at b ∙ ap length (sym g.outcome.phases);
    out = ids_handed old new made phase asked bodies files g.outcome at b;
    sees = subst (λ o. IfSome o (SeesStore files new.phases (asked_then asked))) (sym g.closed) tt;
    sure = λ is. b.knows.sure (sym g.committing ∙ is);
    is_live = λ stands. absurd (let no : standing.Down ≡ standing.Open = sym g.down ∙ stands in cc);
    merging = λ stands. absurd (let no : standing.Down ≡ standing.Open = sym g.down ∙ stands in cc);
  };
}

-- ---- the stage in its slot

-- no page is read or written
abbrev IsOwn : CopyStage → Type 0
IsOwn (copy.PageRead plan) = ⊥
IsOwn (copy.PageWrite plan) = ⊥
IsOwn _ = Unit {0}

own_plan : (stage : CopyStage) (plan : Planned) → IsOwn stage → copy_plan stage ≡ Some plan → plan_of (stage_in_slot stage) ≡ Some plan
own_plan stage plan own was = grind arith

own_after : (stage : CopyStage) (next : Planned) (calls : Calls) → IsOwn stage → stage_in_slot (copy_after stage next calls) ≡ stage_after Merged (stage_in_slot stage) next calls
own_after stage next calls own = grind arith

own_request : (stage : CopyStage) (r : Option Asked) → IsOwn stage → request_in_slot stage r ≡ r
own_request stage r own = grind arith

no_request : (stage : CopyStage) → request_in_slot stage None ≡ None
no_request stage = grind arith

own_lanes : (stage : CopyStage) (r : Option Asked) → IsOwn stage → lanes_in_slot stage r ≡ []
own_lanes stage r own = grind arith

-- a body is as it is where nothing is out
none_written : (stage : CopyStage) (body : List ℕ) → body_written body (lanes_in_slot stage None) ≡ body
none_written stage body = grind arith

own_asked : (stage : CopyStage) (phases : List Phase) (bodies : List (List ℕ)) (store : Store) (beliefs : List Belief) (running : Option Running) (target : ℕ) (source : Image) (page : Option Place)
    (request : Asked) → IsOwn stage → IsAskedIn stage phases bodies store beliefs running target source page (Some request) → request.id.slot ≡ target
own_asked stage phases bodies store beliefs running target source page request own is = grind arith

none_asked : (stage : CopyStage) (next : Planned) (calls : Calls) (phases : List Phase) (bodies : List (List ℕ)) (store : Store) (beliefs : List Belief) (running : Option Running) (target : ℕ)
    (source : Image) (page : Option Place) → IsOwn stage → IsAskedIn (copy_after stage next calls) phases bodies store beliefs running target source page None
none_asked stage next calls phases bodies store beliefs running target source page own = grind arith

own_known : (stage : CopyStage) (entries : List ImageEntry) (taking : Option Place) (read : Option (List ℕ)) (plan : Planned) → IsOwn stage → IsReadyFor entries taking read stage
    → copy_plan stage ≡ Some plan → plan.awaits ≡ nothing
own_known stage entries taking read plan own ready was = grind arith

-- a slot that is formatted has no pages yet
own_empty : (stage : CopyStage) (entries : List ImageEntry) (taking : Option Place) (read : Option (List ℕ)) (own : Planned) → IsReadyFor entries taking read stage → stage_in_slot stage ≡ Format own → entries ≡ []
own_empty stage entries taking read own ready is = grind arith

-- a body that is closed
own_closes : (stage : CopyStage) (own : Planned) (header : Header) (tables : List Listed) → stage_in_slot stage ≡ Close own header tables → stage ≡ copy.Close own header tables
own_closes (copy.Format p) own header tables is = absurd (let no : Format p ≡ Close own header tables = is in cc)
own_closes (copy.Close p h t) own header tables is = same is
  where
    same : Close p h t ≡ Close own header tables → copy.Close p h t ≡ copy.Close own header tables
    same e = cc
own_closes _ own header tables is = absurd (let no : PassStage ≡ Close own header tables = is in cc)

own_tells : (stage : CopyStage) (catalog : List Image) (source : Image) (taking : Option Place) (made : Made) → IsOwn stage → ReadsSource stage catalog source taking made
own_tells stage catalog source taking made own = grind arith

no_pages : (pages : Pages) → length pages ≡ 0 → pages ≡ []
no_pages [] none = refl
no_pages (p ∷ pages) none = absurd (let no : suc (length pages) ≡ 0 = none in omega (arith, no))

-- ---- the image goes on

module _ (quiet : QuietSteps) (making : MakingLaws) (merges : MergeLaws) (files_of : FileLaws)
    (old new : CoreView) (merge : merger.Running) (made : Copying) (next : Copying) (call : Made) (phase : Phase) (s : MergedGoesOn old merge made call phase next new)
    (asked : List (Option Asked)) (bodies files : List (List ℕ)) (at : slice_get asked 1 ≡ Some (Some call.request)) (told : WasLookedAt old.phases bodies files call) (b : Believes old asked bodies files) where
  abbrev target : ℕ
  target = merge.slot

  abbrev running : Option Running
  running = old.dumper.running

  abbrev last : ℕ
  last = old.numbers.serial

  k : IsCopyOfSource old.phases asked bodies last b.store b.beliefs running merge.slot merge.source made
  k = subst (IsMergeAt old.phases asked bodies last b.store b.beliefs running merge.slot merge.source) s.doing
      (subst (λ m. IsMergeOn old.phases asked bodies last b.store b.beliefs running m) s.was (b.knows.merging s.rest.stands).is)

  c : IsCopyOn old.phases asked bodies last b.store b.beliefs running target k.repeats.image made
  c = k.copy

  abbrev source : Image
  source = k.repeats.image

  go : PlanGoesOn made call next
  go = s.hands

  abbrev nplan : Planned
  nplan = plan_after go.plan call

  abbrev stage_then : CopyStage
  stage_then = copy_after made.stage nplan nplan.calls

  abbrev order : ImageOrder
  order = order_of_slot target made.order.state

  out_is : c.request ≡ Some call.request
  out_is = same_Some c.request (Some call.request) (sym c.own ∙ at)

  asked_was : IsAskedIn made.stage old.phases bodies b.store b.beliefs running target source made.taking (Some call.request)
  asked_was = subst (IsAskedIn made.stage old.phases bodies b.store b.beliefs running target source made.taking) out_is c.asked_in

  -- with the store and the beliefs as they are then, of which the slot is believed to be so
  module _ (slot : ℕ) (belief_then : Belief) (h : SlotHandedIn old new call phase asked bodies files b slot belief_then) (tells : ReadsSource made.stage b.store.catalog source made.taking call)
      (source_there : slice_get h.later k.repeats.source.slot ≡ slice_get b.beliefs k.repeats.source.slot)
      (opens : (j : Image) → slice_get h.later slot ≡ Some (Opening j) → slice_get b.beliefs slot ≡ Some (Opening j))
      (phase_now : Phase) (phase_there : slice_get (phases_then old call phase) target ≡ Some phase_now) (belief_now : Belief) (belief_there : slice_get h.later target ≡ Some belief_now)
      (silent : IsAskedIn stage_then (phases_then old call phase) (bodies_then bodies call) h.store h.later running target source made.taking None)
      (slot_now : IsSlotFor (stage_in_slot stage_then) order c.pages phase_now (file_at (bodies_then bodies call) target) None belief_now None) where
    keeps_now : KeepsCopy h.store.catalog source c.pages next
    keeps_now = copy_stays b.store.catalog h.store.catalog source c.pages next (h.still source k.repeats.source.is).holds
        (merges.hands b.store.catalog source c.pages made next call s.hands s.sound.ready tells c.keeps)

    abbrev later : Copying
    later = record made { read = copies_of.read_after made.stage call made.read; stage = stage_then }

    copying_now : IsCopyOfSource (phases_then old call phase) (asked_then asked) (bodies_then bodies call) last h.store h.later running merge.slot merge.source later
    copying_now = record {
      repeats = record {
        image = source;
        source = (let x = k.repeats.source in record {
          is = h.source ∙ x.is;
          work = h.work ∙ x.work;
          serial = x.serial;
          stands = x.stands;
          checkpoint = x.checkpoint;
          pages = x.pages;
          restorable = x.restorable;
          some = x.some;
          slot = x.slot;
          kept = source_there ∙ x.kept;
          spared = x.spared;
          apart = x.apart;
          held = λ page lists. (let it = x.held page lists in (it.0, (h.still source x.is).holds page.0 page.1 it.0 it.1));
        });
        slot = record {
          within = (let within = k.repeats.slot.within in let count = set_count old.phases call.request.id.slot (after phase call.request.id.call (is_done call.answer)) in omega (arith, within, count));
          spared = k.repeats.slot.spared;
          unneeded = λ i has needed. k.repeats.slot.unneeded i (h.images target i has) (h.needs i needed);
        };
        opening = λ at j is apart. elim (cases_eq at slot) [
          | inl its ↦ k.repeats.opening at j (ap (slice_get b.beliefs) its ∙ opens j (ap (slice_get h.later) (sym its) ∙ is)) apart
          | inr differs ↦ k.repeats.opening at j (sym (h.others at differs) ∙ is) apart
        ];
      };
      order = k.order;
      copy = record {
        pages = c.pages;
        keeps = subst (KeepsCopy h.store.catalog source c.pages) go.is keeps_now;
        files = subst (λ (x : Copying). IsFiledIn x.stage x.order source x.entries c.pages) go.is (files_of.hands source c.pages made next call s.hands c.files);
        serial = c.serial;
        other = c.other;
        above = λ j member stands. c.above j (h.within j member) stands;
        others = λ at j has apart. c.others at j (h.images at j has) apart;
        phase = phase_now;
        phase_is = phase_there;
        belief = belief_now;
        belief_is = belief_there;
        request = None;
        own = set_same asked 1 (Some call.request) None at;
        asked_in = silent;
        slot_is = subst (λ body. IsSlotFor (stage_in_slot stage_then) order c.pages phase_now body (request_in_slot stage_then None) belief_now None)
            (sym (none_written stage_then (file_at (bodies_then bodies call) target)))
            (subst (λ r. IsSlotFor (stage_in_slot stage_then) order c.pages phase_now (file_at (bodies_then bodies call) target) r belief_now None) (sym (no_request stage_then)) slot_now);
      };
    }

    believes_copying : Believes new (asked_then asked) (bodies_then bodies call) files
    believes_copying = believes_handed old new call phase asked bodies files s.outcome s.rest s.serial b slot belief_then h (Some (record merge { doing = copying later }))
        (s.is ∙ ap (λ x. Some (record merge { doing = copying x })) go.is) copying_now at

  -- ---- a call in its slot

  module _ (own : IsOwn made.stage) where
    on : call.request.id.slot ≡ target
    on = own_asked made.stage old.phases bodies b.store b.beliefs running target source made.taking call.request own asked_was

    phase_same : c.phase ≡ phase
    phase_same = same_Some c.phase phase (sym c.phase_is ∙ ap (slice_get old.phases) (sym on) ∙ s.outcome.phase_is)

    slot_was : IsSlotFor (stage_in_slot made.stage) order c.pages phase (file_at bodies target) (Some call.request) c.belief None
    slot_was = grind arith

    calls_same : nplan.calls ≡ go.plan.calls
    calls_same = calls_of_done go.plan call (own_known made.stage made.entries made.taking made.read go.plan own s.sound.ready go.awaited.was) go.done

    empty : (plan : Planned) → stage_in_slot made.stage ≡ Format plan → c.pages ≡ []
    empty plan is = no_pages c.pages (c.keeps.count ∙ ap data_pages (own_empty made.stage made.entries made.taking made.read plan s.sound.ready is))

    closes : (plan : Planned) (header : Header) (tables : List Listed) → stage_in_slot made.stage ≡ Close plan header tables
        → (go.plan.calls ≢ []) × IsImage (gate ∷ image_text (image_of header c.pages tables)) (image_of header c.pages tables)
    closes plan header tables is = grind arith

    slot_then : SlotGoesOn (stage_after Merged (stage_in_slot made.stage) nplan nplan.calls) order c.pages phase (file_at bodies target) call.request c.belief None
    slot_then = hands_slot (stage_in_slot made.stage) order c.pages phase (file_at bodies target) call.request c.belief None go.plan nplan
        (own_plan made.stage go.plan own go.awaited.was) calls_same refl empty closes slot_was

    module _ (gates : GateSteps) (closing_retires : ClosingRetires) (keeps : StepsKeep) (gives : StepsGive) (needs : NeedsNoMore) (follows : CatalogFollows) (cut : CutHoldsTheSame) where
      abbrev belief_then : Belief
      belief_then = belief_after (closes_for_sure phase call.request.id.call) c.belief

      handed : SlotHandedIn old new call phase asked bodies files b target belief_then
      handed = slot_handed quiet gates making closing_retires keeps gives needs follows cut old new call phase asked bodies files s.outcome s.rest at b target on go.done k.repeats.slot.spared
          c.belief c.belief_is (stage_in_slot made.stage) (stage_after Merged (stage_in_slot made.stage) nplan nplan.calls) order c.pages go.plan (own_plan made.stage go.plan own go.awaited.was)
          (λ plan header tables is. (closes plan header tables is).0) slot_was slot_then s.catalog

      goes_on_in_slot : Believes new (asked_then asked) (bodies_then bodies call) files
      goes_on_in_slot = believes_copying target belief_then handed (own_tells made.stage b.store.catalog source made.taking call own)
          (handed.others k.repeats.source.slot k.repeats.source.apart)
          (λ j is. c.belief_is ∙ ap Some (opening_before (closes_for_sure phase call.request.id.call) c.belief j (same_Some belief_then (Opening j) (sym handed.there ∙ is))))
          (after phase call.request.id.call true)
          (ap (slice_get (phases_then old call phase)) (sym on) ∙ ap (λ d. slice_get (slice_set old.phases call.request.id.slot (after phase call.request.id.call d)) call.request.id.slot) go.done
          ∙ set_same old.phases call.request.id.slot phase (after phase call.request.id.call true) s.outcome.phase_is)
          belief_then handed.there (none_asked made.stage nplan nplan.calls (phases_then old call phase) (bodies_then bodies call) handed.store handed.later running target source made.taking own)
          (subst (λ st. IsSlotFor st order c.pages (after phase call.request.id.call true) (file_at (bodies_then bodies call) target) None belief_then None) (sym (own_after made.stage nplan nplan.calls own))
          (subst (λ body. IsSlotFor (stage_after Merged (stage_in_slot made.stage) nplan nplan.calls) order c.pages (after phase call.request.id.call true) body None belief_then None) (sym body_there) slot_then.slot_is))
        where
          body_there : file_at (bodies_then bodies call) target ≡ body_after (file_at bodies target) call.request.id.call call.request.bytes
          body_there =
              let within : call.request.id.slot < length bodies = (let long = slice_get_within old.phases call.request.id.slot phase s.outcome.phase_is in let stored = b.has.stored in omega (arith, long, stored)) in
              ap (file_at (bodies_then bodies call)) (sym on) ∙ file_set bodies call.request.id.slot (body_after (file_at bodies call.request.id.slot) call.request.id.call call.request.bytes) within
              ∙ ap (λ x. body_after (file_at bodies x) call.request.id.call call.request.bytes) on

  -- ---- a page of the source was read

  module _ (in_file : PageInFile) (own : Planned) (is : made.stage ≡ copy.PageRead own) where
    r : IsReadOn old.phases bodies b.store b.beliefs running target source made.taking call.request
    r = subst (λ stage. IsAskedIn stage old.phases bodies b.store b.beliefs running target source made.taking (Some call.request)) is asked_was

    abbrev slot : ℕ
    slot = call.request.id.slot

    apart : target ≢ slot
    apart same = r.apart (sym same)

    -- what is left of the call
    looked : (x : GateCall) → x ≡ Read (data_place r.place) → (p : Phase) → p ≡ Whole → (done : Bool) → after p x done ≡ Whole
    looked x call_is p phase_is done = ap (λ y. after p y done) call_is ∙ phase_is

    same_body : body_after (file_at bodies slot) call.request.id.call call.request.bytes ≡ file_at bodies slot
    same_body = ap (λ x. body_after (file_at bodies slot) x call.request.bytes) r.call

    phase_whole : phase ≡ Whole
    phase_whole = same_Some phase Whole (sym s.outcome.phase_is ∙ r.phase_is)

    whole_then : slice_get (phases_then old call phase) slot ≡ Some Whole
    whole_then = set_same old.phases slot phase (after phase call.request.id.call (is_done call.answer)) s.outcome.phase_is ∙ ap Some (looked call.request.id.call r.call phase phase_whole (is_done call.answer))

    body_still : file_at (bodies_then bodies call) slot ≡ file_at bodies slot
    body_still = grind (arith, slice_get_within, file_set)

    not_closing : closes_for_sure phase call.request.id.call ≡ false
    not_closing = ap (λ p. closes_for_sure p call.request.id.call) phase_whole

    u : IsLiveOn old.base (history_of old) old.catalog old.grows old.memory old.phases asked bodies last b.store b.dump b.beliefs running
    u = b.knows.is_live s.rest.stands

    catalog_same : new.catalog ≡ old.catalog
    catalog_same = subst (λ sure. LeavesCatalog sure slot old.catalog new.catalog) not_closing s.catalog

    read_handed : SlotHandedIn old new call phase asked bodies files b slot (Kept r.image)
    read_handed = record {
      store = b.store;
      later = b.beliefs;
      has = has_handed old new call phase asked bodies files s.outcome at b quiet;
      is_live = use_handed making old.base (history_of old) old.catalog new.catalog old.grows old.memory last b.store b.store b.dump (slots_at old.phases bodies b.beliefs)
          (slots_at (phases_then old call phase) (bodies_then bodies call) b.beliefs) running asked slot call.request u at refl (record {
            count = set_count old.phases slot (after phase call.request.id.call (is_done call.answer));
            others = λ at_slot differs. others_handed old new call phase asked bodies files s.outcome at b b.beliefs at_slot differs refl;
            exact = λ p belief here of. subst (λ x. IsBelievedAs x (file_at (bodies_then bodies call) slot) belief) (same_Some Whole p (sym whole_then ∙ here))
                (r.image, same_Some belief (Kept r.image) (sym of ∙ r.kept), subst (λ body. IsImage (gate ∷ body) r.image) (sym body_still) r.spelled);
            images = λ at_slot i has. has;
          }) (store_same old.memory last running b.beliefs b.store) (subst (λ places. IsLiveCatalog places b.beliefs) (sym catalog_same) u.catalog) r.spared s.rest.makes;
      there = r.kept;
      others = λ at_slot differs. refl;
      images = λ at_slot i has. has;
      within = λ i member. member;
      source = refl;
      work = refl;
      needs = λ i needed. needed;
      still = λ x source_is. holds_same b.store.catalog x;
    }

    -- the bytes that came back are those of the page
    file_is : file_at files slot ≡ gate ∷ file_at bodies slot
    file_is = grind arith

    bytes_are : call.request.bytes ≡ r.bytes
    bytes_are = page_told in_file (file_at files slot) r.image r.place r.bytes call (subst (λ file. IsImage file r.image) (sym file_is) r.spelled) r.stored r.call r.whole (told.told go.done)

    tells : ReadsSource made.stage b.store.catalog source made.taking call
    tells = subst (λ stage. ReadsSource stage b.store.catalog source made.taking call) (sym is) (λ page taken. (
      r.whole,
      subst (λ (x : Place). Holds b.store.catalog x.0 x.1 call.request.bytes source) (same_Some r.at page (sym r.taking ∙ taken))
          (subst (λ bytes. Holds b.store.catalog r.at.0 r.at.1 bytes source) (sym bytes_are) r.holds),
    ))

    none_left : nplan.calls ≡ []
    none_left = grind arith

    passes : stage_then ≡ copy.Pass
    passes = ap (copy_after made.stage nplan) none_left

    slot_filled : IsSlotFor PassStage order c.pages c.phase (file_at bodies target) None c.belief None
    slot_filled = subst (λ stage. IsSlotFor (stage_in_slot stage) order c.pages c.phase (body_written (file_at bodies target) (lanes_in_slot stage c.request)) (request_in_slot stage c.request) c.belief None) is c.slot_is

    goes_on_read : Believes new (asked_then asked) (bodies_then bodies call) files
    unfolding read_handed
    goes_on_read = believes_copying slot (Kept r.image) read_handed tells refl (λ j opens. opens)
        c.phase (set_other old.phases slot target (after phase call.request.id.call (is_done call.answer)) apart ∙ c.phase_is) c.belief c.belief_is
        (subst (λ stage. IsAskedIn stage (phases_then old call phase) (bodies_then bodies call) b.store b.beliefs running target source made.taking None) (sym passes) tt)
        (subst (λ stage. IsSlotFor (stage_in_slot stage) order c.pages c.phase (file_at (bodies_then bodies call) target) None c.belief None) (sym passes)
        (subst (λ body. IsSlotFor PassStage order c.pages c.phase body None c.belief None)
        (sym (body_other bodies slot target (body_after (file_at bodies slot) call.request.id.call call.request.bytes) apart)) slot_filled))

  -- ---- a page of the merged image was written

  module _ (own : Planned) (is : made.stage ≡ copy.PageWrite own) where
    write : IsWriteOn target own call.request
    write = subst (λ stage. IsAskedIn stage old.phases bodies b.store b.beliefs running target source made.taking (Some call.request)) is asked_was

    filled_was : IsFilledSlot c.pages c.phase (body_after (file_at bodies target) call.request.id.call call.request.bytes) c.belief
    filled_was = slot_full.0
      where
        slot_full : IsSlotFor PassStage order c.pages c.phase (body_after (file_at bodies target) call.request.id.call call.request.bytes) None c.belief None
        slot_full = subst (λ stage. IsSlotFor (stage_in_slot stage) order c.pages c.phase (body_written (file_at bodies target) (lanes_in_slot stage (Some call.request)))
            (request_in_slot stage (Some call.request)) c.belief None) is
            (subst (λ r. IsSlotFor (stage_in_slot made.stage) order c.pages c.phase (body_written (file_at bodies target) (lanes_in_slot made.stage r)) (request_in_slot made.stage r) c.belief None) out_is c.slot_is)

    same_phase : c.phase ≡ phase
    same_phase = same_Some c.phase phase (sym c.phase_is ∙ ap (slice_get old.phases) (sym write.on) ∙ s.outcome.phase_is)

    phase_written : slice_get (phases_then old call phase) target ≡ Some Writing
    phase_written = ap (slice_get (phases_then old call phase)) (sym write.on)
        ∙ set_same old.phases call.request.id.slot phase (after phase call.request.id.call (is_done call.answer)) s.outcome.phase_is
        ∙ ap Some (ap (λ d. after phase call.request.id.call d) go.done ∙ ap (λ x. after phase x true) write.call ∙ ap filled (sym same_phase) ∙ filled_was.fills)

    body_written_there : file_at (bodies_then bodies call) target ≡ body_after (file_at bodies target) call.request.id.call call.request.bytes
    body_written_there = grind (arith, slice_get_within, bodies_then, file_set)

    has_written : HasStore old.base (history_of old) (phases_then old call phase) (asked_then asked) (bodies_then bodies call) b.store b.dump b.beliefs
    has_written = has_handed old new call phase asked bodies files s.outcome at b quiet

    no_close : closes_for_sure phase call.request.id.call ≡ false
    no_close = ap (λ x. closes_for_sure phase x) write.call ∙ and-false (is_being_closed phase)

    catalog_still : new.catalog ≡ old.catalog
    catalog_still = subst (λ sure. LeavesCatalog sure call.request.id.slot old.catalog new.catalog) no_close s.catalog

    written_handed : SlotHandedIn old new call phase asked bodies files b target c.belief
    written_handed = record {
      store = b.store;
      later = b.beliefs;
      has = has_written;
      is_live = use_handed making old.base (history_of old) old.catalog new.catalog old.grows old.memory last b.store b.store b.dump (slots_at old.phases bodies b.beliefs)
          (slots_at (phases_then old call phase) (bodies_then bodies call) b.beliefs) running asked target call.request (b.knows.is_live s.rest.stands) at write.on (record {
            count = set_count old.phases call.request.id.slot (after phase call.request.id.call (is_done call.answer));
            others = λ at_slot differs. others_handed old new call phase asked bodies files s.outcome at b b.beliefs at_slot (λ same. differs (same ∙ write.on)) refl;
            exact = λ p belief here of. (let closed : belief ≡ Closed = same_Some belief Closed (sym of ∙ c.belief_is ∙ ap Some filled_was.closed) in
                subst (IsBelievedAs p (file_at (bodies_then bodies call) target)) (sym closed)
                (closed_exact p (file_at (bodies_then bodies call) target) (subst (MayBelieve p (file_at (bodies_then bodies call) target)) closed (has_written.believed.each target p belief here of))));
            images = λ at_slot i has. has;
          }) (store_same old.memory last running b.beliefs b.store) (subst (λ places. IsLiveCatalog places b.beliefs) (sym catalog_still) (b.knows.is_live s.rest.stands).catalog) k.repeats.slot.spared s.rest.makes;
      there = c.belief_is;
      others = λ at_slot differs. refl;
      images = λ at_slot i has. has;
      within = λ i member. member;
      source = refl;
      work = refl;
      needs = λ i needed. needed;
      still = λ x source_is. holds_same b.store.catalog x;
    }

    over : stage_then ≡ copy.Pass
    over = grind arith

    goes_on_written : Believes new (asked_then asked) (bodies_then bodies call) files
    unfolding written_handed
    goes_on_written = believes_copying target c.belief written_handed
        (subst (λ stage. ReadsSource stage b.store.catalog source made.taking call) (sym is) tt) refl (λ j opens. opens)
        Writing phase_written c.belief c.belief_is
        (subst (λ stage. IsAskedIn stage (phases_then old call phase) (bodies_then bodies call) b.store b.beliefs running target source made.taking None) (sym over) tt)
        (subst (λ stage. IsSlotFor (stage_in_slot stage) order c.pages Writing (file_at (bodies_then bodies call) target) None c.belief None) (sym over) (
          record { writes = refl; fills = refl; spelled = body_written_there ∙ filled_was.spelled; closed = filled_was.closed },
          refl,
          refl,
        ))

  pub goes_on_by : GateSteps → ClosingRetires → StepsKeep → StepsGive → NeedsNoMore → CatalogFollows → CutHoldsTheSame → PageInFile
      → (stage : CopyStage) → made.stage ≡ stage → Believes new (asked_then asked) (bodies_then bodies call) files
  goes_on_by gates closing_retires keeps gives needs follows cut in_file (copy.PageRead own) is = goes_on_read in_file own is
  goes_on_by gates closing_retires keeps gives needs follows cut in_file (copy.PageWrite own) is = goes_on_written own is
  goes_on_by gates closing_retires keeps gives needs follows cut in_file _ is =
      goes_on_in_slot (subst IsOwn (sym is) tt) gates closing_retires keeps gives needs follows cut

pub goes_on_lem : QuietSteps → GateSteps → MakingLaws → MergeLaws → FileLaws → ClosingRetires → StepsKeep → StepsGive → NeedsNoMore → CatalogFollows → CutHoldsTheSame → PageInFile
    → (old new : CoreView) (merge : merger.Running) (copy next : Copying) (made : Made) (phase : Phase) → MergedGoesOn old merge copy made phase next new → OutcomeIsBelieved old new made
goes_on_lem quiet gates making merges files_of closing_retires keeps gives needs follows cut in_file old new merge copy next made phase s asked bodies files at told b =
    goes_on_by quiet making merges files_of old new merge copy next made phase s asked bodies files at told b gates closing_retires keeps gives needs follows cut in_file copy.stage refl

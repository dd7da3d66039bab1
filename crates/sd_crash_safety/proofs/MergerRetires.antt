-- An outcome of a call on an image that the merger closes is handed in.
use Rattle.std.proofs.Common.{◌≡◌, ◌≢◌, ℕ, zero, suc, ◌+◌, ◌<◌, true, List, [], ◌∷◌, length, Option, Some, None, option_and_then, slice_get, slice_set, refl, sym, ◌∙◌, ap, subst, inl, inr, arith}
use Rattle.std.proofs.lemmas.Bool.{cases_eq, false≢true}
use Rattle.std.proofs.lemmas.Option.{same_Some, slice_get_within}
use Rattle.sd_disk.specs.Contents.{file_at}
use Rattle.sd_image.specs.declared.header.Header.{Header}
use Rattle.sd_image.specs.declared.header.Kind.TheVariants.{Merged}
use Rattle.sd_image.specs.Image.{Image}
use Rattle.sd_image.specs.Table.{Listed}
use Rattle.sd_gate.specs.declared.phase.Phase.{Phase}
use Rattle.sd_gate.specs.declared.phase.Phase.TheVariants.{Bare}
use Rattle.sd_gate.specs.declared.slot_state.SlotState.TheVariants.{Open as OpenSlot}
use Rattle.sd_gate.specs.Inspections.{nothing}
use Rattle.sd_gate.specs.Calls.{is_done}
use Rattle.sd_gate.specs.Laws.{Leads, PlansLead}
use Rattle.sd_gate.specs.Phases.{after, body_after, may_close}
use Rattle.sd_gate.specs.Plans.{Planned, begun, plan_after}
use Rattle.sd_gate.specs.Requests.{Asked, Made}
use Rattle.sd_gate.specs.Sequences.{Calls, closing_calls}
use Rattle.sd_merge.specs.declared.merge_progress.MergeProgress.{MergeProgress}
use Rattle.sd_merge.specs.declared.merge_progress.MergeProgress.TheVariants as progress
use Rattle.sd_merge.specs.declared.retired.Retired.{Retired}
use Rattle.sd_merge.specs.Merger.{EndsOne, GoesOnWith, HandsClosing, IsLastCall, Retiring, retiring}
use Rattle.sd_merge.specs.Merger as merger
use Rattle.sd_rounds.specs.declared.image_order.ImageOrder.{ImageOrder}
use Rattle.sd_rounds.specs.declared.stage.Stage.TheVariants.{Format, Close}
use Rattle.sd_rounds.specs.Dumper.{Running}
use Rattle.sd_rounds.specs.Making.{stage_after}
use Rattle.sd_rounds.specs.MakingLaws.{MakingLaws}
use Rattle.sd_store_laws.specs.Beliefs.{Belief, image_at, image_in}
use Rattle.sd_store_laws.specs.Below.{StepsGive}
use Rattle.sd_store_laws.specs.Cut.{CutHoldsTheSame}
use Rattle.sd_store_laws.specs.Gates.{IsBelievedAs}
use Rattle.sd_store_laws.specs.LiveImages.{CatalogFollows}
use Rattle.sd_store_laws.specs.Needs.{IsNeededIn, NeedsNoMore}
use Rattle.sd_store_laws.specs.SlotSteps.{ClosingRetires}
use Rattle.sd_store_laws.specs.Steps.{StepsKeep}
use Rattle.sd_store_laws.specs.Store.{Store}
use Rattle.sd_crash_safety.specs.Believes.{Believes}
use Rattle.sd_crash_safety.specs.DumperOutcomes.{closes_for_sure}
use Rattle.sd_crash_safety.specs.GateSteps.{GateSteps}
use Rattle.sd_crash_safety.specs.LiveImages.{AreExact, IsSlotFor, NoneAt}
use Rattle.sd_crash_safety.specs.MergerOutcomes.{OutcomeIsBelieved, RetiringGoesOn, goes_on_with}
use Rattle.sd_crash_safety.specs.Merges.{IsCutOn, IsListedOn, IsMergeAt, IsMergeOn, IsRetiredOn, IsRetiringOn, IsUnmerged, order_of_slot}
use Rattle.sd_crash_safety.specs.StoreSteps.{QuietSteps}
use Rattle.sd_crash_safety.specs.View.{CoreView}
use Rattle.sd_crash_safety.proofs.HandsImage.{SlotGoesOn, calls_of_done, hands_slot}
use Rattle.sd_crash_safety.proofs.HandsLaw.{file_set}
use Rattle.sd_crash_safety.proofs.HandsSlot.{belief_after}
use Rattle.sd_crash_safety.proofs.Leads.{leads_end, leads_head}
use Rattle.sd_crash_safety.proofs.MergerOutcome.{SlotHandedIn, asked_then, believes_handed, bodies_then, none_on, phases_then, slot_handed}
use Rattle.sd_store_laws.proofs.SlotSteps.{set_other}
use Rattle.sd_crash_safety.proofs.Places.{has_too, set_same}

-- ---- an image of the list begins to be closed

-- the gate of an image that is kept may be closed
image_closes : (phase : Phase) (body : List ℕ) (belief : Belief) (i : Image) → IsBelievedAs phase body belief → image_in belief ≡ Some i → may_close phase ≡ true
image_closes phase body belief i is has = grind arith

-- what is believed of a slot in which an image stands
believed_there : (beliefs : List Belief) (slot : ℕ) (i : Image) → image_at beliefs slot ≡ Some i → (belief : Belief) × (slice_get beliefs slot ≡ Some belief) × (image_in belief ≡ Some i)
believed_there beliefs slot i has = there (slice_get beliefs slot) refl has
  where
    there : (found : Option Belief) → slice_get beliefs slot ≡ found → option_and_then image_in found ≡ Some i
        → (belief : Belief) × (slice_get beliefs slot ≡ Some belief) × (image_in belief ≡ Some i)
    there None at none = absurd (let no : None ≡ Some i = none in cc)
    there (Some belief) at its = (belief, at, its)

abbrev pub begun_at : ℕ → List Retired → ℕ → Retired → Retiring
begun_at serial list ended one = record { serial = serial; list = list; ended = ended; plan = begun one.slot closing_calls nothing }

pub retired_begins : PlansLead → (phases : List Phase) (asked : List (Option Asked)) (bodies : List (List ℕ)) (store : Store) (beliefs : List Belief) (running : Option Running)
    → length beliefs ≡ length phases → AreExact phases asked bodies beliefs → slice_get asked 1 ≡ Some None
    → (serial : ℕ) (list : List Retired) (ended : ℕ) (one : Retired) → NoneAt asked one.slot → IsListedOn store beliefs running one
    → IsRetiredOn phases asked bodies store beliefs running (begun_at serial list ended one) one
retired_begins plans phases asked bodies store beliefs running count exact silent serial list ended one none l =
    let b = believed_there beliefs one.slot l.image l.has in
    let at = has_too beliefs phases one.slot b.0 (sym count) b.1 in
    let is = exact one.slot at.0 b.0 at.1 b.1 none in
    record {
      phase = at.0;
      phase_is = at.1;
      belief = b.0;
      belief_is = b.1;
      unneeded = λ i has needed. l.unneeded (subst (IsNeededIn store) (same_Some i l.image (sym has ∙ l.has)) needed);
      spared = l.spared;
      request = None;
      own = silent;
      asked_at = λ out is_out. absurd (let no : None ≡ Some out = is_out in cc);
      slot_is = (
        record { place = 0; on = refl; left = refl; leads = plans.retire at.0 (file_at bodies one.slot) (image_closes at.0 (file_at bodies one.slot) b.0 l.image is b.2); formatted = is },
        refl,
      );
    }

-- ---- the stage of its slot

still_formats : (plan next : Planned) (calls : Calls) → calls ≢ [] → stage_after Merged (Format plan) next calls ≡ Format next
still_formats plan next calls some = grind arith

-- after the end of a list is nothing
within_all : (list : List Retired) (end place : ℕ) (one : Retired) → slice_get list end ≡ None → slice_get list place ≡ Some one → place < end
within_all [] end place one none there = absurd cc
within_all (x ∷ list) zero place one none there = absurd (let no : Some x ≡ None = none in cc)
within_all (x ∷ list) (suc end) zero one none there = omega arith
within_all (x ∷ list) (suc end) (suc place) one none there = (let less = within_all list end place one none there in omega (arith, less))

module _ (quiet : QuietSteps) (gates : GateSteps) (making : MakingLaws) (closing_retires : ClosingRetires) (keeps : StepsKeep) (gives : StepsGive) (needs : NeedsNoMore) (follows : CatalogFollows) (cut : CutHoldsTheSame)
    (plans : PlansLead) (old new : CoreView) (merge : merger.Running) (r next : Retiring) (made : Made) (phase : Phase) (done : MergeProgress) (s : RetiringGoesOn old merge r made phase done next new)
    (asked : List (Option Asked)) (bodies files : List (List ℕ)) (at : slice_get asked 1 ≡ Some (Some made.request)) (b : Believes old asked bodies files) where
  abbrev running : Option Running
  running = old.dumper.running

  abbrev last : ℕ
  last = old.numbers.serial

  k : IsRetiringOn old.phases asked bodies b.store b.beliefs running r
  k = subst (IsMergeAt old.phases asked bodies last b.store b.beliefs running merge.slot merge.source) s.doing
      (subst (λ m. IsMergeOn old.phases asked bodies last b.store b.beliefs running m) s.was (b.knows.merging s.rest.stands).is)

  abbrev one : Retired
  one = k.one

  abbrev slot : ℕ
  slot = k.one.slot

  c : IsRetiredOn old.phases asked bodies b.store b.beliefs running r one
  c = k.closes

  out_is : c.request ≡ Some made.request
  out_is = same_Some c.request (Some made.request) (sym c.own ∙ at)

  on : made.request.id.slot ≡ slot
  on = c.asked_at made.request out_is

  phase_same : c.phase ≡ phase
  phase_same = same_Some c.phase phase (sym c.phase_is ∙ ap (slice_get old.phases) (sym on) ∙ s.outcome.phase_is)

  abbrev order : ImageOrder
  order = order_of_slot slot OpenSlot

  abbrev nplan : Planned
  nplan = plan_after r.plan made

  slot_was : IsSlotFor (Format r.plan) order [] phase (file_at bodies slot) (Some made.request) c.belief None
  slot_was = subst (λ p. IsSlotFor (Format r.plan) order [] p (file_at bodies slot) (Some made.request) c.belief None) phase_same
      (subst (λ q. IsSlotFor (Format r.plan) order [] c.phase (file_at bodies slot) q c.belief None) out_is c.slot_is)

  calls_same : nplan.calls ≡ r.plan.calls
  calls_same = calls_of_done r.plan made s.sound.under_way.known s.ok

  no_body : (own : Planned) (header : Header) (tables : List Listed) → Format r.plan ≡ Close own header tables → ⊥
  no_body own header tables is = let no : Format r.plan ≡ Close own header tables = is in cc

  slot_then : SlotGoesOn (stage_after Merged (Format r.plan) nplan nplan.calls) order [] phase (file_at bodies slot) made.request c.belief None
  slot_then = hands_slot (Format r.plan) order [] phase (file_at bodies slot) made.request c.belief None r.plan nplan refl calls_same refl
      (λ own is. refl) (λ own header tables is. absurd (no_body own header tables is)) slot_was

  abbrev belief_now : Belief
  belief_now = belief_after (closes_for_sure phase made.request.id.call) c.belief

  h : SlotHandedIn old new made phase asked bodies files b slot belief_now
  h = slot_handed quiet gates making closing_retires keeps gives needs follows cut old new made phase asked bodies files s.outcome s.rest at b slot on s.ok c.spared
      c.belief c.belief_is (Format r.plan) (stage_after Merged (Format r.plan) nplan nplan.calls) order [] r.plan refl (λ own header tables is. absurd (no_body own header tables is))
      slot_was slot_then s.catalog

  alone : IsUnmerged h.store
  alone = record { source = h.source ∙ k.alone.source; work = h.work ∙ k.alone.work }

  silent : slice_get (asked_then asked) 1 ≡ Some None
  silent = set_same asked 1 (Some made.request) None at

  -- those that are still to be closed
  listed : (place : ℕ) (other : Retired) → r.ended < place → slice_get r.list place ≡ Some other → IsListedOn h.store h.later running other
  listed place other behind there =
      let l = k.later place other behind there in
      record {
        image = l.image;
        has = ap (λ o. option_and_then image_in o) (h.others other.slot (λ same. k.apart r.ended place one other behind k.there there (sym same))) ∙ l.has;
        unneeded = λ needed. l.unneeded (h.needs l.image needed);
        spared = l.spared;
      }

  -- those that are closed, whose slots this is none of
  cut_then : (place : ℕ) (other : Retired) → place < r.ended → slice_get r.list place ≡ Some other → IsCutOn (phases_then old made phase) running other
  cut_then place other behind there =
      let x = k.before place other behind there in
      record {
        bare = set_other old.phases made.request.id.slot other.slot (after phase made.request.id.call (is_done made.answer)) (λ same. k.apart place r.ended other one behind there k.there (same ∙ on)) ∙ x.bare;
        spared = x.spared;
      }

  phase_there : slice_get (phases_then old made phase) slot ≡ Some (after phase made.request.id.call true)
  phase_there = ap (slice_get (phases_then old made phase)) (sym on) ∙ ap (λ d. slice_get (slice_set old.phases made.request.id.slot (after phase made.request.id.call d)) made.request.id.slot) s.ok
      ∙ set_same old.phases made.request.id.slot phase (after phase made.request.id.call true) s.outcome.phase_is

  body_there : file_at (bodies_then bodies made) slot ≡ body_after (file_at bodies slot) made.request.id.call made.request.bytes
  body_there = grind (arith, slice_get_within, bodies_then, file_set)

  believes_merge : (later : Option merger.Running) → new.merger ≡ later
      → IsMergeOn (phases_then old made phase) (asked_then asked) (bodies_then bodies made) last h.store h.later running later
      → Believes new (asked_then asked) (bodies_then bodies made) files
  believes_merge later is m = believes_handed old new made phase asked bodies files s.outcome s.rest s.serial b slot belief_now h later is m at

  -- ---- calls on it are left

  goes_on : GoesOnWith r made next → new.merger ≡ Some (record merge { doing = retiring next }) → Believes new (asked_then asked) (bodies_then bodies made) files
  goes_on g is = believes_merge (Some (record merge { doing = retiring (record r { plan = nplan }) })) (is ∙ ap (λ x. Some (record merge { doing = retiring x })) g.is) (record {
    alone = alone;
    one = one;
    there = k.there;
    closes = record {
      phase = after phase made.request.id.call true;
      phase_is = phase_there;
      belief = belief_now;
      belief_is = h.there;
      unneeded = λ i has needed. c.unneeded i (h.images slot i has) (h.needs i needed);
      spared = c.spared;
      request = None;
      own = silent;
      asked_at = λ out is_out. absurd (let no : None ≡ Some out = is_out in cc);
      slot_is = subst (λ body. IsSlotFor (Format nplan) order [] (after phase made.request.id.call true) body None belief_now None) (sym body_there)
          (subst (λ stage. IsSlotFor stage order [] (after phase made.request.id.call true) (body_after (file_at bodies slot) made.request.id.call made.request.bytes) None belief_now None)
          (still_formats r.plan nplan nplan.calls g.left) slot_then.slot_is);
    };
    before = cut_then;
    later = listed;
    apart = k.apart;
  })

  -- ---- the next one begins

  -- after its last call its slot is closed, and its file one byte long
  cut_now : IsLastCall r made → IsCutOn (phases_then old made phase) running one
  cut_now l =
      let led = leads_head phase Bare (file_at bodies slot) [] made.request.id.call made.request.bytes r.plan.calls slot_was.0.leads in
      record {
        bare = phase_there ∙ ap Some (leads_end (after phase made.request.id.call true) Bare (body_after (file_at bodies slot) made.request.id.call made.request.bytes) []
            (subst (λ cs. Leads (after phase made.request.id.call true) (body_after (file_at bodies slot) made.request.id.call made.request.bytes) cs Bare []) (sym calls_same ∙ l.last) led.rest)).0;
        spared = c.spared;
      }

  -- so are those up to it
  cut_up_to : IsLastCall r made → (place : ℕ) (other : Retired) → place < r.ended + 1 → slice_get r.list place ≡ Some other → IsCutOn (phases_then old made phase) running other
  cut_up_to l place other behind there = elim (cases_eq place r.ended) [
    | inl its ↦ subst (IsCutOn (phases_then old made phase) running) (same_Some one other (sym k.there ∙ ap (slice_get r.list) (sym its) ∙ there)) (cut_now l)
    | inr differs ↦ cut_then place other (omega (arith, behind, differs)) there
  ]

  ends_one : IsLastCall r made → EndsOne r next → new.merger ≡ Some (record merge { doing = retiring next }) → Believes new (asked_then asked) (bodies_then bodies made) files
  ends_one l e is = believes_merge (Some (record merge { doing = retiring (begun_at r.serial r.list (r.ended + 1) e.next) })) (is ∙ ap (λ x. Some (record merge { doing = retiring x })) e.is) (record {
    alone = alone;
    one = e.next;
    there = e.there;
    closes = retired_begins plans (phases_then old made phase) (asked_then asked) (bodies_then bodies made) h.store h.later running h.has.believed.count h.is_live.exact silent
        r.serial r.list (r.ended + 1) e.next (none_on old new made phase asked bodies files s.outcome at b e.next.slot (s.free e.next e.there))
        (listed (r.ended + 1) e.next (omega arith) e.there);
    before = cut_up_to l;
    later = λ place other behind there. listed place other (omega (arith, behind)) there;
    apart = k.apart;
  })

  -- ---- none is left

  -- each image of the list is closed, and its file one byte long
  pub all_cut : (serial : ℕ) → HandsClosing r made (progress.Merged serial) next → (place : ℕ) (other : Retired) → slice_get r.list place ≡ Some other → slice_get new.phases other.slot ≡ Some Bare
  all_cut serial hands place other there =
      ap (λ all. slice_get all other.slot) s.outcome.phases ∙ (cut_up_to hands.0 place other (within_all r.list (r.ended + 1) place other hands.1.over there) there).bare

  ends : new.merger ≡ None → Believes new (asked_then asked) (bodies_then bodies made) files
  ends is = believes_merge None is (alone, silent)

  pub retires_by : (done : MergeProgress) → HandsClosing r made done next → new.merger ≡ goes_on_with merge done next → Believes new (asked_then asked) (bodies_then bodies made) files
  retires_by progress.Failed hands is = absurd (false≢true (sym hands.failed ∙ s.ok))
  retires_by progress.More hands is = elim hands [
    | inl more ↦ goes_on more.0 is
    | inr last_one ↦ ends_one last_one.0 last_one.1 is
  ]
  retires_by (progress.Opened image) hands is = absurd hands
  retires_by (progress.Closed closed) hands is = goes_on hands.goes is
  retires_by _ hands is = ends is

pub retires_lem : QuietSteps → GateSteps → MakingLaws → ClosingRetires → StepsKeep → StepsGive → NeedsNoMore → CatalogFollows → CutHoldsTheSame → PlansLead
    → (old new : CoreView) (merge : merger.Running) (r next : Retiring) (made : Made) (phase : Phase) (done : MergeProgress)
    → RetiringGoesOn old merge r made phase done next new → new.merger ≡ goes_on_with merge done next → OutcomeIsBelieved old new made
retires_lem quiet gates making closing_retires keeps gives needs follows cut plans old new merge r next made phase done s is asked bodies files at told b =
    retires_by quiet gates making closing_retires keeps gives needs follows cut plans old new merge r next made phase done s asked bodies files at b done s.hands is

-- after the last of them each image of the list is closed, and its file one byte long
pub cuts_lem : QuietSteps → GateSteps → MakingLaws → ClosingRetires → StepsKeep → StepsGive → NeedsNoMore → CatalogFollows → CutHoldsTheSame → PlansLead
    → (old new : CoreView) (merge : merger.Running) (r next : Retiring) (made : Made) (phase : Phase) (serial : ℕ) (place : ℕ) (one : Retired)
    (asked : List (Option Asked)) (bodies files : List (List ℕ)) → RetiringGoesOn old merge r made phase (progress.Merged serial) next new
    → slice_get asked 1 ≡ Some (Some made.request) → Believes old asked bodies files → slice_get r.list place ≡ Some one → slice_get new.phases one.slot ≡ Some Bare
cuts_lem quiet gates making closing_retires keeps gives needs follows cut plans old new merge r next made phase serial place one asked bodies files s at b there =
    all_cut quiet gates making closing_retires keeps gives needs follows cut plans old new merge r next made phase (progress.Merged serial) s asked bodies files at b serial s.hands place one there

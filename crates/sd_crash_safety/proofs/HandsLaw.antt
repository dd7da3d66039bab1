-- An outcome of the dumper's call is handed in.
use Rattle.std.proofs.Common.{◌≡◌, ◌≢◌, ◌⊎◌, ℕ, zero, suc, ◌+◌, ◌<◌, ◌==◌, ◌&&◌, Bool, true, false, if◌then◌else◌, not, List, [], ◌∷◌, ◌++◌, length, Option, Some, None, IfSome, Contains, option_and_then, slice_get, slice_set, refl, sym, ◌∙◌, ap, subst, inl, inr, arith}
use Rattle.std.proofs.lemmas.Bool.{cases_Bool, cases_eq, eq-eqb, false≢true, ne_eqb}
use Rattle.std.proofs.lemmas.Option.{same_Some, slice_get_within}
use Rattle.sd_disk.specs.Contents.{file_at}
use Rattle.sd_image.specs.declared.header.Header.{Header}
use Rattle.sd_image.specs.Image.{Image, IsImage, gate, image_text}
use Rattle.sd_image.specs.Table.{Listed}
use Rattle.sd_image.specs.Words.{kind_number}
use Rattle.sd_chain.specs.Catalog.{Opened, Places, place_of, without_slot}
use Rattle.sd_gate.specs.declared.phase.Phase.{Phase}
use Rattle.sd_gate.specs.declared.call.Call.TheVariants.{Sync}
use Rattle.sd_gate.specs.declared.phase.Phase.TheVariants.{Closing as ClosingPhase}
use Rattle.sd_gate.specs.declared.request_id.RequestId.{RequestId}
use Rattle.sd_gate.specs.Calls.{is_done}
use Rattle.sd_gate.specs.Inspections.{nothing}
use Rattle.sd_gate.specs.Phases.{after, body_after, bodies_after, phases_after, synced}
use Rattle.sd_gate.specs.Plans.{Planned, plan_after}
use Rattle.sd_gate.specs.Requests.{Asked, Made}
use Rattle.sd_journal.specs.History.{History}
use Rattle.sd_rounds.specs.declared.image_order.ImageOrder.{ImageOrder}
use Rattle.sd_rounds.specs.declared.stage.Stage.{Stage}
use Rattle.sd_rounds.specs.declared.stage.Stage.TheVariants.{Format, Close}
use Rattle.sd_rounds.specs.Dumper.{Running, writes_of_image}
use Rattle.sd_rounds.specs.Keeps.{ChainWithin}
use Rattle.sd_rounds.specs.Making.{IsReadyFor, Making, PlanGoesOn, is_frozen_dump, is_past_freeze, plan_of, stage_after}
use Rattle.sd_rounds.specs.MakingLaws.{DumpsImage, KeepsImage, MakingLaws}
use Rattle.sd_writing.specs.Files.{Pages, image_of}
use Rattle.sd_rounds.specs.Pass.{Pass}
use Rattle.sd_rounds.specs.Writes.{no_writes}
use Rattle.sd_store_laws.specs.Beliefs.{Belief, Closed, Kept, Closing, Opening, image_at, image_in}
use Rattle.sd_store_laws.specs.Below.{StepsGive}
use Rattle.sd_store_laws.specs.Cut.{CutHoldsTheSame}
use Rattle.sd_store_laws.specs.LiveImages.{CatalogFollows, IsLiveCatalog, SlotHasImage}
use Rattle.sd_store_laws.specs.Gates.{IsBelievedAs, IsInDoubt, MayBelieve}
use Rattle.sd_store_laws.specs.Makers.{IsAboveStore}
use Rattle.sd_store_laws.specs.Needs.{IsNeededIn, NeedsNoMore}
use Rattle.sd_store_laws.specs.Needed.{IsCalled, by_job}
use Rattle.sd_store_laws.specs.SlotSteps.{ClosingRetires, with_belief}
use Rattle.sd_store_laws.specs.Steps.{retired}
use Rattle.sd_store_laws.specs.Store.{Store, jobs}
use Rattle.sd_crash_safety.specs.Believes.{Believes, HasStore}
use Rattle.sd_crash_safety.specs.Calls.{IsApart, WritesDataPage}
use Rattle.sd_crash_safety.specs.DumperOutcomes.{GoesDown, ImageGoesOn, IsDumpersOutcome, LeavesCatalog, closes_for_sure}
use Rattle.sd_crash_safety.specs.GateSteps.{GateSteps}
use Rattle.sd_crash_safety.specs.LiveImages.{IsFrozenAs, IsImageOn, IsLiveOn, IsMakingOn, IsNewNumber, IsRunningOn, IsSlotFor, NoneAt, ArePagesOf, body_written, chain_of, ids_of, lanes_of}
use Rattle.sd_crash_safety.specs.Knows.{SeesStore}
use Rattle.sd_crash_safety.specs.declared.standing.Standing.TheVariants as standing
use Rattle.sd_crash_safety.specs.StoreSteps.{IsShut, QuietSteps}
use Rattle.sd_crash_safety.specs.View.{CoreView, history_of}
use Rattle.sd_crash_safety.proofs.HandsImage.{SlotGoesOn, areas_after, calls_of_done, files_after, hands_slot, was_frozen}
use Rattle.sd_crash_safety.proofs.HandsSlot.{belief_after, closed_exact, closing_in_doubt, syncs_closing}
use Rattle.sd_crash_safety.proofs.Lanes.{body_still, lanes_beside, no_pages as no_pages_of, plan_outside}
use Rattle.sd_crash_safety.proofs.MergeStays.{ChangesAt, HoldsStill, holds_same, leaves_at, merge_then, merging_of, own_beside, retires_still, slots_at, spares_on}
use Rattle.sd_crash_safety.proofs.OpenCore.{believes_parts}
use Rattle.sd_store_laws.proofs.SlotSteps.{set_other}
use Rattle.sd_crash_safety.proofs.Places.{body_other, id_there, ids_set, set_count, set_same}

-- ---- an outcome of the dumper's

-- what else is out on its slot writes data pages, as it does
others_of : (asked : List (Option Asked)) (outs : List (Option RequestId)) (lane : ℕ) (made : Made) → ids_of asked ≡ outs → IsApart (slice_set outs lane None) made.request.id
    → (other : ℕ) (request : Asked) → other ≢ lane → slice_get asked other ≡ Some (Some request) → request.id.slot ≡ made.request.id.slot → WritesDataPage made.request.id × WritesDataPage request.id
others_of asked outs lane made out apart other request differs is same =
    let pages = apart other request.id (set_other outs lane other None differs ∙ ap (λ ids. slice_get ids other) (sym out) ∙ id_there asked other request is) same in
    (pages.one, pages.another)

pub has_then : QuietSteps → (old new : CoreView) (lane : ℕ) (made : Made) (phase : Phase) (asked : List (Option Asked)) (bodies files : List (List ℕ)) → IsDumpersOutcome old lane made phase new
    → slice_get asked lane ≡ Some (Some made.request) → (b : Believes old asked bodies files)
    → HasStore old.base (history_of old) (phases_after old.phases made.request.id phase (is_done made.answer)) (slice_set asked lane None) (bodies_after bodies made.request.id made.request.bytes) b.store b.dump b.beliefs
has_then quiet old new lane made phase asked bodies files o at b =
    let covered = b.has.waiting lane made.request at in
    let same : covered.phase ≡ phase = same_Some covered.phase phase (sym covered.waits.is ∙ o.phase_is) in
    subst (λ p. HasStore old.base (history_of old) (phases_after old.phases made.request.id p (is_done made.answer)) (slice_set asked lane None) (bodies_after bodies made.request.id made.request.bytes) b.store b.dump b.beliefs) same
    (quiet.handed old.base (history_of old) old.phases asked bodies b.store b.dump b.beliefs lane made
    (record { out = at; others = others_of asked old.outs lane made b.knows.out o.apart; phase = covered.phase; waits = covered.waits }) b.has)

pub ids_then : (old new : CoreView) (lane : ℕ) (made : Made) (phase : Phase) (asked : List (Option Asked)) (bodies files : List (List ℕ)) → IsDumpersOutcome old lane made phase new → Believes old asked bodies files
    → ids_of (slice_set asked lane None) ≡ new.outs
ids_then old new lane made phase asked bodies files o b = ids_set asked lane None ∙ ap (λ ids. slice_set ids lane None) b.knows.out ∙ sym o.outs

pub count_then : (old new : CoreView) (lane : ℕ) (made : Made) (phase : Phase) (asked : List (Option Asked)) (bodies files : List (List ℕ)) → IsDumpersOutcome old lane made phase new → Believes old asked bodies files
    → length files ≡ length (phases_after old.phases made.request.id phase (is_done made.answer))
count_then old new lane made phase asked bodies files o b = b.knows.count ∙ sym (set_count old.phases made.request.id.slot (after phase made.request.id.call (is_done made.answer)))

-- ---- it failed

pub fails_lem : QuietSteps → (old new : CoreView) (lane : ℕ) (made : Made) (phase : Phase) (asked : List (Option Asked)) (bodies files : List (List ℕ))
    → GoesDown old lane made phase new → slice_get asked lane ≡ Some (Some made.request) → Believes old asked bodies files
    → Believes new (slice_set asked lane None) (bodies_after bodies made.request.id made.request.bytes) files
fails_lem quiet old new lane made phase asked bodies files g at b = record {
  store = b.store;
  dump = b.dump;
  beliefs = b.beliefs;
  has = subst (λ x. HasStore x (history_of new) new.phases (slice_set asked lane None) (bodies_after bodies made.request.id made.request.bytes) b.store b.dump b.beliefs) (sym g.outcome.base)
      (subst (λ h. HasStore old.base h new.phases (slice_set asked lane None) (bodies_after bodies made.request.id made.request.bytes) b.store b.dump b.beliefs) (sym g.history)
      (subst (λ p. HasStore old.base (history_of old) p (slice_set asked lane None) (bodies_after bodies made.request.id made.request.bytes) b.store b.dump b.beliefs) (sym g.outcome.phases)
      (has_then quiet old new lane made phase asked bodies files g.outcome at b)));
  knows = record {
    count = count_then old new lane made phase asked bodies files g.outcome b ∙ ap length (sym g.outcome.phases);
    out = ids_then old new lane made phase asked bodies files g.outcome b;
    sees = subst (λ o. IfSome o (SeesStore files new.phases (slice_set asked lane None))) (sym g.outcome.closed) tt;
    sure = λ is. b.knows.sure (sym g.committing ∙ is);
    is_live = λ stands. absurd (let no : standing.Down ≡ standing.Open = sym g.down ∙ stands in cc);
    merging = λ stands. absurd (let no : standing.Down ≡ standing.Open = sym g.down ∙ stands in cc);
  };
}

-- ---- the image goes on

-- the store and the beliefs as they are then: at most the image of the slot left them
pub record StoreFollows (old : Store) (beliefs : List Belief) (slot : ℕ) (belief_now : Belief) (parent : ℕ) (new : Store) (later : List Belief) : Type 0 where
  pub there : slice_get later slot ≡ Some belief_now
  pub others : (k : ℕ) → k ≢ slot → slice_get later k ≡ slice_get beliefs k
  pub images : (k : ℕ) (i : Image) → image_at later k ≡ Some i → image_at beliefs k ≡ Some i
  pub within : (i : Image) → Contains new.catalog i → Contains old.catalog i
  pub chain : new.chain ≡ old.chain
  pub work : new.work ≡ old.work
  pub source : new.source ≡ old.source
  pub grows : new.grows ≡ old.grows
  pub needs : (i : Image) → IsNeededIn new i → IsNeededIn old i
  pub gives : ChainWithin (chain_of old parent) (chain_of new parent)
  pub still : (source : Image) → old.source ≡ Some source → HoldsStill old.catalog new.catalog source

pub known_plan : (order : ImageOrder) (pass : Pass) (stage : Stage) (plan : Planned) → plan_of stage ≡ Some plan → IsReadyFor order pass stage → plan.awaits ≡ nothing
known_plan order pass stage plan was ready = grind arith

no_pages : (pages : Pages) → length pages ≡ 0 → pages ≡ []
no_pages [] none = refl
no_pages (p ∷ pages) none = absurd (let no : suc (length pages) ≡ 0 = none in omega (arith, no))

pub file_set : (bodies : List (List ℕ)) (k : ℕ) (body : List ℕ) → k < length bodies → file_at (slice_set bodies k body) k ≡ body
file_set [] k body within = absurd (omega (arith, within))
file_set (b ∷ bodies) zero body within = refl
file_set (b ∷ bodies) (suc k) body within = file_set bodies k body (omega (arith, within))

-- what is being opened after an outcome was before
pub opening_before : (sure : Bool) (belief : Belief) (j : Image) → belief_after sure belief ≡ Opening j → belief ≡ Opening j
opening_before sure belief j is = grind arith

-- a slot without an image of the catalog leaves the catalog as it is
pub removed_none : (old new : Places) (beliefs : List Belief) (slot : ℕ) (i : Image) → slice_get beliefs slot ≡ Some (Opening i)
    → ((serial : ℕ) → place_of new serial ≡ without_slot slot (place_of old serial)) → IsLiveCatalog old beliefs → IsLiveCatalog new (slice_set beliefs slot Closed)
removed_none old new beliefs slot i at removes is_live = record {
  image = λ serial o there.
      let before = was (place_of old serial) o (sym (removes serial) ∙ there) in
      let it = is_live.image serial o before.0 in
      (it.0, it.1, still it.0 o.slot before.1 it.2);
  opened = λ k j has.
      let other : k ≢ slot = (λ same. not_here j (subst (λ x. SlotHasImage (slice_set beliefs slot Closed) x j) same has)) in
      let o = is_live.opened k j (before_has j k other has) in
      (o.0, removes j.header.serial ∙ ap (without_slot slot) o.1 ∙ left o.0 (λ same. other (sym o.3 ∙ same)), o.2, o.3);
}
  where
    left : (o : Opened) → o.slot ≢ slot → without_slot slot (Some (Some o)) ≡ Some (Some o)
    left o differs = ap (λ t. if not t then Some (Some o) else None) (ne_eqb o.slot slot differs)

    was : (p : Option (Option Opened)) (o : Opened) → without_slot slot p ≡ Some (Some o) → (p ≡ Some (Some o)) × (o.slot ≢ slot)
    was None o is = absurd (let no : None ≡ Some (Some o) = is in cc)
    was (Some None) o is = absurd (let no : Some None ≡ Some (Some o) = is in cc)
    was (Some (Some x)) o is = by_test (x.slot == slot) refl
      where
        by_test : (b : Bool) → (x.slot == slot) ≡ b → (Some (Some x) ≡ Some (Some o)) × (o.slot ≢ slot)
        by_test true same = absurd (let no : None ≡ Some (Some o) = sym (ap (λ t. if not t then Some (Some x) else None) same) ∙ is in cc)
        by_test false differs =
            let its : Some (Some x) ≡ Some (Some o) = sym (ap (λ t. if not t then Some (Some x) else None) differs) ∙ is in
            (its, λ same. false≢true (sym differs ∙ eq-eqb x.slot slot (ap (λ (y : Opened). y.slot) (inner its) ∙ same)))
          where
            inner : Some (Some x) ≡ Some (Some o) → x ≡ o
            inner e = cc

    still : (j : Image) (k : ℕ) → k ≢ slot → SlotHasImage beliefs k j → SlotHasImage (slice_set beliefs slot Closed) k j
    still j k differs has = subst (λ o. (o ≡ Some (Kept j)) ⊎ (o ≡ Some (Closing j))) (sym (set_other beliefs slot k Closed differs)) has

    before_has : (j : Image) (k : ℕ) → k ≢ slot → SlotHasImage (slice_set beliefs slot Closed) k j → SlotHasImage beliefs k j
    before_has j k differs has = subst (λ o. (o ≡ Some (Kept j)) ⊎ (o ≡ Some (Closing j))) (set_other beliefs slot k Closed differs) has

    not_here : (j : Image) → SlotHasImage (slice_set beliefs slot Closed) slot j → ⊥
    not_here j given = grind (arith, set_same)

module _ (making : MakingLaws) (old new : CoreView) (running : Running) (image next : Making) (made : Made) (phase : Phase) (asked : List (Option Asked)) (bodies files : List (List ℕ))
    (s : ImageGoesOn old running image made phase next new) (at : slice_get asked 0 ≡ Some (Some made.request)) (b : Believes old asked bodies files) where
  abbrev history : History
  history = history_of old

  abbrev slot : ℕ
  slot = image.order.slot

  abbrev call_slot : ℕ
  call_slot = made.request.id.slot

  abbrev asked_now : List (Option Asked)
  asked_now = slice_set asked 0 None

  abbrev phases_now : List Phase
  phases_now = phases_after old.phases made.request.id phase (is_done made.answer)

  abbrev bodies_now : List (List ℕ)
  bodies_now = bodies_after bodies made.request.id made.request.bytes

  u : IsLiveOn old.base history old.catalog old.grows old.memory old.phases asked bodies old.numbers.serial b.store b.dump b.beliefs (Some running)
  u = subst (λ r. IsLiveOn old.base history old.catalog old.grows old.memory old.phases asked bodies old.numbers.serial b.store b.dump b.beliefs r) s.was (b.knows.is_live s.rest.stands)

  w : IsRunningOn old.base history old.memory old.phases asked bodies old.numbers.serial b.store b.dump b.beliefs running
  w = u.job

  pub m : IsMakingOn old.base history old.memory old.phases asked bodies old.numbers.serial b.store b.dump b.beliefs running.parent running.number image
  m = subst (λ i. IsImageOn old.base history old.memory old.phases asked bodies old.numbers.serial b.store b.dump b.beliefs running.parent running.number i) s.making w.image

  out_is : m.request ≡ Some made.request
  out_is = same_Some m.request (Some made.request) (sym m.own ∙ at)

  pub on : call_slot ≡ slot
  on = subst (λ r. IfSome r (λ x. x.id.slot ≡ slot)) out_is m.asked_at

  pub go : PlanGoesOn image made next
  go = s.hands

  pub phase_same : m.phase ≡ phase
  phase_same = same_Some m.phase phase (sym m.phase_is ∙ ap (slice_get old.phases) (sym on) ∙ s.outcome.phase_is)

  abbrev nplan : Planned
  nplan = plan_after go.plan made

  -- no data page is being written
  none_writing : image.writes ≡ no_writes
  none_writing = m.rests (plan_outside image.stage go.plan go.awaited.was)

  lanes_empty : ids_of (lanes_of asked) ≡ no_writes
  lanes_empty = u.writes ∙ ap writes_of_image s.making ∙ none_writing

  lanes_same : lanes_of asked_now ≡ lanes_of asked
  lanes_same = lanes_beside asked 0 None (omega arith)

  slot_was : IsSlotFor image.stage image.order m.pages phase (file_at bodies slot) (Some made.request) m.belief b.dump
  slot_was = grind (arith, body_still)

  calls_same : nplan.calls ≡ go.plan.calls
  calls_same = calls_of_done go.plan made (known_plan image.order image.pass image.stage go.plan go.awaited.was s.sound.ready) go.done

  empty : (own : Planned) → image.stage ≡ Format own → m.pages ≡ []
  empty own is = grind (arith, no_pages)

  closes : (own : Planned) (header : Header) (tables : List Listed) → image.stage ≡ Close own header tables
      → (go.plan.calls ≢ []) × IsImage (gate ∷ image_text (image_of header m.pages tables)) (image_of header m.pages tables)
  closes own header tables is = grind arith

  pub slot_then : SlotGoesOn (stage_after image.order.kind image.stage nplan nplan.calls) image.order m.pages phase (file_at bodies slot) made.request m.belief b.dump
  slot_then = hands_slot image.stage image.order m.pages phase (file_at bodies slot) made.request m.belief b.dump go.plan nplan go.awaited.was calls_same refl empty closes slot_was

  abbrev later_image : Making
  later_image = record image { stage = stage_after image.order.kind image.stage nplan nplan.calls }

  done_phases : phases_now ≡ slice_set old.phases call_slot (after phase made.request.id.call true)
  done_phases = ap (λ d. slice_set old.phases call_slot (after phase made.request.id.call d)) go.done

  phase_then : slice_get phases_now slot ≡ Some (after phase made.request.id.call true)
  phase_then = ap (slice_get phases_now) (sym on) ∙ ap (λ p. slice_get p call_slot) done_phases ∙ set_same old.phases call_slot phase (after phase made.request.id.call true) s.outcome.phase_is

  body_then : file_at bodies_now slot ≡ body_after (file_at bodies slot) made.request.id.call made.request.bytes
  body_then = grind (arith, slice_get_within, file_set)

  own_then : slice_get asked_now 0 ≡ Some None
  own_then = set_same asked 0 (Some made.request) None at

  -- ---- with the store and the beliefs as they are then

  module _ (places : Places) (store : Store) (later : List Belief)
      (f : StoreFollows b.store b.beliefs slot (belief_after (closes_for_sure phase made.request.id.call) m.belief) running.parent store later)
      (is_live : IsLiveCatalog places later) (has : HasStore old.base history phases_now asked_now bodies_now store b.dump later) where
    abbrev belief_then : Belief
    belief_then = belief_after (closes_for_sure phase made.request.id.call) m.belief

    -- a slot with no request out had none before, but for this one
    none_before : (k : ℕ) → k ≢ slot → NoneAt asked_now k → NoneAt asked k
    none_before k differs none worker r out same = elim (cases_eq worker 0) [
      | inl its ↦
          let own : r ≡ made.request = same_Some r made.request (same_Some (Some r) (Some made.request) (sym out ∙ ap (slice_get asked) its ∙ at)) in
          differs (sym same ∙ ap (λ (q : Asked). q.id.slot) own ∙ on)
      | inr other ↦ none worker r (set_other asked 0 worker None other ∙ out) same
    ]

    exact_then : (k : ℕ) (p : Phase) (belief : Belief) → slice_get phases_now k ≡ Some p → slice_get later k ≡ Some belief → NoneAt asked_now k
        → IsBelievedAs p (file_at bodies_now k) belief
    exact_then k p belief here of none = elim (cases_eq k slot) [
      | inl its ↦
          let p_is : after phase made.request.id.call true ≡ p = same_Some (after phase made.request.id.call true) p (sym phase_then ∙ ap (slice_get phases_now) (sym its) ∙ here) in
          let belief_is : belief_then ≡ belief = same_Some belief_then belief (sym f.there ∙ ap (slice_get later) (sym its) ∙ of) in
          elim slot_then.exact [
            | inl closed ↦ subst (IsBelievedAs p (file_at bodies_now k)) (sym closed ∙ belief_is)
                (closed_exact p (file_at bodies_now k) (subst (MayBelieve p (file_at bodies_now k)) (sym belief_is ∙ closed) (has.believed.each k p belief here of)))
            | inr exact ↦ subst (λ x. IsBelievedAs x (file_at bodies_now k) belief) p_is
                (subst (IsBelievedAs (after phase made.request.id.call true) (file_at bodies_now k)) belief_is
                (subst (λ body. IsBelievedAs (after phase made.request.id.call true) body belief_then) (sym (ap (file_at bodies_now) its ∙ body_then)) exact))
          ]
      | inr differs ↦
          let other : k ≢ call_slot = (λ same. differs (same ∙ on)) in
          subst (λ body. IsBelievedAs p body belief) (sym (body_other bodies call_slot k (body_after (file_at bodies call_slot) made.request.id.call made.request.bytes) other))
          (u.exact k p belief (sym (set_other old.phases call_slot k (after phase made.request.id.call (is_done made.answer)) other) ∙ here) (sym (f.others k differs) ∙ of)
          (none_before k differs none))
    ]

    above_then : (n : ℕ) → IsAboveStore b.store n → IsAboveStore store n
    above_then n is = record {
      serials = λ i member. is.serials i (f.within i member);
      stands = λ i member. is.stands i (f.within i member);
      parents = λ i member. is.parents i (f.within i member);
      jobs = λ asked_for member. is.jobs asked_for (subst (λ c. Contains (c ++ b.store.work) asked_for) f.chain (subst (λ c. Contains (store.chain ++ c) asked_for) f.work member));
      source = subst (λ x. IfSome x (λ source. source.header.stands_for < n)) (sym f.source) is.source;
    }

    new_then : (n : ℕ) → IsNewNumber b.store n → IsNewNumber store n
    new_then n is = record {
      serial = λ i member. is.serial i (f.within i member);
      unused = record {
        stands = λ i member. is.unused.stands i (f.within i member);
        names = λ i member. is.unused.names i (f.within i member);
        asks = λ member. is.unused.asks (subst (λ c. Contains (c ++ b.store.work) n) f.chain (subst (λ c. Contains (store.chain ++ c) n) f.work member));
      };
      apart = subst (λ x. IfSome x (λ source. source.header.stands_for ≢ n)) (sym f.source) is.apart;
    }

    keeps_then : KeepsImage m.pages (chain_of store running.parent) later_image old.memory
    keeps_then = subst (λ x. KeepsImage m.pages (chain_of store running.parent) x old.memory) go.is
        (making.agrees m.pages (chain_of b.store running.parent) (chain_of store running.parent) next old.memory f.gives
        (making.hands m.pages (chain_of b.store running.parent) image next old.memory made (inl s.hands) m.keeps))

    frozen_then : is_frozen_dump later_image ≡ true → IsFrozenAs old.base history running.number old.memory m.pages (chain_of store running.parent) later_image
    frozen_then is =
        let past = was_frozen image.order.kind image.stage nplan go.plan nplan.calls go.awaited.was is in
        let before = m.frozen (frozen_before past is) in
        record {
          cut = before.cut;
          pends = before.pends;
          shown = before.shown;
          still = before.still;
          dumps = subst (λ x. DumpsImage before.cut m.pages (chain_of store running.parent) x old.memory) go.is
              (making.agrees_dump before.cut m.pages (chain_of b.store running.parent) (chain_of store running.parent) next old.memory f.gives
              (making.hands_dump before.cut m.pages (chain_of b.store running.parent) image next old.memory made (inl s.hands) past before.dumps));
          areas = areas_after image.order.kind image.stage nplan nplan.calls before.cut before.areas;
        }
      where
        frozen_before : is_past_freeze image.stage ≡ true → is_frozen_dump later_image ≡ true → is_frozen_dump image ≡ true
        frozen_before past now = and_true (kind_number image.order.kind == 2) (is_past_freeze later_image.stage) (is_past_freeze image.stage) now past
          where
            and_true : (k x y : Bool) → (k && x) ≡ true → y ≡ true → (k && y) ≡ true
            and_true true x y both last = last
            and_true false x y both last = absurd (false≢true both)

    making_then : IsMakingOn old.base history old.memory phases_now asked_now bodies_now old.numbers.serial store b.dump later running.parent running.number later_image
    making_then = record {
      pages = m.pages;
      keeps = keeps_then;
      files = files_after image.order.kind image.stage nplan nplan.calls image.order image.pass m.pages m.files;
      frozen = frozen_then;
      serial = m.serial;
      fresh = new_then image.order.serial m.fresh;
      low = m.low;
      others = λ k i there differs. m.others k i (f.images k i there) differs;
      phase = after phase made.request.id.call true;
      phase_is = phase_then;
      belief = belief_then;
      belief_is = f.there;
      request = None;
      own = own_then;
      asked_at = tt;
      rests = λ outside. none_writing;
      writing = subst (ArePagesOf slot) (sym lanes_same) (no_pages_of slot (lanes_of asked) lanes_empty);
      slot_is = subst (λ body. IsSlotFor later_image.stage image.order m.pages (after phase made.request.id.call true) body None belief_then b.dump)
          (sym (ap (body_written (file_at bodies_now slot)) lanes_same ∙ body_still (file_at bodies_now slot) (lanes_of asked) lanes_empty ∙ body_then)) slot_then.slot_is;
    }

    changes : ChangesAt old.numbers.serial b.store running (slots_at old.phases bodies b.beliefs) store (Some (record running { image = Some later_image })) (slots_at phases_now bodies_now later) slot
    changes = record {
      reserved = record { place = running.opened; from = omega arith; is = ap (λ o. o.slot) s.own };
      count = set_count old.phases call_slot (after phase made.request.id.call (is_done made.answer));
      others = λ k differs. (let other : k ≢ call_slot = (λ same. differs (same ∙ on)) in record {
        phase = set_other old.phases call_slot k (after phase made.request.id.call (is_done made.answer)) other;
        body = body_other bodies call_slot k (body_after (file_at bodies call_slot) made.request.id.call made.request.bytes) other;
        belief = f.others k differs;
      });
      spares = spares_on old.numbers.serial running image later_image s.making refl;
      source = f.source;
      work = f.work;
      needs = λ k i differs has needed. f.needs i needed;
      still = f.still;
      here = λ j has. inl (f.images slot j has);
      opens = λ j opens. inl (m.belief_is ∙ ap Some (opening_before (closes_for_sure phase made.request.id.call) m.belief j (same_Some belief_then (Opening j) (sym f.there ∙ opens))));
    }

    pub believes_then : new.catalog ≡ places → Believes new asked_now bodies_now files
    believes_then catalog = believes_parts new old.base history places old.grows old.memory phases_now old.numbers.serial (Some (record running { image = Some later_image })) old.merger
        (record {
          base_is = s.rest.base;
          history_is = s.history;
          places_is = catalog;
          grows_is = s.rest.grows;
          memory_is = s.outcome.memory;
          phases_is = s.outcome.phases;
          last_is = s.serial;
          running_is = s.is ∙ ap (λ x. Some (record running { image = Some x })) go.is;
          merger_is = s.rest.merger;
          closed = s.rest.closed;
        })
        asked_now bodies_now files store b.dump later (λ is. b.knows.sure (sym s.committing ∙ is)) (count_then old new 0 made phase asked bodies files s.outcome b) (ids_then old new 0 made phase asked bodies files s.outcome b) has
        (record {
          catalog = is_live;
          grows_is = f.grows ∙ u.grows_is;
          used = record { above = above_then (old.numbers.serial + 1) u.used.above; slots = λ k i there. u.used.slots k i (f.images k i there) };
          exact = exact_then;
          writes = ap ids_of lanes_same ∙ u.writes ∙ ap writes_of_image s.making;
          job = record {
            some = w.some;
            chain = f.chain ∙ w.chain;
            newest = λ j member restored. w.newest j (f.within j member) restored;
            within = λ k r. (let count = set_count old.phases call_slot (after phase made.request.id.call (is_done made.answer)) in
                let below = w.within k (record { place = r.place; from = r.from; is = r.is }) in omega (arith, below, count));
            unneeded = λ k i r there needed. w.unneeded k i (record { place = r.place; from = r.from; is = r.is }) (f.images k i there) (f.needs i needed);
            apart = w.apart;
            image = making_then;
          };
        })
        (merge_then old.numbers.serial b.store (Some running) (slots_at old.phases bodies b.beliefs) old.numbers.serial store (Some (record running { image = Some later_image })) (slots_at phases_now bodies_now later)
        (leaves_at old.numbers.serial b.store running (slots_at old.phases bodies b.beliefs) store (Some (record running { image = Some later_image })) (slots_at phases_now bodies_now later) slot changes)
        asked asked_now (own_beside asked None) old.merger (λ i member. (b.knows.merging s.rest.stands).spelled i (f.within i member)) (merging_of old asked bodies files (Some running) s.rest.stands s.was b))

  -- ---- nothing left the catalog

  pub stays_open : closes_for_sure phase made.request.id.call ≡ false → QuietSteps → new.catalog ≡ old.catalog → Believes new asked_now bodies_now files
  stays_open none quiet catalog = believes_then old.catalog b.store b.beliefs (record {
    there = m.belief_is ∙ ap Some (sym (ap (λ c. belief_after c m.belief) none));
    others = λ k differs. refl;
    images = λ k i there. there;
    within = λ i member. member;
    chain = refl;
    work = refl;
    source = refl;
    grows = refl;
    needs = λ i needed. needed;
    gives = λ place bytes below. below;
    still = λ source is. holds_same b.store.catalog source;
  }) u.catalog (has_then quiet old new 0 made phase asked bodies files s.outcome at b) catalog

  -- ---- the image that stood in the slot is gone for sure

  module _ (quiet : QuietSteps) (gates : GateSteps) (closing_retires : ClosingRetires) (gives : StepsGive) (needs : NeedsNoMore) (follows : CatalogFollows) (cut : CutHoldsTheSame)
      (is : closes_for_sure phase made.request.id.call ≡ true)
      (leaves : (serial : ℕ) → place_of new.catalog serial ≡ without_slot slot (place_of old.catalog serial)) where
    has_one : HasStore old.base history phases_now asked_now bodies_now b.store b.dump b.beliefs
    has_one = has_then quiet old new 0 made phase asked bodies files s.outcome at b

    belief_closed : belief_after (closes_for_sure phase made.request.id.call) m.belief ≡ Closed
    belief_closed = ap (λ c. belief_after c m.belief) is

    shut : IsShut phases_now asked_now slot
    shut = record {
      phase = phase_then ∙ ap Some (ap (λ c. after phase c true) both.1 ∙ ap synced both.0);
      none = λ worker r out same. s.alone worker r.id (ap (λ ids. slice_get ids worker) (sym (ids_set asked 0 None ∙ ap (λ ids. slice_set ids 0 None) b.knows.out)) ∙ id_there asked_now worker r out)
          (same ∙ sym on);
    }
      where
        both : (phase ≡ ClosingPhase) × (made.request.id.call ≡ Sync)
        both = syncs_closing phase made.request.id.call is

    doubt : IsInDoubt (file_at bodies slot) m.belief
    doubt = closing_in_doubt image.stage image.order m.pages phase (file_at bodies slot) made.request m.belief b.dump go.plan go.awaited.was (λ own header tables at_stage. (closes own header tables at_stage).0) slot_was is

    -- the beliefs then: the slot is closed
    closed_follows : (old_belief : Belief) → slice_get b.beliefs slot ≡ Some old_belief → (store : Store) → ((i : Image) → Contains store.catalog i → Contains b.store.catalog i)
        → store.chain ≡ b.store.chain → store.work ≡ b.store.work → store.source ≡ b.store.source → store.grows ≡ b.store.grows
        → ((i : Image) → IsNeededIn store i → IsNeededIn b.store i) → ChainWithin (chain_of b.store running.parent) (chain_of store running.parent)
        → ((source : Image) → b.store.source ≡ Some source → HoldsStill b.store.catalog store.catalog source)
        → StoreFollows b.store b.beliefs slot (belief_after (closes_for_sure phase made.request.id.call) m.belief) running.parent store (with_belief b.beliefs slot Closed)
    closed_follows old_belief was store within chain work source grows needed below still = record {
      there = set_same b.beliefs slot old_belief Closed was ∙ ap Some (sym belief_closed);
      others = λ k differs. set_other b.beliefs slot k Closed differs;
      images = λ k i there. elim (cases_eq k slot) [
        | inl its ↦ absurd (let no : None ≡ Some i = sym (ap (λ o. option_and_then image_in o) (ap (slice_get (with_belief b.beliefs slot Closed)) its ∙ set_same b.beliefs slot old_belief Closed was)) ∙ there in cc)
        | inr differs ↦ ap (λ o. option_and_then image_in o) (sym (set_other b.beliefs slot k Closed differs)) ∙ there
      ];
      within = within;
      chain = chain;
      work = work;
      source = source;
      grows = grows;
      needs = needed;
      gives = below;
      still = still;
    }

    retires : (i : Image) → m.belief ≡ Closing i → new.catalog ≡ new.catalog → Believes new asked_now bodies_now files
    retires i closing_it same =
        let was : slice_get b.beliefs slot ≡ Some (Closing i) = m.belief_is ∙ ap Some closing_it in
        let gone = (gates old.base history phases_now asked_now bodies_now).retires b.store b.dump b.beliefs slot i shut was has_one in
        let retired_ok = closing_retires.retires b.store b.dump b.beliefs slot i gone.0 has_one.slots was gone.1 in
        let called : IsCalled b.store.catalog (jobs b.store) running.parent = by_job running.parent (subst (λ c. Contains (c ++ b.store.work) running.parent) (sym w.chain) (0, omega arith, refl)) in
        believes_then new.catalog (retired b.store gone.0) (with_belief b.beliefs slot Closed)
        (closed_follows (Closing i) was (retired b.store gone.0) (λ j member. ((gone.1 j).0 member).0) refl refl refl refl
        (λ j needed. needs.retires b.store j gone.0 b.has.sound retired_ok needed)
        (λ place bytes below. (gives.retires b.store gone.0 b.has.sound retired_ok running.parent place.0 place.1 bytes called).0 below)
        (retires_still cut b.store gone.0 b.has.sound retired_ok))
        (follows.removes old.catalog new.catalog b.beliefs slot i u.catalog was leaves) gone.2 same

    drops : (i : Image) → m.belief ≡ Opening i → Believes new asked_now bodies_now files
    drops i opening_it =
        let was : slice_get b.beliefs slot ≡ Some (Opening i) = m.belief_is ∙ ap Some opening_it in
        believes_then new.catalog b.store (with_belief b.beliefs slot Closed)
        (closed_follows (Opening i) was b.store (λ j member. member) refl refl refl refl (λ j needed. needed) (λ place bytes below. below)
        (λ source is. holds_same b.store.catalog source))
        (removed_none old.catalog new.catalog b.beliefs slot i was leaves u.catalog)
        ((gates old.base history phases_now asked_now bodies_now).drops b.store b.dump b.beliefs slot i shut was has_one) refl

    pub closes_open : Believes new asked_now bodies_now files
    closes_open = elim doubt.1 [
      | inl closing_it ↦ retires doubt.0 closing_it refl
      | inr opening_it ↦ drops doubt.0 opening_it
    ]

pub goes_on_lem : QuietSteps → GateSteps → MakingLaws → ClosingRetires → StepsGive → NeedsNoMore → CatalogFollows → CutHoldsTheSame → (old new : CoreView) (running : Running) (image next : Making) (made : Made) (phase : Phase)
    (asked : List (Option Asked)) (bodies files : List (List ℕ)) → ImageGoesOn old running image made phase next new → slice_get asked 0 ≡ Some (Some made.request) → Believes old asked bodies files
    → Believes new (slice_set asked 0 None) (bodies_after bodies made.request.id made.request.bytes) files
goes_on_lem quiet gates making retires gives needs follows cut old new running image next made phase asked bodies files s at b = elim (cases_Bool (closes_for_sure phase made.request.id.call)) [
  | inl sure ↦ closes_open making old new running image next made phase asked bodies files s at b quiet gates retires gives needs follows cut sure
      (λ serial. subst (λ c. LeavesCatalog c made.request.id.slot old.catalog new.catalog) sure s.catalog serial
      ∙ ap (λ k. without_slot k (place_of old.catalog serial)) (on making old new running image next made phase asked bodies files s at b))
  | inr unsure ↦ stays_open making old new running image next made phase asked bodies files s at b unsure quiet (subst (λ c. LeavesCatalog c made.request.id.slot old.catalog new.catalog) unsure s.catalog)
]

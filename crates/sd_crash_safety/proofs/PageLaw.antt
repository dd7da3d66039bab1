-- The write of a data page of the dumper's was done.
use Rattle.std.proofs.Common.{◌≡◌, ◌≢◌, ℕ, ◌<◌, true, List, length, Option, Some, None, slice_get, slice_set, refl, sym, ◌∙◌, ap, subst, inl, inr, arith}
use Rattle.std.proofs.lemmas.Bool.{cases_eq, false≢true}
use Rattle.std.proofs.lemmas.Option.{same_Some, slice_get_within}
use Rattle.sd_disk.specs.Contents.{file_at}
use Rattle.sd_gate.specs.declared.phase.Phase.{Phase}
use Rattle.sd_gate.specs.declared.phase.Phase.TheVariants.{Writing}
use Rattle.sd_gate.specs.Calls.{is_done}
use Rattle.sd_gate.specs.Laws.{WritesCommute}
use Rattle.sd_gate.specs.Phases.{after, bodies_after, body_after, filled, phases_after}
use Rattle.sd_gate.specs.Requests.{Asked, Made}
use Rattle.sd_journal.specs.History.{History}
use Rattle.sd_rounds.specs.declared.stage.Stage.{Stage}
use Rattle.sd_rounds.specs.declared.stage.Stage.TheVariants.{Pass as PassStage}
use Rattle.sd_rounds.specs.Dumper.{Running, writes_of_image}
use Rattle.sd_rounds.specs.Making.{Making, is_frozen_dump, is_passing, is_past_freeze}
use Rattle.sd_rounds.specs.MakingLaws.{DumpsImage, KeepsImage, MakingLaws}
use Rattle.sd_store_laws.specs.Beliefs.{Belief, Closed}
use Rattle.sd_store_laws.specs.Gates.{IsBelievedAs, MayBelieve}
use Rattle.sd_crash_safety.specs.Believes.{Believes, HasStore}
use Rattle.sd_crash_safety.specs.DumperOutcomes.{PageIsWritten}
use Rattle.sd_crash_safety.specs.LiveImages.{ArePagesOf, IsFilledSlot, IsFrozenAs, IsImageOn, IsLiveOn, IsMakingOn, IsPageOf, IsRunningOn, IsSlotFor, NoneAt, body_written, chain_of, ids_of, lanes_of}
use Rattle.sd_crash_safety.specs.StoreSteps.{QuietSteps}
use Rattle.sd_crash_safety.specs.View.{CoreView, history_of, page_lane}
use Rattle.sd_crash_safety.proofs.HandsLaw.{count_then, file_set, has_then, ids_then}
use Rattle.sd_crash_safety.proofs.HandsSlot.{closed_exact}
use Rattle.sd_crash_safety.proofs.Lanes.{lanes_get, lanes_set, pages_less, written_less}
use Rattle.sd_crash_safety.proofs.MergeStays.{ChangesAt, holds_same, leaves_at, merge_then, merging_of, slots_at, spares_on}
use Rattle.sd_crash_safety.proofs.OpenCore.{believes_parts}
use Rattle.sd_store_laws.proofs.SlotSteps.{set_other}
use Rattle.sd_crash_safety.proofs.Places.{body_other, ids_set, set_count, set_same}

passing_stage : (stage : Stage) → is_passing stage ≡ true → stage ≡ PassStage
passing_stage stage is = grind arith

module _ (commutes : WritesCommute) (making : MakingLaws) (quiet : QuietSteps) (old new : CoreView) (running : Running) (image next : Making) (made : Made) (phase : Phase)
    (asked : List (Option Asked)) (bodies files : List (List ℕ)) (s : PageIsWritten old running image made phase next new)
    (at : slice_get asked (page_lane s.hands.lane) ≡ Some (Some made.request)) (b : Believes old asked bodies files) where
  abbrev history : History
  history = history_of old

  abbrev lane : ℕ
  lane = s.hands.lane

  abbrev slot : ℕ
  slot = image.order.slot

  abbrev call_slot : ℕ
  call_slot = made.request.id.slot

  abbrev asked_now : List (Option Asked)
  asked_now = slice_set asked (page_lane lane) None

  abbrev phases_now : List Phase
  phases_now = phases_after old.phases made.request.id phase (is_done made.answer)

  abbrev bodies_now : List (List ℕ)
  bodies_now = bodies_after bodies made.request.id made.request.bytes

  u : IsLiveOn old.base history old.catalog old.grows old.memory old.phases asked bodies old.numbers.serial b.store b.dump b.beliefs (Some running)
  u = subst (λ r. IsLiveOn old.base history old.catalog old.grows old.memory old.phases asked bodies old.numbers.serial b.store b.dump b.beliefs r) s.was (b.knows.is_live s.rest.stands)

  w : IsRunningOn old.base history old.memory old.phases asked bodies old.numbers.serial b.store b.dump b.beliefs running
  w = u.job

  m : IsMakingOn old.base history old.memory old.phases asked bodies old.numbers.serial b.store b.dump b.beliefs running.parent running.number image
  m = subst (λ i. IsImageOn old.base history old.memory old.phases asked bodies old.numbers.serial b.store b.dump b.beliefs running.parent running.number i) s.making w.image

  there : slice_get (lanes_of asked) lane ≡ Some (Some made.request)
  there = lanes_get asked lane ∙ at

  page : IsPageOf slot made.request
  page = m.writing.each lane made.request there

  stage : image.stage ≡ PassStage
  stage = passing_stage image.stage s.hands.passing

  ready : IsFilledSlot m.pages m.phase (body_written (file_at bodies slot) (lanes_of asked)) m.belief × (m.request ≡ None) × (b.dump ≡ None)
  ready = subst (λ st. IsSlotFor st image.order m.pages m.phase (body_written (file_at bodies slot) (lanes_of asked)) m.request m.belief b.dump) stage m.slot_is

  phase_same : m.phase ≡ phase
  phase_same = same_Some m.phase phase (sym m.phase_is ∙ ap (slice_get old.phases) (sym page.on) ∙ s.outcome.phase_is)

  lanes_now : lanes_of asked_now ≡ slice_set (lanes_of asked) lane None
  lanes_now = lanes_set asked lane None

  abbrev later : Making
  later = record image { writes = slice_set image.writes lane None }

  after_is : after phase made.request.id.call (is_done made.answer) ≡ Writing
  after_is = ap (λ d. after phase made.request.id.call d) s.hands.done ∙ ap (λ call. after phase call true) page.call ∙ ap filled (sym phase_same) ∙ ready.0.fills

  phase_then : slice_get phases_now slot ≡ Some Writing
  phase_then = ap (slice_get phases_now) (sym page.on) ∙ set_same old.phases call_slot phase (after phase made.request.id.call (is_done made.answer)) s.outcome.phase_is ∙ ap Some after_is

  body_then : file_at bodies_now slot ≡ body_after (file_at bodies slot) made.request.id.call made.request.bytes
  body_then =
      let within : call_slot < length bodies = (let long = slice_get_within old.phases call_slot phase s.outcome.phase_is in let stored = b.has.stored in omega (arith, long, stored)) in
      ap (file_at bodies_now) (sym page.on) ∙ file_set bodies call_slot (body_after (file_at bodies call_slot) made.request.id.call made.request.bytes) within
      ∙ ap (λ k. body_after (file_at bodies k) made.request.id.call made.request.bytes) page.on

  written_then : body_written (file_at bodies_now slot) (lanes_of asked_now) ≡ body_written (file_at bodies slot) (lanes_of asked)
  written_then = ap (λ body. body_written body (lanes_of asked_now)) body_then ∙ ap (body_written (body_after (file_at bodies slot) made.request.id.call made.request.bytes)) lanes_now
      ∙ written_less commutes slot (file_at bodies slot) (lanes_of asked) lane made.request m.writing there

  has : HasStore old.base history phases_now asked_now bodies_now b.store b.dump b.beliefs
  has = has_then quiet old new (page_lane lane) made phase asked bodies files s.outcome at b

  -- a slot with no request out had none before, but for this one
  none_before : (k : ℕ) → k ≢ slot → NoneAt asked_now k → NoneAt asked k
  none_before k differs none worker r out same = elim (cases_eq worker (page_lane lane)) [
    | inl its ↦
        let own : r ≡ made.request = same_Some r made.request (same_Some (Some r) (Some made.request) (sym out ∙ ap (slice_get asked) its ∙ at)) in
        differs (sym same ∙ ap (λ (q : Asked). q.id.slot) own ∙ page.on)
    | inr other ↦ none worker r (set_other asked (page_lane lane) worker None other ∙ out) same
  ]

  exact_then : (k : ℕ) (p : Phase) (belief : Belief) → slice_get phases_now k ≡ Some p → slice_get b.beliefs k ≡ Some belief → NoneAt asked_now k → IsBelievedAs p (file_at bodies_now k) belief
  exact_then k p belief here of none = elim (cases_eq k slot) [
    | inl its ↦
        let closed : belief ≡ Closed = same_Some belief Closed (sym of ∙ ap (slice_get b.beliefs) its ∙ m.belief_is ∙ ap Some ready.0.closed) in
        subst (IsBelievedAs p (file_at bodies_now k)) (sym closed) (closed_exact p (file_at bodies_now k) (subst (MayBelieve p (file_at bodies_now k)) closed (has.believed.each k p belief here of)))
    | inr differs ↦
        let other : k ≢ call_slot = (λ same. differs (same ∙ page.on)) in
        subst (λ body. IsBelievedAs p body belief) (sym (body_other bodies call_slot k (body_after (file_at bodies call_slot) made.request.id.call made.request.bytes) other))
        (u.exact k p belief (sym (set_other old.phases call_slot k (after phase made.request.id.call (is_done made.answer)) other) ∙ here) of (none_before k differs none))
  ]

  frozen_then : is_frozen_dump later ≡ true → IsFrozenAs old.base history running.number old.memory m.pages (chain_of b.store running.parent) later
  frozen_then is =
      let f = m.frozen is in
      record {
        cut = f.cut;
        pends = f.pends;
        shown = f.shown;
        still = f.still;
        dumps = subst (λ x. DumpsImage f.cut m.pages (chain_of b.store running.parent) x old.memory) s.hands.is
            (making.hands_dump f.cut m.pages (chain_of b.store running.parent) image next old.memory made (inr s.hands) (ap is_past_freeze stage) f.dumps);
        areas = f.areas;
      }

  making_then : IsMakingOn old.base history old.memory phases_now asked_now bodies_now old.numbers.serial b.store b.dump b.beliefs running.parent running.number later
  making_then = record {
    pages = m.pages;
    keeps = subst (λ x. KeepsImage m.pages (chain_of b.store running.parent) x old.memory) s.hands.is
        (making.hands m.pages (chain_of b.store running.parent) image next old.memory made (inr s.hands) m.keeps);
    files = m.files;
    frozen = frozen_then;
    serial = m.serial;
    fresh = m.fresh;
    low = m.low;
    others = m.others;
    phase = Writing;
    phase_is = phase_then;
    belief = m.belief;
    belief_is = m.belief_is;
    request = m.request;
    own = set_other asked (page_lane lane) 0 None (λ e. omega (arith, e)) ∙ m.own;
    asked_at = m.asked_at;
    rests = λ outside. absurd (false≢true (sym outside ∙ s.hands.passing));
    writing = subst (ArePagesOf slot) (sym lanes_now) (pages_less slot (lanes_of asked) lane m.writing);
    slot_is = subst (λ st. IsSlotFor st image.order m.pages Writing (body_written (file_at bodies_now slot) (lanes_of asked_now)) m.request m.belief b.dump) (sym stage) (
      record { writes = refl; fills = refl; spelled = written_then ∙ ready.0.spelled; closed = ready.0.closed },
      ready.1,
      ready.2,
    );
  }

  changes : ChangesAt old.numbers.serial b.store running (slots_at old.phases bodies b.beliefs) b.store (Some (record running { image = Some later })) (slots_at phases_now bodies_now b.beliefs) slot
  changes = record {
    reserved = record { place = running.opened; from = omega arith; is = ap (λ o. o.slot) s.own };
    count = set_count old.phases call_slot (after phase made.request.id.call (is_done made.answer));
    others = λ k differs. (let other : k ≢ call_slot = (λ same. differs (same ∙ page.on)) in record {
      phase = set_other old.phases call_slot k (after phase made.request.id.call (is_done made.answer)) other;
      body = body_other bodies call_slot k (body_after (file_at bodies call_slot) made.request.id.call made.request.bytes) other;
      belief = refl;
    });
    spares = spares_on old.numbers.serial running image later s.making refl;
    source = refl;
    work = refl;
    needs = λ k i differs has needed. needed;
    still = λ source is. holds_same b.store.catalog source;
    here = λ j has. inl has;
    opens = λ j opens. inl opens;
  }

  pub written_then_believed : Believes new asked_now bodies_now files
  written_then_believed = believes_parts new old.base history old.catalog old.grows old.memory phases_now old.numbers.serial (Some (record running { image = Some later })) old.merger
      (record {
        base_is = s.rest.base;
        history_is = s.history;
        places_is = s.catalog;
        grows_is = s.rest.grows;
        memory_is = s.outcome.memory;
        phases_is = s.outcome.phases;
        last_is = s.serial;
        running_is = s.is ∙ ap (λ x. Some (record running { image = Some x })) s.hands.is;
        merger_is = s.rest.merger;
        closed = s.rest.closed;
      })
      asked_now bodies_now files b.store b.dump b.beliefs (λ is. b.knows.sure (sym s.committing ∙ is)) (count_then old new (page_lane lane) made phase asked bodies files s.outcome b)
      (ids_then old new (page_lane lane) made phase asked bodies files s.outcome b) has
      (record {
        catalog = u.catalog;
        grows_is = u.grows_is;
        used = u.used;
        exact = exact_then;
        writes = ap ids_of lanes_now ∙ ids_set (lanes_of asked) lane None ∙ ap (λ ids. slice_set ids lane None) (u.writes ∙ ap writes_of_image s.making);
        job = record {
          some = w.some;
          chain = w.chain;
          newest = w.newest;
          within = λ k r. (let count = set_count old.phases call_slot (after phase made.request.id.call (is_done made.answer)) in
              let below = w.within k (record { place = r.place; from = r.from; is = r.is }) in omega (arith, below, count));
          unneeded = λ k i r held needed. w.unneeded k i (record { place = r.place; from = r.from; is = r.is }) held needed;
          apart = w.apart;
          image = making_then;
        };
      })
      (merge_then old.numbers.serial b.store (Some running) (slots_at old.phases bodies b.beliefs) old.numbers.serial b.store (Some (record running { image = Some later })) (slots_at phases_now bodies_now b.beliefs)
      (leaves_at old.numbers.serial b.store running (slots_at old.phases bodies b.beliefs) b.store (Some (record running { image = Some later })) (slots_at phases_now bodies_now b.beliefs) slot changes)
      asked asked_now (set_other asked (page_lane lane) 1 None (λ e. omega (arith, e))) old.merger (b.knows.merging s.rest.stands).spelled (merging_of old asked bodies files (Some running) s.rest.stands s.was b))

pub written_lem : WritesCommute → MakingLaws → QuietSteps → (old new : CoreView) (running : Running) (image next : Making) (made : Made) (phase : Phase) (asked : List (Option Asked)) (bodies files : List (List ℕ))
    → (s : PageIsWritten old running image made phase next new) → slice_get asked (page_lane s.hands.lane) ≡ Some (Some made.request) → Believes old asked bodies files
    → Believes new (slice_set asked (page_lane s.hands.lane) None) (bodies_after bodies made.request.id made.request.bytes) files
written_lem commutes making quiet old new running image next made phase asked bodies files s at b =
    written_then_believed commutes making quiet old new running image next made phase asked bodies files s at b

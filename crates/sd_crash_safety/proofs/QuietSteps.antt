-- Steps that leave what is believed of the slots.
use Rattle.std.proofs.Common.{◌≡◌, ◌≢◌, ◌⊎◌, ℕ, Bool, true, List, ◌∷◌, Option, Some, None, IfSome, slice_get, slice_set, refl, sym, ◌∙◌, ap, subst, inl, inr, arith}
use Rattle.std.proofs.lemmas.Bool.{cases_eq}
use Rattle.std.proofs.lemmas.Option.{same_Some, slice_get_within}
use Rattle.sd_command.specs.declared.command.Command.{Command}
use Rattle.sd_command.specs.declared.reply.Reply.{Reply}
use Rattle.sd_disk.specs.Contents.{file_at}
use Rattle.sd_gate.specs.declared.call.Call.TheVariants.{Write}
use Rattle.sd_gate.specs.declared.phase.Phase.{Phase}
use Rattle.sd_gate.specs.Calls.{is_done}
use Rattle.sd_gate.specs.Phases.{after, body_after, bodies_after, is_ready, may_write, phases_after}
use Rattle.sd_gate.specs.Requests.{Asked, Made}
use Rattle.sd_gate.specs.Sequences.{data_place}
use Rattle.sd_image.specs.Image.{Image}
use Rattle.sd_journal.specs.declared.entry.Entry.TheVariants.{Applied, Freeze, Cancelled}
use Rattle.sd_journal.specs.Allowed.{Shown, IsLastPair, IsPendingPair}
use Rattle.sd_journal.specs.History.{Base, History, pending}
use Rattle.sd_journal.specs.Laws.{JournalLaws}
use Rattle.sd_journal.specs.Legal.{IsLegal}
use Rattle.sd_store_laws.specs.Beliefs.{Belief, Closed}
use Rattle.sd_store_laws.specs.Gates.{AreBelieved, IsBelievedAs, IsWeaker, MayBelieve}
use Rattle.sd_store_laws.specs.GateSteps.{BeliefsFollowCalls, OneBeliefChanges}
use Rattle.sd_store_laws.specs.Store.{Store}
use Rattle.sd_crash_safety.specs.Believes.{HasStore, IsCovered, ShowsPending}
use Rattle.sd_crash_safety.specs.Calls.{WritesDataPage}
use Rattle.sd_crash_safety.specs.StoreSteps.{AreGivenUp, IsOutcomeOf, IsQuiet, MayAsk, QuietSteps}
use Rattle.sd_store_laws.proofs.SlotSteps.{set_other}
use Rattle.sd_crash_safety.proofs.Places.{body_other, has_too, set_again, set_count, set_same}

-- a slot has one phase
same_phase : (phases : List Phase) (slot : ℕ) (one other : Phase) → slice_get phases slot ≡ Some one → slice_get phases slot ≡ Some other → one ≡ other
same_phase phases slot one other is is_too = same_Some one other (sym is ∙ is_too)

-- ---- requests

-- each request that is out when one more is asked for is that one, or was out before
pub asked_cases : (asked : List (Option Asked)) (worker other : ℕ) (was : Option Asked) (request r : Asked) → slice_get asked worker ≡ Some was
    → slice_get (slice_set asked worker (Some request)) other ≡ Some (Some r)
    → (r ≡ request) ⊎ ((other ≢ worker) × (slice_get asked other ≡ Some (Some r)))
asked_cases asked worker other was request r at out = grind (arith, cases_eq, same_Some, set_same, set_other)

-- and each that is out when one was handed in was out before, of another worker
pub left_cases : (asked : List (Option Asked)) (worker other : ℕ) (was : Option Asked) (r : Asked) → slice_get asked worker ≡ Some was
    → slice_get (slice_set asked worker None) other ≡ Some (Some r) → (other ≢ worker) × (slice_get asked other ≡ Some (Some r))
left_cases asked worker other was r at out = grind (arith, cases_eq, same_Some, set_same, set_other)

-- ---- a slot after its gate is written by several requests

-- after one write it is ready for the next
written_ready : (phase : Phase) (at : ℕ) (done : Bool) → may_write phase ≡ true → may_write (after phase (Write at) done) ≡ true
written_ready phase at done ready = grind arith

-- and is believed closed then, whatever its body
closed_so : (phase : Phase) (body : List ℕ) (belief : Belief) → MayBelieve phase body belief → IsBelievedAs phase body Closed → ((strong : Belief) → IsBelievedAs phase body strong → strong ≡ Closed)
    → IsWeaker Closed belief
closed_so phase body belief may is only = subst (λ strong. IsWeaker strong belief) (only may.strong may.is) may.weaker

written_closed : (phase : Phase) (at : ℕ) (body : List ℕ) (belief : Belief) (done : Bool) → may_write phase ≡ true → MayBelieve (after phase (Write at) done) body belief → IsWeaker Closed belief
written_closed phase at body belief done ready may = grind arith

still_closed : (phase : Phase) (at : ℕ) (body : List ℕ) (belief : Belief) (done : Bool) → may_write phase ≡ true → IsWeaker Closed belief → MayBelieve (after phase (Write at) done) body belief
still_closed phase at body belief done ready weaker = grind arith

written_believed : (phase : Phase) (at other : ℕ) (body later : List ℕ) (belief : Belief) (done later_done : Bool) → may_write phase ≡ true → MayBelieve (after phase (Write at) done) body belief
    → MayBelieve (after (after phase (Write at) done) (Write other) later_done) later belief
written_believed phase at other body later belief done later_done ready may =
    still_closed (after phase (Write at) done) other later belief later_done (written_ready phase at done ready) (written_closed phase at body belief done ready may)

module _ (base : Base) (history : History) (phases : List Phase) (asked : List (Option Asked)) (bodies : List (List ℕ))
    (store : Store) (dump : Option Image) (beliefs : List Belief) (has : HasStore base history phases asked bodies store dump beliefs) where
  -- a request for a quiet call is covered by what is believed of its slot
  quiet_covered : BeliefsFollowCalls → (worker : ℕ) (request : Asked) → (may : MayAsk phases asked worker request) → IsQuiet may.phase request.id.call
      → IsCovered phases bodies beliefs request
  quiet_covered follow worker request may quiet =
      let found = has_too phases beliefs request.id.slot may.phase has.believed.count may.waits.is in
      record {
        phase = may.phase;
        waits = may.waits;
        belief = found.0;
        is = found.1;
        believed = λ done. follow.stays may.phase (file_at bodies request.id.slot) request.bytes request.id.call done found.0 may.waits.ready quiet.opens quiet.closes
            (has.believed.each request.id.slot may.phase found.0 may.waits.is found.1);
      }

  pub asks_lem : BeliefsFollowCalls → (worker : ℕ) (request : Asked) → (may : MayAsk phases asked worker request) → IsQuiet may.phase request.id.call
      → HasStore base history phases (slice_set asked worker (Some request)) bodies store dump beliefs
  asks_lem follow worker request may quiet = record {
    sound = has.sound;
    slots = has.slots;
    believed = has.believed;
    stored = has.stored;
    waiting = λ other r out. elim (asked_cases asked worker other None request r may.free out) [
      | inl it ↦ subst (IsCovered phases bodies beliefs) (sym it) (quiet_covered follow worker request may quiet)
      | inr old ↦ has.waiting other r old.1
    ];
    last = has.last;
    next = has.next;
  }

  -- ---- outcomes

  module _ (worker : ℕ) (made : Made) (o : IsOutcomeOf phases asked worker made) where
    abbrev slot : ℕ
    slot = made.request.id.slot

    abbrev next_phases : List Phase
    next_phases = phases_after phases made.request.id o.phase (is_done made.answer)

    abbrev next_bodies : List (List ℕ)
    next_bodies = bodies_after bodies made.request.id made.request.bytes

    own : IsCovered phases bodies beliefs made.request
    own = has.waiting worker made.request o.out

    own_may : MayBelieve (after o.phase made.request.id.call (is_done made.answer))
        (body_after (file_at bodies slot) made.request.id.call made.request.bytes) own.belief
    own_may = grind arith

    -- a request on another slot is covered as before
    other_covered : (r : Asked) → r.id.slot ≢ slot → IsCovered phases bodies beliefs r → IsCovered next_phases next_bodies beliefs r
    other_covered r elsewhere c = grind (arith, set_other, body_other)

    -- the write of another page of this slot is, too
    page_covered : (r : Asked) → r.id.slot ≡ slot → WritesDataPage made.request.id → WritesDataPage r.id → IsCovered phases bodies beliefs r → IsCovered next_phases next_bodies beliefs r
    page_covered r same one other c =
        let here : slice_get next_phases slot ≡ Some (after o.phase made.request.id.call (is_done made.answer)) =
        set_same phases slot o.phase (after o.phase made.request.id.call (is_done made.answer)) o.waits.is in
        let ready : may_write o.phase ≡ true = ap (is_ready o.phase) (sym one.call) ∙ o.waits.ready in
        let belief_is : own.belief ≡ c.belief = same_Some own.belief c.belief (sym own.is ∙ ap (slice_get beliefs) (sym same) ∙ c.is) in
        record {
          phase = after o.phase made.request.id.call (is_done made.answer);
          waits = record {
            is = ap (slice_get next_phases) same ∙ here;
            ready = ap (is_ready (after o.phase made.request.id.call (is_done made.answer))) other.call
                ∙ ap (λ call. may_write (after o.phase call (is_done made.answer))) one.call ∙ written_ready o.phase (data_place one.place) (is_done made.answer) ready;
          };
          belief = c.belief;
          is = c.is;
          believed = λ done. subst (MayBelieve (after (after o.phase made.request.id.call (is_done made.answer)) r.id.call done) (body_after (file_at next_bodies r.id.slot) r.id.call r.bytes)) belief_is
              (subst (λ call. MayBelieve (after (after o.phase made.request.id.call (is_done made.answer)) call done) (body_after (file_at next_bodies r.id.slot) r.id.call r.bytes) own.belief) (sym other.call)
              (subst (λ call. MayBelieve (after (after o.phase call (is_done made.answer)) (Write (data_place other.place)) done) (body_after (file_at next_bodies r.id.slot) r.id.call r.bytes) own.belief) (sym one.call)
              (written_believed o.phase (data_place one.place) (data_place other.place) _ _ own.belief (is_done made.answer) done ready
              (subst (λ call. MayBelieve (after o.phase call (is_done made.answer)) (body_after (file_at bodies slot) made.request.id.call made.request.bytes) own.belief) one.call own_may))));
        }

    pub handed_lem : OneBeliefChanges → HasStore base history next_phases (slice_set asked worker None) next_bodies store dump beliefs
    handed_lem changes = record {
      sound = has.sound;
      slots = has.slots;
      believed = subst (AreBelieved next_phases next_bodies) (set_again beliefs slot own.belief own.is)
          (changes phases bodies beliefs slot (after o.phase made.request.id.call (is_done made.answer))
          (body_after (file_at bodies slot) made.request.id.call made.request.bytes) own.belief has.stored
          (slice_get_within phases slot o.phase o.waits.is) has.believed own_may);
      stored = set_count bodies slot (body_after (file_at bodies slot) made.request.id.call made.request.bytes) ∙ has.stored
          ∙ sym (set_count phases slot (after o.phase made.request.id.call (is_done made.answer)));
      waiting = λ other r out.
          let old = left_cases asked worker other (Some made.request) r o.out out in
          elim (cases_eq r.id.slot slot) [
            | inl same ↦ (let pages = o.others other r old.0 old.1 same in page_covered r same pages.0 pages.1 (has.waiting other r old.1))
            | inr elsewhere ↦ other_covered r elsewhere (has.waiting other r old.1)
          ];
      last = has.last;
      next = has.next;
    }

  -- ---- jobs that are given up

  module _ (new : List Phase) (given : AreGivenUp asked phases new) where
    still_waits : (worker : ℕ) (r : Asked) → slice_get asked worker ≡ Some (Some r) → IsCovered phases bodies beliefs r → IsCovered new bodies beliefs r
    still_waits worker r out c = grind (arith, has_too, same_phase)

    each_still : BeliefsFollowCalls → (slot : ℕ) (phase : Phase) (belief : Belief) → slice_get new slot ≡ Some phase → slice_get beliefs slot ≡ Some belief
        → MayBelieve phase (file_at bodies slot) belief
    each_still follow slot phase belief at of =
        let how = given.each slot phase at in
        let before : MayBelieve how.0 (file_at bodies slot) belief = has.believed.each slot how.0 belief how.1 of in
        elim how.2 [
          | inl same ↦ subst (λ p. MayBelieve p (file_at bodies slot) belief) (sym same) before
          | inr up ↦ subst (λ p. MayBelieve p (file_at bodies slot) belief) (sym up.0) (follow.given_up how.0 (file_at bodies slot) belief before)
        ]

    pub given_up_lem : BeliefsFollowCalls → HasStore base history new asked bodies store dump beliefs
    given_up_lem follow = record {
      sound = has.sound;
      slots = has.slots;
      believed = record { count = has.believed.count ∙ sym given.count; each = each_still follow };
      stored = has.stored ∙ sym given.count;
      waiting = λ worker r out. still_waits worker r out (has.waiting worker r out);
      last = has.last;
      next = has.next;
    }

-- ---- the journal

-- another journal shows the same last pair, and the same pending one
pub with_history : (base : Base) (old new : History) (phases : List Phase) (asked : List (Option Asked)) (bodies : List (List ℕ))
    (store : Store) (dump : Option Image) (beliefs : List Belief)
    → ((shown : Shown) → IsLastPair base old shown → IsLastPair base new shown)
    → ((image : Image) → dump ≡ Some image → (shown : Shown) → IsPendingPair base old shown → IsPendingPair base new shown)
    → HasStore base old phases asked bodies store dump beliefs → HasStore base new phases asked bodies store dump beliefs
with_history base old new phases asked bodies store dump beliefs lasts pends has = record {
  sound = has.sound;
  slots = has.slots;
  believed = has.believed;
  stored = has.stored;
  waiting = has.waiting;
  last = record { shown = has.last.shown; is = lasts has.last.shown has.last.is; shows = has.last.shows };
  next = pending_on dump pends has.next;
}
  where
    pending_on : (d : Option Image) → ((image : Image) → d ≡ Some image → (shown : Shown) → IsPendingPair base old shown → IsPendingPair base new shown)
        → IfSome d (λ image. ShowsPending base old (image ∷ store.catalog)) → IfSome d (λ image. ShowsPending base new (image ∷ store.catalog))
    pending_on None moves before = tt
    pending_on (Some image) moves before = record { shown = before.shown; is = moves image refl before.shown before.is; shows = before.shows }

applied_last : (base : Base) (history : History) (seat : ℕ) (command : Command) (told : Reply) (shown : Shown)
    → IsLastPair base history shown → IsLastPair base (Applied seat command told ∷ history) shown
applied_last base history seat command told shown is = grind arith

applied_pending : (base : Base) (history : History) (seat : ℕ) (command : Command) (told : Reply) (shown : Shown)
    → IsPendingPair base history shown → IsPendingPair base (Applied seat command told ∷ history) shown
applied_pending base history seat command told shown is = grind arith

cancelled_last : (base : Base) (history : History) (n : ℕ) (shown : Shown) → IsLastPair base history shown → IsLastPair base (Cancelled n ∷ history) shown
cancelled_last base history n shown is = grind arith

froze_last : JournalLaws → (base : Base) (history : History) (n : ℕ) → IsLegal base (Freeze n ∷ history) → (shown : Shown)
    → IsLastPair base history shown → IsLastPair base (Freeze n ∷ history) shown
froze_last laws base history n legal shown is = grind arith

none_pending : (base : Base) (history : History) (shown : Shown) → pending history ≡ None → IsPendingPair base history shown → ⊥
none_pending base history shown none is = grind arith

pub quiet_steps_lem : BeliefsFollowCalls → OneBeliefChanges → JournalLaws → QuietSteps
quiet_steps_lem follow changes laws = record {
  asks = λ base history phases asked bodies store dump beliefs worker request may quiet has.
      asks_lem base history phases asked bodies store dump beliefs has follow worker request may quiet;
  handed = λ base history phases asked bodies store dump beliefs worker made o has.
      handed_lem base history phases asked bodies store dump beliefs has worker made o changes;
  given_up = λ base history phases new asked bodies store dump beliefs given has.
      given_up_lem base history phases asked bodies store dump beliefs has new given follow;
  applied = λ base history phases asked bodies store dump beliefs seat command told has.
      with_history base history (Applied seat command told ∷ history) phases asked bodies store dump beliefs
      (applied_last base history seat command told) (λ image is. applied_pending base history seat command told) has;
  froze = λ base history phases asked bodies store dump beliefs n legal has.
      with_history base history (Freeze n ∷ history) phases asked bodies store dump beliefs
      (froze_last laws base history n legal) (λ image is shown pends. absurd (none_pending base history shown legal.0.0 pends)) has;
  cancelled = λ base history phases asked bodies store beliefs n has.
      with_history base history (Cancelled n ∷ history) phases asked bodies store None beliefs
      (cancelled_last base history n) (λ image is shown pends. absurd (let no : None ≡ Some image = is in cc)) has;
}

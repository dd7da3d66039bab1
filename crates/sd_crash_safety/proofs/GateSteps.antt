-- Steps that open and close gates, and jobs that begin and are cancelled.
use Rattle.std.proofs.Common.{◌≡◌, ◌≢◌, ℕ, true, List, ◌∷◌, length, Contains, Option, Some, None, IfSome, slice_get, slice_set, refl, sym, ◌∙◌, ap, subst, inl, inr, arith}
use Rattle.std.proofs.lemmas.Option.{slice_get_within}
use Rattle.sd_disk.specs.Contents.{file_at}
use Rattle.sd_gate.specs.declared.phase.Phase.{Phase}
use Rattle.sd_gate.specs.declared.phase.Phase.TheVariants.{Whole, Shut}
use Rattle.sd_gate.specs.Phases.{after, body_after, is_ready}
use Rattle.sd_gate.specs.Requests.{Asked}
use Rattle.sd_image.specs.Image.{Image, IsImage, gate, is_open}
use Rattle.sd_image.specs.Shows.{ImagesShow}
use Rattle.sd_image.proofs.Members.{contains_at}
use Rattle.sd_journal.specs.declared.entry.Entry.TheVariants.{Acked}
use Rattle.sd_journal.specs.Allowed.{Shown, IsLastPair, IsPendingPair}
use Rattle.sd_journal.specs.History.{Base, History}
use Rattle.sd_journal.specs.Legal.{IsLegal}
use Rattle.sd_store_laws.specs.Beliefs.{AreSlotsOf, Belief, Closed, Kept, Closing, Opening, FitsBelief, IsAdded}
use Rattle.sd_store_laws.specs.Gates.{AreBelieved, MayBelieve}
use Rattle.sd_store_laws.specs.GateSteps.{BeliefsFollowCalls, OneBeliefChanges}
use Rattle.sd_store_laws.specs.Opens.{StepsShow}
use Rattle.sd_store_laws.specs.Pending.{PendingShows}
use Rattle.sd_store_laws.specs.SlotSteps.{ClosingRetires, Lacks, SlotsDrop, SlotsFollowCalls, SlotsFollowImages, SlotsFollowJobs, with_belief}
use Rattle.sd_store_laws.specs.Steps.{StepsKeep, added, cancelled, checkpoint_begun, committed, merging, replaced, retired}
use Rattle.sd_store_laws.specs.Store.{IsNextDump, IsNextPreDump, IsSoundStore, Store}
use Rattle.sd_crash_safety.specs.Believes.{HasStore, IsCovered, ShowsPending}
use Rattle.sd_crash_safety.specs.GateSteps.{GateSteps, GateStepsAt, IsOnlyMergedCopy, MayClose}
use Rattle.sd_crash_safety.specs.LiveImages.{NoneAt}
use Rattle.sd_crash_safety.specs.StoreSteps.{IsShut, MayOpen, SlotIsOpened}
use Rattle.sd_image.proofs.ReadyLemmas.{image_opens}
use Rattle.sd_store_laws.proofs.SlotSteps.{set_other}
use Rattle.sd_store_laws.proofs.Pending.{adds_front as in_front}
use Rattle.sd_crash_safety.proofs.Places.{body_again, set_again, set_same}
use Rattle.sd_crash_safety.proofs.QuietSteps.{asked_cases}

-- ---- one belief changes

module _ (phases : List Phase) (bodies : List (List ℕ)) (beliefs : List Belief) (slot : ℕ) (belief was : Belief) (there : slice_get beliefs slot ≡ Some was) where
  abbrev pub now : List Belief
  now = with_belief beliefs slot belief

  -- it is one that the slot's phase allows
  rebelieved : OneBeliefChanges → length bodies ≡ length phases → (phase : Phase) → slice_get phases slot ≡ Some phase → AreBelieved phases bodies beliefs
      → MayBelieve phase (file_at bodies slot) belief → AreBelieved phases bodies now
  rebelieved changes stored phase at are may =
      subst (λ all. AreBelieved all bodies now) (set_again phases slot phase at)
      (subst (λ all. AreBelieved (slice_set phases slot phase) all now) (body_again bodies slot)
      (changes phases bodies beliefs slot phase (file_at bodies slot) belief stored (slice_get_within phases slot phase at) are may))

  -- a request on another slot is covered as before
  elsewhere : (r : Asked) → r.id.slot ≢ slot → IsCovered phases bodies beliefs r → IsCovered phases bodies now r
  elsewhere r other c = grind (arith, set_other)

  none_elsewhere : (asked : List (Option Asked)) → NoneAt asked slot
      → ((worker : ℕ) (r : Asked) → slice_get asked worker ≡ Some (Some r) → IsCovered phases bodies beliefs r)
      → (worker : ℕ) (r : Asked) → slice_get asked worker ≡ Some (Some r) → IsCovered phases bodies now r
  none_elsewhere asked none before worker r out = elsewhere r (none worker r out) (before worker r out)

  -- the slot's own request, and those on others
  one_more : (asked : List (Option Asked)) (worker : ℕ) (request : Asked) → slice_get asked worker ≡ Some None → NoneAt asked slot
      → IsCovered phases bodies now request
      → ((other : ℕ) (r : Asked) → slice_get asked other ≡ Some (Some r) → IsCovered phases bodies beliefs r)
      → (other : ℕ) (r : Asked) → slice_get (slice_set asked worker (Some request)) other ≡ Some (Some r) → IsCovered phases bodies now r
  one_more asked worker request free none own before other r out = elim (asked_cases asked worker other None request r free out) [
    | inl it ↦ subst (IsCovered phases bodies now) (sym it) own
    | inr old ↦ elsewhere r (none other r old.1) (before other r old.1)
  ]

-- an image that is believed to be opening, in a slot whose file is whole, is the slot's
whole_is : (body : List ℕ) (i : Image) → MayBelieve Whole body (Opening i) → IsImage (gate ∷ body) i
whole_is body i may =
    let kept : (j : Image) × (may.strong ≡ Kept j) × IsImage (gate ∷ body) j = may.is in
    let file : FitsBelief may.strong (gate ∷ body) = subst (λ b. FitsBelief b (gate ∷ body)) (sym kept.1) kept.2 in
    elim (may.weaker (gate ∷ body) file) [
      | inl shut ↦ absurd (let opens : is_open (gate ∷ body) ≡ true = image_opens (gate ∷ body) kept.0 kept.2 in cc)
      | inr is ↦ is
    ]

kept_may : (body : List ℕ) (i : Image) → IsImage (gate ∷ body) i → MayBelieve Whole body (Kept i)
kept_may body i is = record { strong = Kept i; is = (i, refl, is); weaker = λ file fits. fits }

shut_may : (body : List ℕ) → MayBelieve Shut body Closed
shut_may body = record { strong = Closed; is = refl; weaker = λ file fits. fits }

-- ---- the steps

pub record StoreLaws : Type 0 where
  pub follow : BeliefsFollowCalls
  pub changes : OneBeliefChanges
  pub keep : StepsKeep
  pub show : StepsShow
  pub pends : PendingShows
  pub closing : ClosingRetires
  pub drop : SlotsDrop
  pub calls : SlotsFollowCalls
  pub images : SlotsFollowImages
  pub jobs : SlotsFollowJobs

-- what the pending dump would show it shows over another catalog
pending_over : (base : Base) (history : History) (dump : Option Image) (old new : List Image)
    → ((d : Image) → dump ≡ Some d → (shown : Shown) → ImagesShow (d ∷ old) shown → ImagesShow (d ∷ new) shown)
    → IfSome dump (λ image. ShowsPending base history (image ∷ old)) → IfSome dump (λ image. ShowsPending base history (image ∷ new))
pending_over base history dump old new shows before = grind arith

-- the pending dump that slots have is the running checkpoint's next
dump_is : (store : Store) (dump : Option Image) (d : Image) → dump ≡ Some d → IfSome dump (IsNextDump store) → IsNextDump store d
dump_is store dump d is next = subst (λ o. IfSome o (IsNextDump store)) is next

serial_is : (i d : Image) (dump : Option Image) → dump ≡ Some d → IfSome dump (λ e. i.header.serial ≢ e.header.serial) → i.header.serial ≢ d.header.serial
serial_is i d dump is other = subst (λ o. IfSome o (λ e. i.header.serial ≢ e.header.serial)) is other

module _ (laws : StoreLaws) (base : Base) (history : History) (phases : List Phase) (asked : List (Option Asked)) (bodies : List (List ℕ)) where
  abbrev Has : List (Option Asked) → Store → Option Image → List Belief → Type 0
  Has requests store dump beliefs = HasStore base history phases requests bodies store dump beliefs

  -- ---- a gate begins to be opened or closed

  opening_covered : (beliefs : List Belief) (worker : ℕ) (request : Asked) (i : Image) → MayOpen phases asked bodies beliefs worker request i
      → IsCovered phases bodies (with_belief beliefs request.id.slot (Opening i)) request
  opening_covered beliefs worker request i may = record {
    phase = may.may.phase;
    waits = may.may.waits;
    belief = Opening i;
    is = set_same beliefs request.id.slot Closed (Opening i) may.belief;
    believed = λ done. subst (λ call. MayBelieve (after may.may.phase call done) (body_after (file_at bodies request.id.slot) call request.bytes) (Opening i)) (sym may.call)
        (laws.follow.opens may.may.phase (file_at bodies request.id.slot) request.bytes done i
        (subst (λ call. is_ready may.may.phase call ≡ true) may.call may.may.waits.ready) may.image).1;
  }

  opening_may : (beliefs : List Belief) (worker : ℕ) (request : Asked) (i : Image) (may : MayOpen phases asked bodies beliefs worker request i)
      → MayBelieve may.may.phase (file_at bodies request.id.slot) (Opening i)
  opening_may beliefs worker request i may = (laws.follow.opens may.may.phase (file_at bodies request.id.slot) request.bytes true i
      (subst (λ call. is_ready may.may.phase call ≡ true) may.call may.may.waits.ready) may.image).0

  opened_has : (store : Store) (old dump : Option Image) (beliefs : List Belief) (worker : ℕ) (request : Asked) (i : Image)
      → MayOpen phases asked bodies beliefs worker request i → AreSlotsOf store dump (with_belief beliefs request.id.slot (Opening i))
      → IfSome dump (λ image. ShowsPending base history (image ∷ store.catalog)) → Has asked store old beliefs
      → Has (slice_set asked worker (Some request)) store dump (with_belief beliefs request.id.slot (Opening i))
  opened_has store old dump beliefs worker request i may slots next has = record {
    sound = has.sound;
    slots = slots;
    believed = rebelieved phases bodies beliefs request.id.slot (Opening i) Closed may.belief laws.changes has.stored may.may.phase may.may.waits.is has.believed
        (opening_may beliefs worker request i may);
    stored = has.stored;
    waiting = one_more phases bodies beliefs request.id.slot (Opening i) Closed may.belief asked worker request may.may.free may.none
        (opening_covered beliefs worker request i may) has.waiting;
    last = has.last;
    next = next;
  }

  opens_dump : (store : Store) (beliefs : List Belief) (worker : ℕ) (request : Asked) (i : Image)
      → MayOpen phases asked bodies beliefs worker request i → IsNextDump store i → ShowsPending base history (i ∷ store.catalog)
      → Has asked store None beliefs
      → Has (slice_set asked worker (Some request)) store (Some i) (with_belief beliefs request.id.slot (Opening i))
  opens_dump store beliefs worker request i may next shows has =
      opened_has store None (Some i) beliefs worker request i may
      (laws.calls.opens store (Some i) beliefs request.id.slot i (laws.calls.pends store beliefs i has.slots next) may.belief (inr (inr refl)) may.alone) shows has

  opens : (store : Store) (dump : Option Image) (beliefs : List Belief) (worker : ℕ) (request : Asked) (i : Image)
      → MayOpen phases asked bodies beliefs worker request i → IsAdded store dump i → Has asked store dump beliefs
      → Has (slice_set asked worker (Some request)) store dump (with_belief beliefs request.id.slot (Opening i))
  opens store dump beliefs worker request i may adds has =
      opened_has store dump dump beliefs worker request i may
      (laws.calls.opens store dump beliefs request.id.slot i has.slots may.belief adds may.alone) has.next has

  whole_may : (store : Store) (dump : Option Image) (beliefs : List Belief) (worker : ℕ) (request : Asked) (i : Image)
      → MayClose phases asked store beliefs worker request i → Has asked store dump beliefs → MayBelieve Whole (file_at bodies request.id.slot) (Kept i)
  whole_may store dump beliefs worker request i may has =
      has.believed.each request.id.slot Whole (Kept i) (may.may.waits.is ∙ ap Some may.phase) may.belief

  closing_covered : (beliefs : List Belief) (store : Store) (worker : ℕ) (request : Asked) (i : Image) → MayClose phases asked store beliefs worker request i
      → MayBelieve Whole (file_at bodies request.id.slot) (Kept i) → IsCovered phases bodies (with_belief beliefs request.id.slot (Closing i)) request
  closing_covered beliefs store worker request i may whole = record {
    phase = Whole;
    waits = record { is = may.may.waits.is ∙ ap Some may.phase; ready = subst (λ phase. is_ready phase request.id.call ≡ true) may.phase may.may.waits.ready };
    belief = Closing i;
    is = set_same beliefs request.id.slot (Kept i) (Closing i) may.belief;
    believed = λ done. subst (λ call. MayBelieve (after Whole call done) (body_after (file_at bodies request.id.slot) call request.bytes) (Closing i)) (sym may.call)
        (laws.follow.closes (file_at bodies request.id.slot) request.bytes done i whole).1;
  }

  closes : (store : Store) (dump : Option Image) (beliefs : List Belief) (worker : ℕ) (request : Asked) (i : Image)
      → MayClose phases asked store beliefs worker request i → Has asked store dump beliefs
      → Has (slice_set asked worker (Some request)) store dump (with_belief beliefs request.id.slot (Closing i))
  closes store dump beliefs worker request i may has =
      let whole = whole_may store dump beliefs worker request i may has in
      record {
        sound = has.sound;
        slots = laws.calls.closes store dump beliefs request.id.slot i has.slots may.belief may.unneeded;
        believed = rebelieved phases bodies beliefs request.id.slot (Closing i) (Kept i) may.belief laws.changes has.stored Whole (may.may.waits.is ∙ ap Some may.phase) has.believed
            (laws.follow.closes (file_at bodies request.id.slot) request.bytes true i whole).0;
        stored = has.stored;
        waiting = one_more phases bodies beliefs request.id.slot (Closing i) (Kept i) may.belief asked worker request may.may.free may.none
            (closing_covered beliefs store worker request i may whole) has.waiting;
        last = has.last;
        next = has.next;
      }

  -- ---- an image is open for sure

  module _ (beliefs : List Belief) (slot : ℕ) (i : Image) (opened : SlotIsOpened phases asked beliefs slot i) where
    opened_whole : (store : Store) (dump : Option Image) → Has asked store dump beliefs → AreBelieved phases bodies (with_belief beliefs slot (Kept i))
    opened_whole store dump has =
        rebelieved phases bodies beliefs slot (Kept i) (Opening i) opened.belief laws.changes has.stored Whole opened.phase has.believed
        (kept_may (file_at bodies slot) i (whole_is (file_at bodies slot) i (has.believed.each slot Whole (Opening i) opened.phase opened.belief)))

    opened_waiting : (store : Store) (dump : Option Image) → Has asked store dump beliefs
        → (worker : ℕ) (r : Asked) → slice_get asked worker ≡ Some (Some r) → IsCovered phases bodies (with_belief beliefs slot (Kept i)) r
    opened_waiting store dump has = none_elsewhere phases bodies beliefs slot (Kept i) (Opening i) opened.belief asked opened.none has.waiting

    adds : (store : Store) → IsNextPreDump store i → Has asked store None beliefs
        → Has asked (added store (i ∷ store.catalog) i.header.stands_for) None (with_belief beliefs slot (Kept i))
    adds store next has =
        let more = in_front store.catalog i in
        record {
          sound = laws.keep.adds store i (i ∷ store.catalog) has.sound next more;
          slots = laws.images.adds store beliefs slot i (i ∷ store.catalog) has.sound has.slots opened.belief next more;
          believed = opened_whole store None has;
          stored = has.stored;
          waiting = opened_waiting store None has;
          last = record { shown = has.last.shown; is = has.last.is; shows = laws.show.adds store i (i ∷ store.catalog) has.last.shown has.sound next more has.last.shows };
          next = tt;
        }

    acked_last : (n : ℕ) (shown : Shown) → IsLegal base (Acked n ∷ history) → IsPendingPair base history shown → IsLastPair base (Acked n ∷ history) shown
    acked_last n shown legal is = grind arith

    commits : (store : Store) (n : ℕ) → IsLegal base (Acked n ∷ history) → Has asked store (Some i) beliefs
        → HasStore base (Acked n ∷ history) phases asked bodies (committed store (i ∷ store.catalog)) None (with_belief beliefs slot (Kept i))
    commits store n legal has =
        let more = in_front store.catalog i in
        record {
          sound = laws.keep.commits store i (i ∷ store.catalog) has.sound has.slots.dump more;
          slots = laws.images.commits store beliefs slot i (i ∷ store.catalog) has.sound has.slots opened.belief more;
          believed = opened_whole store (Some i) has;
          stored = has.stored;
          waiting = opened_waiting store (Some i) has;
          last = record { shown = has.next.shown; is = acked_last n has.next.shown legal has.next.is; shows = has.next.shows };
          next = tt;
        }

    replaces : (store : Store) (dump : Option Image) → IsOnlyMergedCopy store dump beliefs i → Has asked store dump beliefs
        → Has asked (replaced store (i ∷ store.catalog)) dump (with_belief beliefs slot (Kept i))
    replaces store dump only has =
        let more = in_front store.catalog i in
        record {
          sound = laws.keep.replaces store i (i ∷ store.catalog) has.sound only.twin more;
          slots = laws.images.replaces store dump beliefs slot i (i ∷ store.catalog) has.sound has.slots opened.belief only.twin more only.only only.serial;
          believed = opened_whole store dump has;
          stored = has.stored;
          waiting = opened_waiting store dump has;
          last = record { shown = has.last.shown; is = has.last.is; shows = laws.show.replaces store i (i ∷ store.catalog) has.last.shown has.sound only.twin more has.last.shows };
          next = pending_over base history dump store.catalog (i ∷ store.catalog)
              (λ d is shown shows. laws.pends.replaces store d i (i ∷ store.catalog) shown has.sound (dump_is store dump d is has.slots.dump) only.twin
              (λ same. serial_is i d dump is only.serial (sym same)) more shows) has.next;
        }

  -- ---- an image is closed for sure

  module _ (beliefs : List Belief) (slot : ℕ) (shut : IsShut phases asked slot) where
    shut_believed : (was : Belief) → slice_get beliefs slot ≡ Some was → (store : Store) (dump : Option Image) → Has asked store dump beliefs
        → AreBelieved phases bodies (with_belief beliefs slot Closed)
    shut_believed was there store dump has =
        rebelieved phases bodies beliefs slot Closed was there laws.changes has.stored Shut shut.phase has.believed (shut_may (file_at bodies slot))

    drops : (store : Store) (dump : Option Image) (i : Image) → slice_get beliefs slot ≡ Some (Opening i) → Has asked store dump beliefs
        → Has asked store dump (with_belief beliefs slot Closed)
    drops store dump i there has = record {
      sound = has.sound;
      slots = (laws.drop store dump beliefs slot i has.slots there).0;
      believed = shut_believed (Opening i) there store dump has;
      stored = has.stored;
      waiting = none_elsewhere phases bodies beliefs slot Closed (Opening i) there asked shut.none has.waiting;
      last = has.last;
      next = has.next;
    }

    retires : (store : Store) (dump : Option Image) (i : Image) → slice_get beliefs slot ≡ Some (Closing i) → Has asked store dump beliefs
        → (new : List Image) × Lacks store.catalog i new × Has asked (retired store new) dump (with_belief beliefs slot Closed)
    retires store dump i there has =
        let member : Contains store.catalog i = (has.slots.catalog i).1 (inr (contains_at beliefs slot (Closing i) there)) in
        let lacks = laws.closing.lacks store i has.sound member in
        let gone = laws.closing.retires store dump beliefs slot i lacks.0 has.slots there lacks.1 in (
          lacks.0,
          lacks.1,
          record {
            sound = laws.keep.retires store lacks.0 has.sound gone;
            slots = laws.calls.closed store dump beliefs slot i lacks.0 has.sound has.slots there lacks.1;
            believed = shut_believed (Closing i) there store dump has;
            stored = has.stored;
            waiting = none_elsewhere phases bodies beliefs slot Closed (Closing i) there asked shut.none has.waiting;
            last = record { shown = has.last.shown; is = has.last.is; shows = laws.show.retires store lacks.0 has.last.shown has.sound gone has.last.shows };
            next = pending_over base history dump store.catalog lacks.0
                (λ d is shown shows. laws.pends.retires store d lacks.0 shown has.sound (dump_is store dump d is has.slots.dump) gone shows) has.next;
          },
        )

  -- ---- jobs

  jobs_change : (store new : Store) (dump : Option Image) (beliefs : List Belief) → new.catalog ≡ store.catalog → IsSoundStore new → AreSlotsOf new dump beliefs
      → Has asked store dump beliefs → Has asked new dump beliefs
  jobs_change store new dump beliefs same sound slots has = grind arith

  pub gate_steps_at : GateStepsAt base history phases asked bodies
  gate_steps_at = record {
    opens_dump = opens_dump;
    opens = opens;
    closes = closes;
    adds = λ store beliefs slot i opened next has. adds beliefs slot i opened store next has;
    commits = λ store beliefs slot n i opened legal has. commits beliefs slot i opened store n legal has;
    replaces = λ store dump beliefs slot i opened only has. replaces beliefs slot i opened store dump only has;
    retires = λ store dump beliefs slot i shut there has. retires beliefs slot shut store dump i there has;
    drops = λ store dump beliefs slot i shut there has. drops beliefs slot shut store dump i there has;
    begins = λ store beliefs tip grows is has. jobs_change store (checkpoint_begun store tip.header.stands_for) None beliefs refl
        (laws.keep.begins store tip has.sound grows is) (laws.jobs.begins store tip beliefs has.sound grows is has.slots) has;
    begins_whole = λ store beliefs has. jobs_change store (checkpoint_begun store 0) None beliefs refl
        (laws.keep.begins_whole store has.sound) (laws.jobs.begins_whole store beliefs has.sound has.slots) has;
    cancels = λ store beliefs has. jobs_change store (cancelled store) None beliefs refl
        (laws.keep.cancels store has.sound) (laws.jobs.cancels store beliefs has.sound has.slots) has;
    merges = λ store dump beliefs tip is idle has. jobs_change store (merging store tip) dump beliefs refl
        (laws.keep.merges store tip has.sound is) (laws.jobs.merges store tip dump beliefs has.sound is idle has.slots) has;
  }

pub gate_steps_lem : StoreLaws → GateSteps
gate_steps_lem laws base history phases asked bodies = gate_steps_at laws base history phases asked bodies

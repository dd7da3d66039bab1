-- An outcome of the merger's call is handed in: what is known of the open store then.
use Rattle.std.proofs.Common.{◌≡◌, ◌≢◌, ℕ, ◌+◌, Bool, true, false, List, [], ◌∷◌, ◌++◌, length, Option, Some, None, Contains, option_and_then, slice_get, slice_set, refl, sym, ◌∙◌, ap, subst, inl, inr, arith}
use Rattle.std.proofs.lemmas.Bool.{cases_Bool, cases_eq, cases_lt}
use Rattle.std.proofs.lemmas.Option.{same_Some, slice_get_within}
use Rattle.sd_disk.specs.Contents.{file_at}
use Rattle.sd_image.specs.declared.header.Header.{Header}
use Rattle.sd_image.specs.Image.{Image}
use Rattle.sd_image.specs.Shows.{IsNotAfter, IsRestorable, IsTip}
use Rattle.sd_image.specs.Table.{Listed}
use Rattle.sd_chain.specs.Catalog.{Places, place_of, without_slot}
use Rattle.sd_gate.specs.declared.phase.Phase.{Phase}
use Rattle.sd_gate.specs.declared.call.Call.TheVariants.{Sync}
use Rattle.sd_gate.specs.declared.phase.Phase.TheVariants.{Closing as ClosingPhase}
use Rattle.sd_gate.specs.Calls.{is_done}
use Rattle.sd_gate.specs.Phases.{after, body_after, bodies_after, phases_after, synced}
use Rattle.sd_gate.specs.Plans.{Planned}
use Rattle.sd_gate.specs.Requests.{Asked, Made}
use Rattle.sd_journal.specs.History.{Base, History}
use Rattle.sd_merge.specs.Merger as merger
use Rattle.sd_pagetable.specs.Contents.{Contents}
use Rattle.sd_image.proofs.Members.{contains_at}
use Rattle.sd_rounds.specs.declared.image_order.ImageOrder.{ImageOrder}
use Rattle.sd_rounds.specs.declared.stage.Stage.{Stage}
use Rattle.sd_rounds.specs.declared.stage.Stage.TheVariants.{Close}
use Rattle.sd_rounds.specs.Dumper.{IsReserved, Running}
use Rattle.sd_rounds.specs.Keeps.{ChainWithin, Rests}
use Rattle.sd_rounds.specs.Making.{plan_of}
use Rattle.sd_rounds.specs.MakingLaws.{MakingLaws}
use Rattle.sd_writing.specs.Files.{Pages}
use Rattle.sd_store_laws.specs.Beliefs.{Belief, Closed, Closing, Opening, image_at, image_in}
use Rattle.sd_store_laws.specs.Below.{StepsGive}
use Rattle.sd_store_laws.specs.Cut.{CutHoldsTheSame}
use Rattle.sd_store_laws.specs.LiveImages.{CatalogFollows, IsLiveCatalog}
use Rattle.sd_store_laws.specs.Gates.{IsBelievedAs, IsInDoubt, MayBelieve}
use Rattle.sd_store_laws.specs.Makers.{IsAboveStore}
use Rattle.sd_store_laws.specs.Needs.{IsNeededIn, NeedsNoMore}
use Rattle.sd_store_laws.specs.Needed.{by_job}
use Rattle.sd_store_laws.specs.SlotSteps.{ClosingRetires, Lacks, with_belief}
use Rattle.sd_store_laws.specs.Steps.{Retires, StepsKeep, checkpoint_begun, retired}
use Rattle.sd_store_laws.specs.Store.{IsSoundStore, Store}
use Rattle.sd_crash_safety.specs.Believes.{Believes, HasStore}
use Rattle.sd_crash_safety.specs.Calls.{IsFree}
use Rattle.sd_crash_safety.specs.DumperOutcomes.{LeavesCatalog, closes_for_sure}
use Rattle.sd_crash_safety.specs.GateSteps.{GateSteps}
use Rattle.sd_crash_safety.specs.LiveImages.{IsAtWork, IsLiveOn, IsNewNumber, IsSlotFor, NoneAt, chain_of, ids_of}
use Rattle.sd_crash_safety.specs.MergerOutcomes.{IsMergersOutcome}
use Rattle.sd_crash_safety.specs.MergerSteps.{MakesInItsSlot, OnlyMerges}
use Rattle.sd_crash_safety.specs.Merges.{IsMergeOn, IsSpared}
use Rattle.sd_crash_safety.specs.StoreSteps.{IsShut, QuietSteps}
use Rattle.sd_crash_safety.specs.View.{CoreView, history_of}
use Rattle.sd_crash_safety.proofs.HandsImage.{SlotGoesOn}
use Rattle.sd_crash_safety.proofs.HandsLaw.{file_set, removed_none}
use Rattle.sd_crash_safety.proofs.HandsSlot.{belief_after, closed_exact, closing_in_doubt, syncs_closing}
use Rattle.sd_crash_safety.proofs.MergeStays.{HoldsStill, IsSameSlot, Slots, holds_same, retires_still, slots_at}
use Rattle.sd_crash_safety.proofs.MergerUse.{other_slot}
use Rattle.sd_crash_safety.proofs.OpenCore.{believes_parts}
use Rattle.sd_store_laws.proofs.SlotSteps.{set_other}
use Rattle.sd_crash_safety.proofs.Places.{body_other, id_there, ids_set, set_count, set_same}
use Rattle.sd_crash_safety.proofs.WorkStays.{IsMakingNumber, LeavesWork, work_beside}
use Rattle.sd_crash_safety.proofs.Lanes.{lanes_beside}

-- ---- an outcome of the merger's

abbrev pub phases_then : CoreView → Made → Phase → List Phase
phases_then old made phase = phases_after old.phases made.request.id phase (is_done made.answer)

abbrev pub bodies_then : List (List ℕ) → Made → List (List ℕ)
bodies_then bodies made = bodies_after bodies made.request.id made.request.bytes

abbrev pub asked_then : List (Option Asked) → List (Option Asked)
asked_then asked = slice_set asked 1 None

module _ (old new : CoreView) (made : Made) (phase : Phase) (asked : List (Option Asked)) (bodies files : List (List ℕ)) (o : IsMergersOutcome old made phase new)
    (at : slice_get asked 1 ≡ Some (Some made.request)) (b : Believes old asked bodies files) where
  -- a slot on which none is out then
  pub none_on : (slot : ℕ) → IsFree (slice_set old.outs 1 None) slot → NoneAt (asked_then asked) slot
  none_on slot free worker request out same =
      free worker request.id (ap (λ ids. slice_get ids worker) (sym (ids_set asked 1 None ∙ ap (λ ids. slice_set ids 1 None) b.knows.out)) ∙ id_there (asked_then asked) worker request out) same

  none_other : (other : ℕ) (request : Asked) → slice_get asked other ≡ Some (Some request) → request.id.slot ≡ made.request.id.slot → other ≡ 1
  none_other other request is same = grind (arith, cases_eq, set_other, id_there)

  pub has_handed : QuietSteps → HasStore old.base (history_of old) (phases_then old made phase) (asked_then asked) (bodies_then bodies made) b.store b.dump b.beliefs
  has_handed quiet =
      let covered = b.has.waiting 1 made.request at in
      let same : covered.phase ≡ phase = same_Some covered.phase phase (sym covered.waits.is ∙ o.phase_is) in
      subst (λ p. HasStore old.base (history_of old) (phases_then old made p) (asked_then asked) (bodies_then bodies made) b.store b.dump b.beliefs) same
      (quiet.handed old.base (history_of old) old.phases asked bodies b.store b.dump b.beliefs 1 made
      (record { out = at; others = λ other request differs is same. absurd (differs (none_other other request is same)); phase = covered.phase; waits = covered.waits }) b.has)

  pub ids_handed : ids_of (asked_then asked) ≡ new.outs
  ids_handed = ids_set asked 1 None ∙ ap (λ ids. slice_set ids 1 None) b.knows.out ∙ sym o.outs

  pub count_handed : length files ≡ length (phases_then old made phase)
  count_handed = b.knows.count ∙ sym (set_count old.phases made.request.id.slot (after phase made.request.id.call (is_done made.answer)))

  -- the slots of no request are as they were
  pub others_handed : (beliefs : List Belief) (k : ℕ) → k ≢ made.request.id.slot → slice_get beliefs k ≡ slice_get b.beliefs k
      → IsSameSlot (slots_at old.phases bodies b.beliefs) (slots_at (phases_then old made phase) (bodies_then bodies made) beliefs) k
  others_handed beliefs k other same = grind (arith, set_other, body_other)

-- ---- an open store, after an outcome

-- One slot changed, and is believed to be what its phase says.
pub record SlotThen (old new : Slots) (slot : ℕ) : Type 0 where
  pub count : length new.phases ≡ length old.phases
  pub others : (k : ℕ) → k ≢ slot → IsSameSlot old new k
  pub exact : (phase : Phase) (belief : Belief) → slice_get new.phases slot ≡ Some phase → slice_get new.beliefs slot ≡ Some belief → IsBelievedAs phase (file_at new.bodies slot) belief
  pub images : (k : ℕ) (j : Image) → image_at new.beliefs k ≡ Some j → image_at old.beliefs k ≡ Some j

-- what the checkpoint that runs, or the next one, knows of the store stays
pub record StoreThen (memory : Contents) (last : ℕ) (running : Option Running) (beliefs : List Belief) (store store_now : Store) : Type 0 where
  pub above : IsAboveStore store (last + 1) → IsAboveStore store_now (last + 1)
  pub chain : store_now.chain ≡ store.chain
  pub grows : store_now.grows ≡ store.grows
  pub newest : (j : Image) → Contains store_now.catalog j → IsRestorable j
      → (i : Image) × Contains store.catalog i × IsRestorable i × (j.header.checkpoint ≡ i.header.checkpoint)
  pub needs : (k : ℕ) (i : Image) (one : Running) → running ≡ Some one → IsReserved one k → image_at beliefs k ≡ Some i → IsNeededIn store_now i → IsNeededIn store i
  pub gives : (one : Running) → running ≡ Some one → ChainWithin (chain_of store one.parent) (chain_of store_now one.parent)
  pub rests : running ≡ None → store.grows ≡ true → ((tip : Image) → IsTip store.catalog tip → Rests (chain_of store tip.header.stands_for) memory)
      → (tip : Image) → IsTip store_now.catalog tip → Rests (chain_of store_now tip.header.stands_for) memory
  pub numbers : (number : ℕ) → IsMakingNumber running number → IsNewNumber store number → IsNewNumber store_now number

module _ (making : MakingLaws) (base : Base) (history : History) (places places_now : Places) (grows : Bool) (memory : Contents) (last : ℕ) (store store_now : Store) (dump : Option Image)
    (old new : Slots) (running : Option Running) (asked : List (Option Asked)) (slot : ℕ) (request : Asked)
    (u : IsLiveOn base history places grows memory old.phases asked old.bodies last store dump old.beliefs running)
    (out : slice_get asked 1 ≡ Some (Some request)) (on : request.id.slot ≡ slot) (at : SlotThen old new slot) (s : StoreThen memory last running old.beliefs store store_now)
    (is_live : IsLiveCatalog places_now new.beliefs) (spared : IsSpared running slot) (own : MakesInItsSlot running) where
  -- a slot with no request out had none before, but for this one
  none_before : (k : ℕ) → k ≢ slot → NoneAt (asked_then asked) k → NoneAt asked k
  none_before k differs none worker r is same = elim (cases_eq worker 1) [
    | inl its ↦
        let own : r ≡ request = same_Some r request (same_Some (Some r) (Some request) (sym is ∙ ap (slice_get asked) its ∙ out)) in
        differs (sym same ∙ ap (λ (q : Asked). q.id.slot) own ∙ on)
    | inr other ↦ none worker r (set_other asked 1 worker None other ∙ is) same
  ]

  leaves : LeavesWork store running memory old last last store_now new
  leaves = record {
    count = at.count;
    same = λ k one is r. at.others k (other_slot running slot k spared one is r);
    last_is = omega arith;
    chain = s.chain;
    newest = s.newest;
    needs = s.needs;
    gives = s.gives;
    rests = s.rests;
    numbers = s.numbers;
    images = λ k j has. inl (at.images k j has);
  }

  pub use_handed : IsLiveOn base history places_now grows memory new.phases (asked_then asked) new.bodies last store_now dump new.beliefs running
  use_handed = record {
    catalog = is_live;
    grows_is = s.grows ∙ u.grows_is;
    used = record { above = s.above u.used.above; slots = λ k i has. u.used.slots k i (at.images k i has) };
    exact = λ k phase belief here of none. elim (cases_eq k slot) [
      | inl its ↦ subst (λ x. IsBelievedAs phase (file_at new.bodies x) belief) (sym its)
          (at.exact phase belief (ap (slice_get new.phases) (sym its) ∙ here) (ap (slice_get new.beliefs) (sym its) ∙ of))
      | inr differs ↦ subst (λ body. IsBelievedAs phase body belief) (sym (at.others k differs).body)
          (u.exact k phase belief (sym (at.others k differs).phase ∙ here) (sym (at.others k differs).belief ∙ of) (none_before k differs none))
    ];
    writes = ap ids_of (lanes_beside asked 1 None (omega arith)) ∙ u.writes;
    job = work_beside making base history memory store old last last store_now new dump asked (asked_then asked)
        (set_other asked 1 0 None (λ zero_is. (let no : 0 ≡ 1 = zero_is in omega (arith, no)))) (lanes_beside asked 1 None (omega arith)) grows running u.grows_is own leaves u.job;
  }

-- the number that the running checkpoint asks for
pub asks_for : (base : Base) (history : History) (grows : Bool) (memory : Contents) (phases : List Phase) (asked : List (Option Asked)) (bodies : List (List ℕ)) (last : ℕ)
    (store : Store) (dump : Option Image) (beliefs : List Belief) (running : Option Running) → IsAtWork base history grows memory phases asked bodies last store dump beliefs running
    → (one : Running) → running ≡ Some one → store.chain ≡ one.parent ∷ []
asks_for base history grows memory phases asked bodies last store dump beliefs running job one is =
    (subst (IsAtWork base history grows memory phases asked bodies last store dump beliefs) is job).chain

-- ---- the store stays

pub store_same : (memory : Contents) (last : ℕ) (running : Option Running) (beliefs : List Belief) (store : Store) → StoreThen memory last running beliefs store store
store_same memory last running beliefs store = record {
  above = λ above. above;
  chain = refl;
  grows = refl;
  newest = λ j member restored. (j, member, restored, refl);
  needs = λ k i one is r has needed. needed;
  gives = λ one is place bytes below. below;
  rests = λ none grown rests. rests;
  numbers = λ number is new. new;
}

-- ---- an image that nobody needs leaves the catalog

module _ (keeps : StepsKeep) (gives : StepsGive) (needs : NeedsNoMore) (memory : Contents) (last : ℕ) (running : Option Running) (beliefs : List Belief) (store : Store) (i : Image) (gone : List Image)
    (sound : IsSoundStore store) (member : Contains store.catalog i) (lacks : Lacks store.catalog i gone) (retires : Retires store gone)
    (asks : (one : Running) → running ≡ Some one → store.chain ≡ one.parent ∷ []) where
  unneeded : IsNeededIn store i → ⊥
  unneeded needed = ((lacks i).0 (retires.needed i needed)).1 refl

  left_in : (j : Image) → Contains store.catalog j → j.header.serial ≢ i.header.serial → Contains gone j
  left_in j there differs = (lacks j).1 (there, λ same. differs (ap (λ (x : Image). x.header.serial) same))

  it_is : (j : Image) → Contains store.catalog j → j.header.serial ≡ i.header.serial → j ≡ i
  it_is j there same = sound.serials j i there member same

  -- were it after what is newest then, it would be the tip
  module _ (tip : Image) (is : IsTip gone tip) where
    stands_not_after : IsRestorable i → IsNotAfter tip i → ⊥
    stands_not_after restored behind = unneeded (inl (record {
      member = member;
      restorable = restored;
      greatest = λ j there restorable. elim (cases_eq j.header.serial i.header.serial) [
        | inl same ↦ inr (ap (λ (x : Image). x.header.checkpoint) (it_is j there same), (let its = same in omega (arith, its)))
        | inr differs ↦ after_both j (is.greatest j (left_in j there differs) restorable) behind
      ];
    }))
      where
        after_both : (j : Image) → IsNotAfter j tip → IsNotAfter tip i → IsNotAfter j i
        after_both j (inl less) (inl more) = inl (omega (arith, less, more))
        after_both j (inl less) (inr (same, serial)) = inl (omega (arith, less, same))
        after_both j (inr (same, serial)) (inl more) = inl (omega (arith, same, more))
        after_both j (inr (same, serial)) (inr (same_too, more)) = inr (same ∙ same_too, omega (arith, serial, more))

    before_it : IsRestorable i → IsNotAfter i tip
    before_it restored = elim (cases_lt i.header.checkpoint tip.header.checkpoint) [
      | inl less ↦ inl less
      | inr over ↦ elim (cases_lt tip.header.checkpoint i.header.checkpoint) [
        | inl more ↦ absurd (stands_not_after restored (inl more))
        | inr under ↦ (let same : i.header.checkpoint ≡ tip.header.checkpoint = omega (arith, over, under) in
            elim (cases_lt tip.header.serial i.header.serial) [
              | inl above ↦ absurd (stands_not_after restored (inr (sym same, omega (arith, above))))
              | inr below ↦ inr (same, below)
            ])
      ]
    ]

    pub tip_before : IsTip store.catalog tip
    tip_before = record {
      member = retires.within tip is.member;
      restorable = is.restorable;
      greatest = λ j there restorable. elim (cases_eq j.header.serial i.header.serial) [
        | inl same ↦ subst (λ x. IsNotAfter x tip) (sym (it_is j there same)) (before_it (subst IsRestorable (it_is j there same) restorable))
        | inr differs ↦ is.greatest j (left_in j there differs) restorable
      ];
    }

  -- what the tip's number gives it gives still
  rests_then : store.grows ≡ true → ((tip : Image) → IsTip store.catalog tip → Rests (chain_of store tip.header.stands_for) memory)
      → (tip : Image) → IsTip gone tip → Rests (chain_of (retired store gone) tip.header.stands_for) memory
  rests_then grown rests tip is =
      let before = tip_before tip is in
      let number : ℕ = tip.header.stands_for in
      let still = gives.retires (checkpoint_begun store number) gone (keeps.begins store tip sound grown before)
      (record { needed = λ j needed. retires.needed j (needs.begins store tip j sound grown before needed); within = retires.within }) in
      λ space page bytes clean. (still number space page bytes (by_job number (0, omega arith, refl))).0 (rests tip before space page bytes clean)

  pub store_retired : StoreThen memory last running beliefs store (retired store gone)
  store_retired = record {
    above = λ above. record {
      serials = λ j there. above.serials j (retires.within j there);
      stands = λ j there. above.stands j (retires.within j there);
      parents = λ j there. above.parents j (retires.within j there);
      jobs = above.jobs;
      source = above.source;
    };
    chain = refl;
    grows = refl;
    newest = λ j there restored. (j, retires.within j there, restored, refl);
    needs = λ k j one is r has needed. needs.retires store j gone sound retires needed;
    gives = λ one is place bytes. (gives.retires store gone sound retires one.parent place.0 place.1 bytes
        (by_job one.parent (subst (λ c. Contains (c ++ store.work) one.parent) (sym (asks one is)) (0, omega arith, refl)))).0;
    rests = λ none grown rests. rests_then grown rests;
    numbers = λ number is new. record {
      serial = λ j there. new.serial j (retires.within j there);
      unused = record {
        stands = λ j there. new.unused.stands j (retires.within j there);
        names = λ j there. new.unused.names j (retires.within j there);
        asks = new.unused.asks;
      };
      apart = new.apart;
    };
  }

-- ---- a call on a slot that nobody else fills

-- The store and the beliefs as they are then: at most the image of the slot left them.
pub record SlotHandedIn (old new : CoreView) (made : Made) (phase : Phase) (asked : List (Option Asked)) (bodies files : List (List ℕ)) (b : Believes old asked bodies files)
    (slot : ℕ) (belief_now : Belief) : Type 0 where
  pub store : Store
  pub later : List Belief
  pub has : HasStore old.base (history_of old) (phases_then old made phase) (asked_then asked) (bodies_then bodies made) store b.dump later
  pub is_live : IsLiveOn old.base (history_of old) new.catalog old.grows old.memory (phases_then old made phase) (asked_then asked) (bodies_then bodies made) old.numbers.serial
      store b.dump later old.dumper.running
  pub there : slice_get later slot ≡ Some belief_now
  pub others : (k : ℕ) → k ≢ slot → slice_get later k ≡ slice_get b.beliefs k
  pub images : (k : ℕ) (i : Image) → image_at later k ≡ Some i → image_at b.beliefs k ≡ Some i
  pub within : (i : Image) → Contains store.catalog i → Contains b.store.catalog i
  pub source : store.source ≡ b.store.source
  pub work : store.work ≡ b.store.work
  pub needs : (i : Image) → IsNeededIn store i → IsNeededIn b.store i
  pub still : (source : Image) → b.store.source ≡ Some source → HoldsStill b.store.catalog store.catalog source

-- with what is known of the merge then
pub believes_handed : (old new : CoreView) (made : Made) (phase : Phase) (asked : List (Option Asked)) (bodies files : List (List ℕ)) → IsMergersOutcome old made phase new → OnlyMerges old new
    → new.numbers.serial ≡ old.numbers.serial → (b : Believes old asked bodies files)
    → (slot : ℕ) (belief_now : Belief) (h : SlotHandedIn old new made phase asked bodies files b slot belief_now) (merge : Option merger.Running) → new.merger ≡ merge
    → IsMergeOn (phases_then old made phase) (asked_then asked) (bodies_then bodies made) old.numbers.serial h.store h.later old.dumper.running merge
    → slice_get asked 1 ≡ Some (Some made.request) → Believes new (asked_then asked) (bodies_then bodies made) files
believes_handed old new made phase asked bodies files o rest last_is b slot belief_now h merge merge_is m at =
    believes_parts new old.base (history_of old) new.catalog old.grows old.memory (phases_then old made phase) old.numbers.serial old.dumper.running merge
    (record {
      base_is = rest.base;
      history_is = rest.history;
      places_is = refl;
      grows_is = rest.grows;
      memory_is = rest.memory;
      phases_is = o.phases;
      last_is = last_is;
      running_is = rest.dumper;
      merger_is = merge_is;
      closed = rest.closed;
    })
    (asked_then asked) (bodies_then bodies made) files h.store b.dump h.later (λ is. b.knows.sure (sym rest.committing ∙ is))
    (count_handed old new made phase asked bodies files o at b) (ids_handed old new made phase asked bodies files o at b) h.has h.is_live
    (record { spelled = λ i member. (b.knows.merging rest.stands).spelled i (h.within i member); is = m })

module _ (quiet : QuietSteps) (gates : GateSteps) (making : MakingLaws) (closing_retires : ClosingRetires) (keeps : StepsKeep) (gives : StepsGive) (needs : NeedsNoMore) (follows : CatalogFollows) (cut : CutHoldsTheSame)
    (old new : CoreView) (made : Made) (phase : Phase) (asked : List (Option Asked)) (bodies files : List (List ℕ)) (o : IsMergersOutcome old made phase new) (rest : OnlyMerges old new)
    (at : slice_get asked 1 ≡ Some (Some made.request)) (b : Believes old asked bodies files)
    (slot : ℕ) (on : made.request.id.slot ≡ slot) (done : is_done made.answer ≡ true) (spared : IsSpared old.dumper.running slot)
    (belief : Belief) (belief_is : slice_get b.beliefs slot ≡ Some belief) (stage later_stage : Stage) (order : ImageOrder) (pages : Pages) (plan : Planned) (was : plan_of stage ≡ Some plan)
    (some : (own : Planned) (header : Header) (tables : List Listed) → stage ≡ Close own header tables → plan.calls ≢ [])
    (slot_was : IsSlotFor stage order pages phase (file_at bodies slot) (Some made.request) belief None)
    (slot_then : SlotGoesOn later_stage order pages phase (file_at bodies slot) made.request belief None)
    (catalog : LeavesCatalog (closes_for_sure phase made.request.id.call) made.request.id.slot old.catalog new.catalog) where
  abbrev history : History
  history = history_of old

  abbrev running : Option Running
  running = old.dumper.running

  abbrev last : ℕ
  last = old.numbers.serial

  abbrev phases_now : List Phase
  phases_now = phases_then old made phase

  abbrev bodies_now : List (List ℕ)
  bodies_now = bodies_then bodies made

  abbrev belief_now : Belief
  belief_now = belief_after (closes_for_sure phase made.request.id.call) belief

  u : IsLiveOn old.base history old.catalog old.grows old.memory old.phases asked bodies last b.store b.dump b.beliefs running
  u = b.knows.is_live rest.stands

  has_one : HasStore old.base history phases_now (asked_then asked) bodies_now b.store b.dump b.beliefs
  has_one = has_handed old new made phase asked bodies files o at b quiet

  pub handed_phase : slice_get phases_now slot ≡ Some (after phase made.request.id.call true)
  handed_phase = ap (slice_get phases_now) (sym on) ∙ ap (λ d. slice_get (slice_set old.phases made.request.id.slot (after phase made.request.id.call d)) made.request.id.slot) done
      ∙ set_same old.phases made.request.id.slot phase (after phase made.request.id.call true) o.phase_is

  pub handed_body : file_at bodies_now slot ≡ body_after (file_at bodies slot) made.request.id.call made.request.bytes
  handed_body = grind (arith, slice_get_within, file_set)

  -- with the store and the beliefs as they are then
  module _ (store : Store) (later : List Belief) (there : slice_get later slot ≡ Some belief_now) (others : (k : ℕ) → k ≢ slot → slice_get later k ≡ slice_get b.beliefs k)
      (images : (k : ℕ) (i : Image) → image_at later k ≡ Some i → image_at b.beliefs k ≡ Some i)
      (has : HasStore old.base history phases_now (asked_then asked) bodies_now store b.dump later) (is_live : IsLiveCatalog new.catalog later)
      (s : StoreThen old.memory last running b.beliefs b.store store) where
    exact_here : (p : Phase) (x : Belief) → slice_get phases_now slot ≡ Some p → slice_get later slot ≡ Some x → IsBelievedAs p (file_at bodies_now slot) x
    exact_here p x here of =
        let p_is : after phase made.request.id.call true ≡ p = same_Some (after phase made.request.id.call true) p (sym handed_phase ∙ here) in
        let x_is : belief_now ≡ x = same_Some belief_now x (sym there ∙ of) in
        elim slot_then.exact [
          | inl closed ↦ subst (IsBelievedAs p (file_at bodies_now slot)) (sym closed ∙ x_is)
              (closed_exact p (file_at bodies_now slot) (subst (MayBelieve p (file_at bodies_now slot)) (sym x_is ∙ closed) (has.believed.each slot p x here of)))
          | inr exact ↦ subst (λ q. IsBelievedAs q (file_at bodies_now slot) x) p_is
              (subst (IsBelievedAs (after phase made.request.id.call true) (file_at bodies_now slot)) x_is
              (subst (λ body. IsBelievedAs (after phase made.request.id.call true) body belief_now) (sym handed_body) exact))
        ]

    uses : IsLiveOn old.base history new.catalog old.grows old.memory phases_now (asked_then asked) bodies_now last store b.dump later running
    uses = use_handed making old.base history old.catalog new.catalog old.grows old.memory last b.store store b.dump (slots_at old.phases bodies b.beliefs) (slots_at phases_now bodies_now later)
        running asked slot made.request u at on (record {
          count = set_count old.phases made.request.id.slot (after phase made.request.id.call (is_done made.answer));
          others = λ k differs. others_handed old new made phase asked bodies files o at b later k (λ same. differs (same ∙ on)) (others k differs);
          exact = exact_here;
          images = images;
        }) s is_live spared rest.makes

  -- ---- nothing left the catalog

  stays_open : closes_for_sure phase made.request.id.call ≡ false → new.catalog ≡ old.catalog → SlotHandedIn old new made phase asked bodies files b slot belief_now
  stays_open none same = record {
    store = b.store;
    later = b.beliefs;
    has = has_one;
    is_live = uses b.store b.beliefs there_still (λ k differs. refl) (λ k i has. has) has_one (subst (λ places. IsLiveCatalog places b.beliefs) (sym same) u.catalog)
        (store_same old.memory last running b.beliefs b.store);
    there = there_still;
    others = λ k differs. refl;
    images = λ k i has. has;
    within = λ i member. member;
    source = refl;
    work = refl;
    needs = λ i needed. needed;
    still = λ source is. holds_same b.store.catalog source;
  }
    where
      there_still : slice_get b.beliefs slot ≡ Some belief_now
      there_still = belief_is ∙ ap Some (sym (ap (λ c. belief_after c belief) none))

  -- ---- the image that stood in the slot is gone for sure

  module _ (is : closes_for_sure phase made.request.id.call ≡ true) (leaves : (serial : ℕ) → place_of new.catalog serial ≡ without_slot slot (place_of old.catalog serial)) where
    shut : IsShut phases_now (asked_then asked) slot
    shut = record {
      phase = handed_phase ∙ ap Some (ap (λ c. after phase c true) both.1 ∙ ap synced both.0);
      none = none_on old new made phase asked bodies files o at b slot (subst (IsFree (slice_set old.outs 1 None)) on o.apart);
    }
      where
        both : (phase ≡ ClosingPhase) × (made.request.id.call ≡ Sync)
        both = syncs_closing phase made.request.id.call is

    doubt : IsInDoubt (file_at bodies slot) belief
    doubt = closing_in_doubt stage order pages phase (file_at bodies slot) made.request belief None plan was some slot_was is

    abbrev later : List Belief
    later = with_belief b.beliefs slot Closed

    there_then : (old_belief : Belief) → slice_get b.beliefs slot ≡ Some old_belief → slice_get later slot ≡ Some belief_now
    there_then old_belief there = set_same b.beliefs slot old_belief Closed there ∙ ap Some (sym (ap (λ c. belief_after c belief) is))

    images_then : (old_belief : Belief) → slice_get b.beliefs slot ≡ Some old_belief → (k : ℕ) (i : Image) → image_at later k ≡ Some i → image_at b.beliefs k ≡ Some i
    images_then old_belief there k i has = elim (cases_eq k slot) [
      | inl its ↦ absurd (let no : None ≡ Some i = sym (ap (λ o. option_and_then image_in o) (ap (slice_get later) its ∙ set_same b.beliefs slot old_belief Closed there)) ∙ has in cc)
      | inr differs ↦ ap (λ o. option_and_then image_in o) (sym (set_other b.beliefs slot k Closed differs)) ∙ has
    ]

    others_then : (k : ℕ) → k ≢ slot → slice_get later k ≡ slice_get b.beliefs k
    others_then k differs = set_other b.beliefs slot k Closed differs

    retires : (i : Image) → belief ≡ Closing i → SlotHandedIn old new made phase asked bodies files b slot belief_now
    retires i closing_it =
        let there : slice_get b.beliefs slot ≡ Some (Closing i) = belief_is ∙ ap Some closing_it in
        let gone = (gates old.base history phases_now (asked_then asked) bodies_now).retires b.store b.dump b.beliefs slot i shut there has_one in
        let retired_ok = closing_retires.retires b.store b.dump b.beliefs slot i gone.0 has_one.slots there gone.1 in
        let member : Contains b.store.catalog i = (b.has.slots.catalog i).1 (inr (contains_at b.beliefs slot (Closing i) there)) in
        record {
          store = retired b.store gone.0;
          later = later;
          has = gone.2;
          is_live = uses (retired b.store gone.0) later (there_then (Closing i) there) others_then (images_then (Closing i) there) gone.2
              (follows.removes old.catalog new.catalog b.beliefs slot i u.catalog there leaves)
              (store_retired keeps gives needs old.memory last running b.beliefs b.store i gone.0 b.has.sound member gone.1 retired_ok
              (asks_for old.base history old.grows old.memory old.phases asked bodies last b.store b.dump b.beliefs running u.job));
          there = there_then (Closing i) there;
          others = others_then;
          images = images_then (Closing i) there;
          within = λ j left. ((gone.1 j).0 left).0;
          source = refl;
          work = refl;
          needs = λ j needed. needs.retires b.store j gone.0 b.has.sound retired_ok needed;
          still = retires_still cut b.store gone.0 b.has.sound retired_ok;
        }

    drops : (i : Image) → belief ≡ Opening i → SlotHandedIn old new made phase asked bodies files b slot belief_now
    drops i opening_it =
        let there : slice_get b.beliefs slot ≡ Some (Opening i) = belief_is ∙ ap Some opening_it in
        let has = (gates old.base history phases_now (asked_then asked) bodies_now).drops b.store b.dump b.beliefs slot i shut there has_one in
        record {
          store = b.store;
          later = later;
          has = has;
          is_live = uses b.store later (there_then (Opening i) there) others_then (images_then (Opening i) there) has
              (removed_none old.catalog new.catalog b.beliefs slot i there leaves u.catalog) (store_same old.memory last running b.beliefs b.store);
          there = there_then (Opening i) there;
          others = others_then;
          images = images_then (Opening i) there;
          within = λ j member. member;
          source = refl;
          work = refl;
          needs = λ j needed. needed;
          still = λ source is. holds_same b.store.catalog source;
        }

    closes_open : SlotHandedIn old new made phase asked bodies files b slot belief_now
    closes_open = elim doubt.1 [
      | inl closing_it ↦ retires doubt.0 closing_it
      | inr opening_it ↦ drops doubt.0 opening_it
    ]

  pub slot_handed : SlotHandedIn old new made phase asked bodies files b slot belief_now
  slot_handed = elim (cases_Bool (closes_for_sure phase made.request.id.call)) [
    | inl sure ↦ closes_open sure (λ serial. subst (λ c. LeavesCatalog c made.request.id.slot old.catalog new.catalog) sure catalog serial
        ∙ ap (λ k. without_slot k (place_of old.catalog serial)) on)
    | inr unsure ↦ stays_open unsure (subst (λ c. LeavesCatalog c made.request.id.slot old.catalog new.catalog) unsure catalog)
  ]

-- The next call of an image's plan is asked for.
use Rattle.std.proofs.Common.{◌≡◌, ◌⊎◌, ℕ, ◌<◌, ◌≤◌, ◌==◌, ◌&&◌, Bool, true, false, if◌then◌else◌, List, [], ◌∷◌, Option, Some, None, Contains, option_and_then, slice_get, slice_set, refl, sym, ◌∙◌, ap, subst, inl, inr, arith}
use Rattle.std.proofs.lemmas.Bool.{cases_eq, or_parts}
use Rattle.std.proofs.lemmas.Option.{same_Some}
use Rattle.sd_disk.specs.Contents.{file_at}
use Rattle.sd_image.specs.declared.header.Header.{Header}
use Rattle.sd_image.specs.declared.header.Kind.{Kind}
use Rattle.sd_image.specs.declared.header.Kind.TheVariants.{PreDump, Dump, Merged}
use Rattle.sd_image.specs.Image.{Image, IsImage, gate, image_text}
use Rattle.sd_image.specs.Shows.{ImagesShow, IsRestorable}
use Rattle.sd_image.specs.Table.{Listed}
use Rattle.sd_image.specs.Words.{kind_number}
use Rattle.sd_gate.specs.Phases.{is_ready}
use Rattle.sd_gate.specs.Plans.{Planned}
use Rattle.sd_gate.specs.Requests.{Asked}
use Rattle.sd_journal.specs.History.{History}
use Rattle.sd_pagetable.specs.Contents.{plain_of}
use Rattle.sd_rounds.specs.declared.image_step.ImageStep.TheVariants.{Call}
use Rattle.sd_rounds.specs.declared.stage.Stage.{Stage}
use Rattle.sd_rounds.specs.declared.stage.Stage.TheVariants.{Close}
use Rattle.sd_rounds.specs.Dumper.{IsReserved, Running, is_last, slot_of}
use Rattle.sd_rounds.specs.Files.{IsFiled, IsFiledIn}
use Rattle.sd_rounds.specs.Made.{MadeLaws}
use Rattle.sd_rounds.specs.Making.{Asks, Making, is_frozen_dump, is_past_freeze, with_plan}
use Rattle.sd_writing.specs.Files.{image_of}
use Rattle.sd_store_laws.specs.Beliefs.{Belief, Closed, Kept, Closing, Opening, image_in}
use Rattle.sd_store_laws.specs.LiveImages.{CatalogFollows}
use Rattle.sd_store_laws.specs.Makers.{DumpShows, HasMemory}
use Rattle.sd_store_laws.specs.Needs.{IsNeededIn}
use Rattle.sd_store_laws.specs.SlotSteps.{with_belief}
use Rattle.sd_store_laws.specs.Store.{IsFresh, IsNext, IsNextDump, jobs}
use Rattle.sd_crash_safety.specs.Believes.{Believes, HasStore}
use Rattle.sd_crash_safety.specs.DumperSteps.{AsksFor, commits_dump}
use Rattle.sd_crash_safety.specs.GateSteps.{GateSteps}
use Rattle.sd_crash_safety.specs.LiveImages.{IsFrozenAs, IsImageOn, IsLiveOn, IsMakingOn, IsRunningOn, IsSlotFor, chain_of, pending_dump}
use Rattle.sd_crash_safety.specs.StoreSteps.{MayAsk, MayOpen, QuietSteps}
use Rattle.sd_crash_safety.specs.View.{CoreView, history_of}
use Rattle.sd_crash_safety.proofs.Asks.{HasIt, IsChangedAt, changed_by, in_use_then, unchanged_at}
use Rattle.sd_crash_safety.proofs.AsksImage.{dump_has, plan_on}
use Rattle.sd_crash_safety.proofs.AsksSlot.{AsksOn, AsksQuietly, AsksToClose, AsksToOpen, asks_on, image_in_stage}
use Rattle.sd_crash_safety.proofs.BeginsImage.{none_at}
use Rattle.sd_crash_safety.proofs.Lanes.{body_still, plan_outside}
use Rattle.sd_crash_safety.proofs.MergeStays.{ChangesAt, below_checkpoint, fresh_of, leaves_at, merge_then, merging_of, needed_there, own_beside, slots_at, source_there}
use Rattle.sd_crash_safety.proofs.OpenCore.{believes_parts}
use Rattle.sd_crash_safety.proofs.Places.{free_there, ids_set}

pub its_parent : (chain : List ℕ) (parent : ℕ) → chain ≡ parent ∷ [] → Contains chain parent
its_parent chain parent is = subst (λ c. Contains c parent) (sym is) (0, omega arith, refl)

-- ---- the image whose gate is opened

its_stage : (stage : Stage) (p : Planned) (pages : List (List ℕ)) (i : Image) → image_in_stage (with_plan stage p) pages ≡ Some i
    → (header : Header) × (tables : List Listed) × (plan : Planned) × (stage ≡ Close plan header tables) × (i ≡ image_of header pages tables)
its_stage stage p pages i is = grind arith

module _ (quiet : QuietSteps) (gates : GateSteps) (made : MadeLaws) (follows : CatalogFollows) (shows : DumpShows)
    (old new : CoreView) (running : Running) (image next : Making) (number : ℕ) (request : Asked) (asked : List (Option Asked)) (bodies files : List (List ℕ))
    (s : AsksFor old running image number (Call request) request next new) (b : Believes old asked bodies files) where
  abbrev history : History
  history = history_of old

  abbrev slot : ℕ
  slot = image.order.slot

  abbrev asked_now : List (Option Asked)
  asked_now = slice_set asked 0 (Some request)

  u : IsLiveOn old.base history old.catalog old.grows old.memory old.phases asked bodies old.numbers.serial b.store b.dump b.beliefs (Some running)
  u = subst (λ r. IsLiveOn old.base history old.catalog old.grows old.memory old.phases asked bodies old.numbers.serial b.store b.dump b.beliefs r) s.was (b.knows.is_live s.rest.stands)

  w : IsRunningOn old.base history old.memory old.phases asked bodies old.numbers.serial b.store b.dump b.beliefs running
  w = u.job

  m : IsMakingOn old.base history old.memory old.phases asked bodies old.numbers.serial b.store b.dump b.beliefs running.parent running.number image
  m = subst (λ i. IsImageOn old.base history old.memory old.phases asked bodies old.numbers.serial b.store b.dump b.beliefs running.parent running.number i) s.making w.image

  asks : Asks image request next
  asks = s.steps.0

  free : slice_get asked 0 ≡ Some None
  free = free_there asked 0 (ap (λ ids. slice_get ids 0) b.knows.out ∙ s.free)

  none : m.request ≡ None
  none = same_Some m.request None (sym m.own ∙ free)

  slot_is : IsSlotFor image.stage image.order m.pages m.phase (file_at bodies slot) None m.belief b.dump
  slot_is = grind (arith, body_still, plan_outside)

  on : request.id.slot ≡ slot
  on = asks.gives.slot ∙ plan_on image.stage image.order m.pages m.phase (file_at bodies slot) None m.belief b.dump asks.plan asks.was slot_is

  asked_on : (is_ready m.phase request.id.call ≡ true)
      × AsksOn (with_plan image.stage asks.next) image.order m.pages m.phase (file_at bodies slot) request m.belief b.dump
  asked_on = asks_on image.stage image.order m.pages m.phase (file_at bodies slot) m.belief b.dump asks.plan asks.next request asks.was asks.gives slot_is

  abbrev may : MayAsk old.phases asked 0 request
  may = record {
    free = free;
    phase = m.phase;
    waits = record { is = ap (slice_get old.phases) on ∙ m.phase_is; ready = asked_on.0 };
  }

  own_slot : slot ≡ slot_of running
  own_slot = ap (λ o. o.slot) s.own

  reserved : IsReserved running slot
  reserved = record { place = running.opened; from = omega arith; is = own_slot }

  abbrev later_running : Running
  later_running = record running { image = Some (record image { stage = with_plan image.stage asks.next }) }

  -- the new core, with these beliefs
  believes_with : (dump_now : Option Image) (later : List Belief) → (new.committing ≡ false → dump_now ≡ None) → HasStore old.base history old.phases asked_now bodies b.store dump_now later
      → IsLiveOn old.base history old.catalog old.grows old.memory old.phases asked_now bodies old.numbers.serial b.store dump_now later (Some (record running { image = Some (record image { stage = with_plan image.stage asks.next }) }))
      → ChangesAt old.numbers.serial b.store running (slots_at old.phases bodies b.beliefs) b.store (Some (record running { image = Some (record image { stage = with_plan image.stage asks.next }) })) (slots_at old.phases bodies later) slot
      → Believes new asked_now bodies files
  believes_with dump_now later sure has is_live changes = believes_parts new old.base history old.catalog old.grows old.memory old.phases old.numbers.serial
      (Some (record running { image = Some (record image { stage = with_plan image.stage asks.next }) })) old.merger
      (record {
        base_is = s.rest.base;
        history_is = s.history;
        places_is = s.catalog;
        grows_is = s.rest.grows;
        memory_is = s.memory;
        phases_is = s.phases;
        last_is = s.serial;
        running_is = s.is ∙ ap (λ x. Some (record running { image = Some x })) asks.is;
        merger_is = s.rest.merger;
        closed = s.rest.closed;
      })
      asked_now bodies files b.store dump_now later sure b.knows.count
      (ids_set asked 0 (Some request) ∙ ap (λ ids. slice_set ids 0 (Some request.id)) b.knows.out ∙ sym s.outs) has is_live
      (merge_then old.numbers.serial b.store (Some running) (slots_at old.phases bodies b.beliefs) old.numbers.serial b.store (Some later_running) (slots_at old.phases bodies later)
      (leaves_at old.numbers.serial b.store running (slots_at old.phases bodies b.beliefs) b.store (Some later_running) (slots_at old.phases bodies later) slot changes)
      asked asked_now (own_beside asked (Some request)) old.merger (b.knows.merging s.rest.stands).spelled (merging_of old asked bodies files (Some running) s.rest.stands s.was b))

  -- what changes beside the merge: the belief about the slot, in which this stands then
  changes_to : (belief_now : Belief) (later : List Belief) → IsChangedAt b.beliefs slot belief_now later
      → ((j : Image) → image_in belief_now ≡ Some j → (image_in m.belief ≡ Some j) ⊎ (j.header.serial ≡ image.order.serial))
      → ((j : Image) → belief_now ≡ Opening j → (m.belief ≡ Opening j) ⊎ (j.header.stands_for ≡ image.order.serial))
      → ChangesAt old.numbers.serial b.store running (slots_at old.phases bodies b.beliefs) b.store (Some later_running) (slots_at old.phases bodies later) slot
  changes_to belief_now later changed image_is opening_is = grind arith

  few_of : (i : Image) → image_in m.belief ≡ Some i → i.header.serial ≤ old.numbers.serial
  few_of i has = u.used.slots slot i (ap (λ o. option_and_then image_in o) m.belief_is ∙ has)

  unneeded_of : (i : Image) → IsReserved running slot → image_in m.belief ≡ Some i → IsNeededIn b.store i → ⊥
  unneeded_of i r has = w.unneeded slot i r (ap (λ o. option_and_then image_in o) m.belief_is ∙ has)

  -- ---- whether the dump's gate is being opened

  sure_still : new.committing ≡ false → b.dump ≡ None
  sure_still is = b.knows.sure (or_parts old.committing (commits_dump running request.id.call) (sym s.committing ∙ is)).0

  -- ---- a quiet call

  quietly : AsksQuietly (with_plan image.stage asks.next) image.order m.pages m.phase (file_at bodies slot) request m.belief b.dump → Believes new asked_now bodies files
  quietly q = believes_with b.dump b.beliefs sure_still
      (quiet.asks old.base history old.phases asked bodies b.store b.dump b.beliefs 0 request may (record { opens = q.opens; closes = q.closes }) b.has)
      (in_use_then follows old.base history old.catalog old.grows old.memory old.phases asked bodies old.numbers.serial b.store b.dump b.dump b.beliefs b.beliefs running image request m.belief
      u m free on (unchanged_at b.beliefs slot m.belief m.belief_is) (λ i. (λ has. has, λ has. has)) few_of s.making unneeded_of asks.plan asks.next asks.was q.slot_is)
      (changes_to m.belief b.beliefs (unchanged_at b.beliefs slot m.belief m.belief_is) (λ j has. inl has) (λ j opens. inl opens))

  -- ---- the gate of an image that nobody needs is closed

  closes_it : AsksToClose (with_plan image.stage asks.next) image.order m.pages m.phase (file_at bodies slot) request m.belief b.dump → Believes new asked_now bodies files
  closes_it q =
      let i = q.image in
      let kept : slice_get b.beliefs slot ≡ Some (Kept i) = m.belief_is ∙ ap Some q.kept in
      let has_i : image_in m.belief ≡ Some i = ap image_in q.kept in
      believes_with b.dump (with_belief b.beliefs slot (Closing i)) sure_still
      (subst (λ k. HasStore old.base history old.phases asked_now bodies b.store b.dump (with_belief b.beliefs k (Closing i))) on
      ((gates old.base history old.phases asked bodies).closes b.store b.dump b.beliefs 0 request i (record {
        may = may;
        none = none_at asked old request.id.slot b.knows.out s.apart;
        call = q.call;
        phase = q.whole;
        belief = ap (slice_get b.beliefs) on ∙ kept;
        unneeded = unneeded_of i reserved has_i;
      }) b.has))
      (in_use_then follows old.base history old.catalog old.grows old.memory old.phases asked bodies old.numbers.serial b.store b.dump b.dump b.beliefs (with_belief b.beliefs slot (Closing i)) running image request (Closing i)
      u m free on (changed_by b.beliefs slot m.belief (Closing i) m.belief_is)
      (λ j. (λ has. to_closing j has, λ has. to_kept j has))
      (λ j has. few_of j (has_i ∙ has)) s.making (λ j r has. unneeded_of j r (has_i ∙ has)) asks.plan asks.next asks.was q.slot_is)
      (changes_to (Closing i) (with_belief b.beliefs slot (Closing i)) (changed_by b.beliefs slot m.belief (Closing i) m.belief_is)
      (λ j has. inl (has_i ∙ has)) (λ j opens. absurd (let no : Closing i ≡ Opening j = opens in cc)))
    where
      to_closing : (j : Image) → HasIt m.belief j → HasIt (Closing q.image) j
      to_closing j (inl is) = inr (let same : Kept q.image ≡ Kept j = sym q.kept ∙ is in cc)
      to_closing j (inr is) = absurd (let no : Kept q.image ≡ Closing j = sym q.kept ∙ is in cc)

      to_kept : (j : Image) → HasIt (Closing q.image) j → HasIt m.belief j
      to_kept j given = grind arith

  -- ---- the gate of the image that is made is opened

  module _ (q : AsksToOpen (with_plan image.stage asks.next) image.order m.pages m.phase (file_at bodies slot) request m.belief b.dump) where
    abbrev i : Image
    i = q.image

    staged : (header : Header) × (tables : List Listed) × (plan : Planned) × (image.stage ≡ Close plan header tables) × (i ≡ image_of header m.pages tables)
    staged = its_stage image.stage asks.next m.pages i q.its

    filed : IsFiled image.order image.pass m.pages staged.0 staged.1
    filed = subst (λ stage. IsFiledIn stage image.order image.pass m.pages) staged.3 m.files

    -- its numbers are the order's
    serial_is : i.header.serial ≡ image.order.serial
    serial_is = ap (λ (x : Image). x.header.serial) staged.4 ∙ ap (λ h. h.serial) filed.numbers

    stands_is : i.header.stands_for ≡ image.order.serial
    stands_is = ap (λ (x : Image). x.header.stands_for) staged.4 ∙ ap (λ h. h.stands_for) filed.numbers

    parent_is : i.header.parent ≡ running.parent
    parent_is = ap (λ (x : Image). x.header.parent) staged.4 ∙ ap (λ h. h.parent) filed.numbers ∙ ap (λ o. o.parent) s.own

    kind_is : i.header.kind ≡ image.order.kind
    kind_is = ap (λ (x : Image). x.header.kind) staged.4 ∙ ap (λ h. h.kind) filed.numbers

    checkpoint_is : i.header.checkpoint ≡ running.number
    checkpoint_is = ap (λ (x : Image). x.header.checkpoint) staged.4 ∙ ap (λ h. h.checkpoint) filed.numbers ∙ ap (λ o. o.checkpoint) s.own

    falls : i.header.parent < i.header.stands_for
    falls = grind arith

    fresh : IsFresh b.store i
    fresh = fresh_of b.store i image.order.serial serial_is stands_is falls m.fresh

    follows_it : IsNext b.store i
    follows_it = record { fresh = fresh; parent = subst (Contains b.store.chain) (sym parent_is) (its_parent b.store.chain running.parent w.chain) }

    closed_at : slice_get b.beliefs slot ≡ Some Closed
    closed_at = m.belief_is ∙ ap Some q.closed

    may_open : MayOpen old.phases asked bodies b.beliefs 0 request i
    may_open = record {
      may = may;
      none = none_at asked old request.id.slot b.knows.out s.apart;
      call = q.call;
      image = ap_image;
      belief = ap (slice_get b.beliefs) on ∙ closed_at;
      alone = λ other j has. elim (cases_eq other slot) [
        | inl its ↦ (let no : None ≡ Some j = sym (ap (λ o. option_and_then image_in o) (ap (slice_get b.beliefs) its ∙ closed_at)) ∙ has in absurd cc)
        | inr differs ↦ (λ same. m.others other j has differs (same ∙ serial_is))
      ];
    }
      where
        ap_image : IsImage (gate ∷ file_at bodies request.id.slot) i
        ap_image = subst (λ text. IsImage (gate ∷ text) i) (sym q.spelled ∙ ap (file_at bodies) (sym on))
            (subst (λ x. IsImage (gate ∷ image_text x) x) (sym staged.4) filed.spelled)

    -- the source of a merge that runs beside it
    its_source : (source : Image) → b.store.source ≡ Some source → Contains b.store.catalog source × IsRestorable source
    its_source source is = source_there old.phases asked bodies old.numbers.serial b.store b.dump b.beliefs old.dumper.running old.merger b.has.slots (b.knows.merging s.rest.stands).is source is

    -- what the image is added to the store as
    adds_it : (kind : Kind) → image.order.kind ≡ kind → HasStore old.base history old.phases asked_now bodies b.store (pending_dump kind i) (with_belief b.beliefs request.id.slot (Opening i))
    adds_it PreDump is = (gates old.base history old.phases asked bodies).opens b.store None b.beliefs 0 request i may_open (inl (kind_is ∙ is, fresh))
        (subst (λ d. HasStore old.base history old.phases asked bodies b.store d b.beliefs) q.alone b.has)
    adds_it Merged is = absurd (never_merged (is_last running) (sym (ap (λ o. o.kind) s.own) ∙ is))
      where
        never_merged : (last : Bool) → (if last then Dump else PreDump) ≡ Merged → ⊥
        never_merged true same = cc
        never_merged false same = cc
    adds_it Dump is =
        let frozen : IsFrozenAs old.base history running.number old.memory m.pages (chain_of b.store running.parent) image = m.frozen (frozen_so is) in
        let next_dump : IsNextDump b.store i = record {
          next = follows_it;
          restorable = λ other. (let no : Dump ≡ PreDump = sym (kind_is ∙ is) ∙ other in cc);
          newest = λ j member restored. (let less = w.newest j member restored in let checkpoint = checkpoint_is in omega (arith, less, checkpoint));
          above = below_checkpoint b.store.source i.header.checkpoint (λ source is. (let there = its_source source is in let less = w.newest source there.0 there.1 in let checkpoint = checkpoint_is in omega (arith, less, checkpoint)));
        } in
        (gates old.base history old.phases asked bodies).opens_dump b.store b.beliefs 0 request i may_open next_dump
        (record {
          shown = Some (running.number, plain_of frozen.cut);
          is = (frozen.pends, frozen.shown);
          shows = subst (λ n. ImagesShow (i ∷ b.store.catalog) (Some (n, plain_of frozen.cut))) checkpoint_is
              (shows b.store i (plain_of frozen.cut) b.has.sound next_dump
              (subst (λ x. HasMemory b.store.catalog x (plain_of frozen.cut)) (sym staged.4)
              (dump_has made b.store.catalog running.parent frozen.cut m.pages image staged.2 staged.0 staged.1 old.memory staged.3 (ap (λ o. o.parent) s.own) m.files frozen.areas frozen.dumps)));
        }) (subst (λ d. HasStore old.base history old.phases asked bodies b.store d b.beliefs) q.alone b.has)
      where
        frozen_so : image.order.kind ≡ Dump → is_frozen_dump image ≡ true
        frozen_so kind = ap (λ k. (kind_number k == 2) && is_past_freeze image.stage) kind ∙ ap is_past_freeze staged.3

    sure_then : new.committing ≡ false → pending_dump image.order.kind i ≡ None
    sure_then is = by_place (is_last running) refl
      where
        no_commit : commits_dump running request.id.call ≡ false
        no_commit = (or_parts old.committing (commits_dump running request.id.call) (sym s.committing ∙ is)).1

        by_place : (last : Bool) → is_last running ≡ last → pending_dump image.order.kind i ≡ None
        by_place last given = grind arith

    opens_it : Believes new asked_now bodies files
    opens_it = believes_with (pending_dump image.order.kind i) (with_belief b.beliefs slot (Opening i)) sure_then
        (subst (λ k. HasStore old.base history old.phases asked_now bodies b.store (pending_dump image.order.kind i) (with_belief b.beliefs k (Opening i))) on (adds_it image.order.kind refl))
        (in_use_then follows old.base history old.catalog old.grows old.memory old.phases asked bodies old.numbers.serial b.store b.dump (pending_dump image.order.kind i) b.beliefs (with_belief b.beliefs slot (Opening i)) running image request (Opening i)
        u m free on (changed_by b.beliefs slot m.belief (Opening i) m.belief_is)
        (λ j. (λ has. was_closed j has, λ has. is_opening j has))
        (λ j has. (let same : i ≡ j = same_Some i j has in let serial = serial_is in let last = m.serial in let its = ap (λ (x : Image). x.header.serial) same in omega (arith, serial, last, its))) s.making
        (λ j r has needed. not_needed j (same_Some i j has) needed) asks.plan asks.next asks.was q.slot_is)
        (changes_to (Opening i) (with_belief b.beliefs slot (Opening i)) (changed_by b.beliefs slot m.belief (Opening i) m.belief_is)
        (λ j has. inr (ap (λ (x : Image). x.header.serial) (sym (same_Some i j has)) ∙ serial_is))
        (λ j opens. inr (ap (λ (x : Image). x.header.stands_for) (sym (its_opening i j opens)) ∙ stands_is)))
      where
        was_closed : (j : Image) → HasIt m.belief j → HasIt (Opening i) j
        was_closed j (inl is) = absurd (let no : Closed ≡ Kept j = sym q.closed ∙ is in cc)
        was_closed j (inr is) = absurd (let no : Closed ≡ Closing j = sym q.closed ∙ is in cc)

        is_opening : (j : Image) → HasIt (Opening i) j → HasIt m.belief j
        is_opening j given = grind arith

        not_needed : (j : Image) → i ≡ j → IsNeededIn b.store j → ⊥
        not_needed j same needed =
            m.fresh.serial j (needed_there b.store.catalog (jobs b.store) j needed) (ap (λ (x : Image). x.header.serial) (sym same) ∙ serial_is)

        its_opening : (x y : Image) → Opening x ≡ Opening y → x ≡ y
        its_opening x y same = cc

  pub asks_lem : Believes new asked_now bodies files
  asks_lem = elim asked_on.1 [
    | inl q ↦ quietly q
    | inr more ↦ elim more [
      | inl q ↦ closes_it q
      | inr q ↦ opens_it q
    ]
  ]

-- A merge begins, and its image.
use Rattle.std.proofs.Common.{◌≡◌, ◌≢◌, ℕ, zero, suc, ◌+◌, ◌<◌, List, [], ◌∷◌, length, Option, Some, None, IfSome, Contains, option_and_then, slice_get, refl, sym, ◌∙◌, ap, subst, inl, inr, arith}
use Rattle.std.proofs.lemmas.List.Elements.{Contains-append_cases, Contains-append_left}
use Rattle.sd_disk.specs.Contents.{file_at}
use Rattle.sd_image.specs.Image.{Image}
use Rattle.sd_image.specs.Shows.{IsNamed, IsTip}
use Rattle.sd_image.specs.Table.{Listed}
use Rattle.sd_image.proofs.Members.{contains_at, place_in}
use Rattle.sd_chain.specs.Catalog.{Opened, Places, place_of}
use Rattle.sd_chain.specs.Reaches.{ReachesSerial}
use Rattle.sd_chain.specs.Recorded.{Agrees, CatalogLists, IsRecordedAs}
use Rattle.sd_gate.specs.declared.phase.Phase.{Phase}
use Rattle.sd_gate.specs.Laws.{PlansLead}
use Rattle.sd_gate.specs.Phases.{state_of}
use Rattle.sd_gate.specs.Requests.{Asked}
use Rattle.sd_journal.specs.History.{History}
use Rattle.sd_merge.specs.declared.copy_order.CopyOrder.{CopyOrder}
use Rattle.sd_merge.specs.Copying.{begun_copy}
use Rattle.sd_merge.specs.Merger.{begun_merge, copying, due}
use Rattle.sd_merge.specs.Merger as merger
use Rattle.sd_merge.specs.Merging.{MergeLaws}
use Rattle.sd_merge.specs.Sources.{few_pages, listed_count, source_from}
use Rattle.sd_rounds.specs.Dumper.{Running}
use Rattle.sd_rounds.specs.Making.{Making}
use Rattle.sd_rounds.specs.MakingLaws.{MakingLaws}
use Rattle.sd_store_laws.specs.Beliefs.{Kept, Opening, IsAdded, image_at, image_in}
use Rattle.sd_store_laws.specs.LiveImages.{LiveCatalogAgrees, RecordedReachesSo}
use Rattle.sd_store_laws.specs.Makers.{IsAboveStore}
use Rattle.sd_store_laws.specs.Needed.{NeededIsReached}
use Rattle.sd_store_laws.specs.Needs.{IsNeededIn, NeedsNoMore}
use Rattle.sd_store_laws.specs.Reached.{Reaches}
use Rattle.sd_store_laws.specs.Steps.{merging}
use Rattle.sd_store_laws.specs.Store.{IsNextDump, Store, jobs}
use Rattle.sd_crash_safety.specs.Believes.{Believes}
use Rattle.sd_crash_safety.specs.GateSteps.{GateSteps}
use Rattle.sd_crash_safety.specs.LiveImages.{IsAtWork, IsImageOn, IsLiveOn}
use Rattle.sd_crash_safety.specs.MergerSteps.{BeginsMerge, BeginsMerged, IsUncalled, MergeBeginningIsBelieved}
use Rattle.sd_crash_safety.specs.Merges.{IsCopyOfSource, IsMergeAt, IsMergeOn, IsOtherImage, IsRepeating, IsSilent, IsUnmerged, MakesOther}
use Rattle.sd_crash_safety.specs.View.{CoreView, history_of}
use Rattle.sd_crash_safety.proofs.BeginsImage.{held_in_use, image_of_has, none_at, used_more}
use Rattle.sd_crash_safety.proofs.MergeStays.{slots_at}
use Rattle.sd_crash_safety.proofs.MergerPass.{needed_spared}
use Rattle.sd_crash_safety.proofs.OpenCore.{believes_parts}
use Rattle.sd_crash_safety.proofs.Places.{has_too}
use Rattle.sd_crash_safety.proofs.TipHeld.{tip_held}
use Rattle.sd_crash_safety.proofs.WorkStays.{LeavesWork, work_beside}

-- ---- the merged image begins

-- the image that the checkpoint makes has a serial that was given out before
makes_before : (core : CoreView) (asked : List (Option Asked)) (bodies files : List (List ℕ)) (b : Believes core asked bodies files) (serial : ℕ) → core.numbers.serial < serial
    → (running : Option Running) → IsAtWork core.base (history_of core) core.grows core.memory core.phases asked bodies core.numbers.serial b.store b.dump b.beliefs running → MakesOther running serial
makes_before core asked bodies files b serial more None w = tt
makes_before core asked bodies files b serial more (Some running) w = by_image running.image w.image
  where
    by_image : (image : Option Making) → IsImageOn core.base (history_of core) core.memory core.phases asked bodies core.numbers.serial b.store b.dump b.beliefs running.parent running.number image → IsOtherImage image serial
    by_image None m = tt
    by_image (Some image) m = λ same. (let low = m.serial in omega (arith, more, low, same))

pub begins_merged_lem : MergeLaws → MakingLaws → PlansLead → (old new : CoreView) (merge : merger.Running) (phase : Phase) (asked : List (Option Asked)) (bodies files : List (List ℕ))
    → BeginsMerged old merge phase new → Believes old asked bodies files → Believes new asked bodies files
begins_merged_lem merge_laws making plans old new merge phase asked bodies files s b =
    let last = old.numbers.serial in
    let u : IsLiveOn old.base (history_of old) old.catalog old.grows old.memory old.phases asked bodies last b.store b.dump b.beliefs old.dumper.running = b.knows.is_live s.rest.stands in
    let m : IsRepeating old.phases b.store b.beliefs old.dumper.running merge.slot merge.source × IsSilent asked =
    subst (IsMergeAt old.phases asked bodies last b.store b.beliefs old.dumper.running merge.slot merge.source) s.due
    (subst (λ x. IsMergeOn old.phases asked bodies last b.store b.beliefs old.dumper.running x) s.was (b.knows.merging s.rest.stands).is) in
    let r = m.0 in
    let order : CopyOrder = merger.order_of merge (last + 1) (state_of phase) in
    let there = (b.has.slots.catalog r.image).1 (inl (contains_at b.beliefs r.source.slot (Kept r.image) r.source.kept)) in
    let table = ((b.knows.merging s.rest.stands).spelled r.image there).1.table in
    let found = has_too old.phases b.beliefs merge.slot phase b.has.believed.count s.phase_is in
    let leaves : LeavesWork b.store old.dumper.running old.memory (slots_at old.phases bodies b.beliefs) last (last + 1) b.store (slots_at old.phases bodies b.beliefs) = record {
      count = refl;
      same = λ k one is reserved. record { phase = refl; body = refl; belief = refl };
      last_is = omega arith;
      chain = refl;
      newest = λ j member restored. (j, member, restored, refl);
      needs = λ k i one is reserved has needed. needed;
      gives = λ one is place bytes below. below;
      rests = λ none grown rests. rests;
      numbers = λ number is new. new;
      images = λ k j has. inl has;
    } in
    let copies : IsCopyOfSource old.phases asked bodies (last + 1) b.store b.beliefs old.dumper.running merge.slot merge.source (begun_copy order) = record {
      repeats = r;
      order = (refl, refl);
      copy = record {
        pages = [];
        keeps = merge_laws.begins b.store.catalog r.image order table r.source.restorable r.source.pages;
        files = tt;
        serial = omega arith;
        other = makes_before old asked bodies files b (last + 1) (omega arith) old.dumper.running u.job;
        above = λ j member stands. u.used.above.serials j member;
        others = λ slot j has apart same. (let few = u.used.slots slot j has in omega (arith, few, same));
        phase = phase;
        phase_is = s.phase_is;
        belief = found.0;
        belief_is = found.1;
        request = None;
        own = m.1;
        asked_in = tt;
        slot_is = (
          record {
            place = 0;
            on = refl;
            left = refl;
            leads = plans.format phase (file_at bodies merge.slot);
            formatted = u.exact merge.slot phase found.0 s.phase_is found.1 (none_at asked old merge.slot b.knows.out s.free);
          },
          refl,
        );
      };
    } in
    believes_parts new old.base (history_of old) new.catalog old.grows old.memory old.phases (last + 1) old.dumper.running (Some (record merge { doing = copying (begun_copy order) }))
    (record {
      base_is = s.rest.base;
      history_is = s.rest.history;
      places_is = refl;
      grows_is = s.rest.grows;
      memory_is = s.rest.memory;
      phases_is = s.phases;
      last_is = s.serial;
      running_is = s.rest.dumper;
      merger_is = s.is;
      closed = s.rest.closed;
    })
    asked bodies files b.store b.dump b.beliefs (λ is. b.knows.sure (sym s.rest.committing ∙ is)) b.knows.count (b.knows.out ∙ sym s.outs) b.has
    (record {
      catalog = held_in_use old.catalog new.catalog b.beliefs (last + 1) s.held
          (λ slot i has same. (let few = u.used.slots slot i (image_of_has b.beliefs slot i has) in omega (arith, few, same))) u.catalog;
      grows_is = u.grows_is;
      used = used_more last b.store b.beliefs u.used;
      exact = u.exact;
      writes = u.writes;
      job = work_beside making old.base (history_of old) old.memory b.store (slots_at old.phases bodies b.beliefs) last (last + 1) b.store (slots_at old.phases bodies b.beliefs) b.dump asked asked refl refl
          old.grows old.dumper.running u.grows_is s.rest.makes leaves u.job;
    })
    (record { spelled = (b.knows.merging s.rest.stands).spelled; is = copies })

-- ---- a merge begins

module _ (gates : GateSteps) (needs : NeedsNoMore) (making : MakingLaws) (reached : NeededIsReached) (places : Places) (tells : LiveCatalogAgrees places) (reaches : RecordedReachesSo places)
    (agrees : (all : List Image) → CatalogLists places all → Agrees places all)
    (old new : CoreView) (t : Opened) (slot : ℕ) (before : List ℕ)
    (asked : List (Option Asked)) (bodies files : List (List ℕ)) (s : BeginsMerge places old t slot before new) (b : Believes old asked bodies files) where
  abbrev history : History
  history = history_of old

  abbrev last : ℕ
  last = old.numbers.serial

  abbrev running : Option Running
  running = old.dumper.running

  u : IsLiveOn old.base history places old.grows old.memory old.phases asked bodies last b.store b.dump b.beliefs running
  u = subst (λ p. IsLiveOn old.base history p old.grows old.memory old.phases asked bodies last b.store b.dump b.beliefs running) s.its_catalog (b.knows.is_live s.rest.stands)

  m : IsUnmerged b.store × IsSilent asked
  m = subst (λ x. IsMergeOn old.phases asked bodies last b.store b.beliefs running x) s.was (b.knows.merging s.rest.stands).is

  told : CatalogLists places b.store.catalog
  told = tells b.store b.dump b.beliefs b.has.slots u.catalog

  so : Agrees places b.store.catalog
  so = agrees b.store.catalog told

  image : (image : Image) × Contains b.store.catalog image × IsRecordedAs t image
  image = told.image t s.is_tip.member

  abbrev tip : Image
  tip = image.0

  tip_is : IsTip b.store.catalog tip
  tip_is = (so.tip t tip s.is_tip.member image.1 image.2).0 s.is_tip

  abbrev store_now : Store
  store_now = merging b.store tip

  -- ---- its slot

  -- where a needed image stands
  module _ (i : Image) (has : image_at b.beliefs slot ≡ Some i) (needed : IsNeededIn b.store i) where
    kept : (k : ℕ) × (slice_get b.beliefs k ≡ Some (Kept i))
    kept = place_in b.beliefs (Kept i) (b.has.slots.needed i needed)

    its : kept.0 ≡ slot
    its = b.has.slots.serials kept.0 slot i i (ap (λ o. option_and_then image_in o) kept.1) has refl

    opened : (o : Opened) × (place_of places i.header.serial ≡ Some (Some o)) × IsRecordedAs o i × (o.slot ≡ slot)
    opened = u.catalog.opened slot i (inl (ap (slice_get b.beliefs) (sym its) ∙ kept.1))

    -- what an image reaches is reached by serial
    by_serial : (start : Image) → Contains b.store.catalog start → Reaches b.store.catalog i start → ReachesSerial places start.header.serial i.header.serial
    by_serial start member way = (reaches b.store.catalog told start.header.serial i.header.serial).1 (start, i, member, refl, way, refl)

    by_tip : (other : Image) → IsTip b.store.catalog other → Reaches b.store.catalog i other → ⊥
    by_tip other is way =
        let o = told.opened other is.member in
        let serial : other.header.serial ≡ o.0.header.serial = ap (λ h. h.serial) o.2.header in
        s.unreached (so.fall.1 b.has.sound.fall) i.header.serial opened.0 o.0 opened.1 opened.3 ((so.tip o.0 other o.1 is.member o.2).1 is)
        (subst (λ n. ReachesSerial places n i.header.serial) serial (by_serial other is.member way))

    by_chain : (dumping : Option Running) → IsAtWork old.base history old.grows old.memory old.phases asked bodies last b.store b.dump b.beliefs dumping → IsUncalled places dumping slot
        → (number : ℕ) (start : Image) → Contains b.store.chain number → IsNamed b.store.catalog number start → Reaches b.store.catalog i start → ⊥
    by_chain None w uncalled number start member names way = let within : member.0 < 0 = subst (λ c. member.0 < length c) w.idle member.1 in omega (arith, within)
    by_chain (Some one) w uncalled number start member names way =
        let is : number ≡ one.parent = only number (subst (λ c. Contains c number) w.chain member) in
        let o = told.opened start names.member in
        let serial : start.header.serial ≡ o.0.header.serial = ap (λ h. h.serial) o.2.header in
        uncalled i.header.serial opened.0 o.0 opened.1 opened.3
        ((so.named one.parent o.0 start o.1 names.member o.2).1 (subst (λ n. IsNamed b.store.catalog n start) is names))
        (subst (λ n. ReachesSerial places n i.header.serial) serial (by_serial start names.member way))
      where
        only : (n : ℕ) → Contains (one.parent ∷ []) n → n ≡ one.parent
        only n (zero, within, same) = sym same
        only n (suc j, within, same) = absurd (omega (arith, within))

    not_needed : ⊥
    not_needed = elim ((reached b.store.catalog (jobs b.store) i).0 needed) [
      | inl way ↦ by_tip way.0 way.1 way.2
      | inr way ↦ elim (Contains-append_cases b.store.chain b.store.work way.0 way.2) [
        | inl chained ↦ by_chain running u.job (s.uncalled (so.fall.1 b.has.sound.fall)) way.0 way.1 chained way.3 way.4
        | inr worked ↦ (let within : worked.0 < 0 = subst (λ w. worked.0 < length w) m.0.work worked.1 in omega (arith, within))
      ]
    ]

  -- ---- its source

  source_at : (k : ℕ) × (slice_get b.beliefs k ≡ Some (Kept tip))
  source_at = place_in b.beliefs (Kept tip) (b.has.slots.needed tip (inl tip_is))

  source_there : image_at b.beliefs source_at.0 ≡ Some tip
  source_there = ap (λ o. option_and_then image_in o) source_at.1

  -- no image that is being opened stands for the source's number
  other_number : (j : Image) → IsAdded b.store b.dump j → j.header.stands_for ≢ tip.header.stands_for
  other_number j (inl fresh) same = fresh.1.number.stands tip image.1 (sym same)
  other_number j (inr (inl twin)) same = let no : None ≡ Some twin.source = sym m.0.source ∙ twin.running in cc
  other_number j (inr (inr pending)) same = (subst (λ d. IfSome d (IsNextDump b.store)) pending b.has.slots.dump).next.fresh.number.stands tip image.1 (sym same)

  repeats : IsRepeating old.phases store_now b.beliefs running slot (source_from t)
  repeats = record {
    image = tip;
    source = record {
      is = refl;
      work = refl;
      serial = ap (λ h. h.serial) (sym image.2.header);
      stands = ap (λ h. h.stands_for) (sym image.2.header);
      checkpoint = ap (λ h. h.checkpoint) (sym image.2.header);
      pages = ap (λ (l : List Listed). few_pages (listed_count l)) (sym image.2.spaces);
      restorable = tip_is.restorable;
      some = ((b.knows.merging s.rest.stands).spelled tip image.1).1.header.checkpoint;
      slot = source_at.0;
      kept = source_at.1;
      spared = needed_spared old asked bodies files b source_at.0 tip source_there (inl tip_is) running u.job;
      apart = λ same. not_needed tip (ap (image_at b.beliefs) (sym same) ∙ source_there) (inl tip_is);
      held = tip_held b.store.catalog b.has.last.shown b.has.sound.serials b.has.last.shows tip tip_is ((b.knows.merging s.rest.stands).spelled tip image.1).1.table;
    };
    slot = record {
      within = s.within;
      spared = s.spared;
      unneeded = λ i has needed. not_needed i has (needs.merges b.store tip i b.has.sound tip_is needed);
    };
    opening = λ k j opens apart. other_number j (b.has.slots.opening j (contains_at b.beliefs k (Opening j) opens));
  }

  -- ---- all of it

  leaves : LeavesWork b.store running old.memory (slots_at old.phases bodies b.beliefs) last last store_now (slots_at old.phases bodies b.beliefs)
  leaves = record {
    count = refl;
    same = λ k one is reserved. record { phase = refl; body = refl; belief = refl };
    last_is = omega arith;
    chain = refl;
    newest = λ j member restored. (j, member, restored, refl);
    needs = λ k i one is reserved has needed. needs.merges b.store tip i b.has.sound tip_is needed;
    gives = λ one is place bytes below. below;
    rests = λ none grown rests. rests;
    numbers = λ number is new. record {
      serial = new.serial;
      unused = record {
        stands = new.unused.stands;
        names = new.unused.names;
        asks = λ member. elim (Contains-append_cases b.store.chain (tip.header.parent ∷ []) number member) [
          | inl chained ↦ new.unused.asks (Contains-append_left b.store.chain b.store.work number chained)
          | inr worked ↦ new.unused.names tip image.1 (sym (only number worked))
        ];
      };
      apart = new.unused.stands tip image.1;
    };
    images = λ k j has. inl has;
  }
    where
      only : (n : ℕ) → Contains (tip.header.parent ∷ []) n → n ≡ tip.header.parent
      only n (zero, within, same) = sym same
      only n (suc j, within, same) = absurd (omega (arith, within))

  above_then : IsAboveStore store_now (last + 1)
  above_then = record {
    serials = u.used.above.serials;
    stands = u.used.above.stands;
    parents = u.used.above.parents;
    jobs = λ number member. elim (Contains-append_cases b.store.chain (tip.header.parent ∷ []) number member) [
      | inl chained ↦ u.used.above.jobs number (Contains-append_left b.store.chain b.store.work number chained)
      | inr worked ↦ (let is = only number worked in let low = u.used.above.parents tip image.1 in omega (arith, is, low))
    ];
    source = u.used.above.stands tip image.1;
  }
    where
      only : (n : ℕ) → Contains (tip.header.parent ∷ []) n → n ≡ tip.header.parent
      only n (zero, within, same) = sym same
      only n (suc j, within, same) = absurd (omega (arith, within))

  begins_merge_at : Believes new asked bodies files
  begins_merge_at = believes_parts new old.base history places old.grows old.memory old.phases last running (Some (begun_merge (source_from t) slot before))
      (record {
        base_is = s.rest.base;
        history_is = s.rest.history;
        places_is = s.catalog;
        grows_is = s.rest.grows;
        memory_is = s.rest.memory;
        phases_is = s.phases;
        last_is = s.serial;
        running_is = s.rest.dumper;
        merger_is = s.is;
        closed = s.rest.closed;
      })
      asked bodies files store_now b.dump b.beliefs (λ is. b.knows.sure (sym s.rest.committing ∙ is)) b.knows.count (b.knows.out ∙ sym s.outs)
      ((gates old.base history old.phases asked bodies).merges b.store b.dump b.beliefs tip tip_is m.0.source b.has)
      (record {
        catalog = u.catalog;
        grows_is = u.grows_is;
        used = record { above = above_then; slots = u.used.slots };
        exact = u.exact;
        writes = u.writes;
        job = work_beside making old.base history old.memory b.store (slots_at old.phases bodies b.beliefs) last last store_now (slots_at old.phases bodies b.beliefs) b.dump asked asked refl refl
            old.grows running u.grows_is s.rest.makes leaves u.job;
      })
      (record { spelled = (b.knows.merging s.rest.stands).spelled; is = (repeats, m.1) })

pub begins_merge_lem : GateSteps → NeedsNoMore → MakingLaws → NeededIsReached → (places : Places) → LiveCatalogAgrees places → RecordedReachesSo places
    → ((all : List Image) → CatalogLists places all → Agrees places all) → MergeBeginningIsBelieved places
begins_merge_lem gates needs making reached places tells reaches agrees old new t slot before asked bodies files s b =
    begins_merge_at gates needs making reached places tells reaches agrees old new t slot before asked bodies files s b

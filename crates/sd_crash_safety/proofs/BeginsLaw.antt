-- A checkpoint begins.
use Rattle.std.proofs.Common.{◌≡◌, ◌≢◌, ℕ, zero, suc, ◌<◌, ◌+◌, true, List, [], ◌∷◌, ◌++◌, Option, Some, None, Contains, option_and_then, slice_get, refl, sym, ◌∙◌, ap, subst, inl, inr, arith}
use Rattle.std.proofs.lemmas.List.Elements.{Contains-append_cases, Contains-append_right}
use Rattle.sd_image.specs.Image.{Image}
use Rattle.sd_image.specs.Shows.{IsTip}
use Rattle.sd_image.proofs.Members.{place_in}
use Rattle.sd_chain.specs.Catalog.{Opened, Places}
use Rattle.sd_chain.specs.Catalog as catalog
use Rattle.sd_chain.specs.Reaches.{ReachesSerial}
use Rattle.sd_chain.specs.Recorded.{Agrees, CatalogLists, IsRecordedAs}
use Rattle.sd_gate.specs.Requests.{Asked}
use Rattle.sd_journal.specs.History.{History}
use Rattle.sd_rounds.specs.Dumper.{IsReserved, Running, writes_of_image}
use Rattle.sd_rounds.specs.Keeps.{Rests}
use Rattle.sd_rounds.specs.Making.{Making}
use Rattle.sd_store_laws.specs.Beliefs.{Kept, image_at, image_in}
use Rattle.sd_store_laws.specs.LiveImages.{LiveCatalogAgrees, RecordedReachesSo}
use Rattle.sd_store_laws.specs.Makers.{IsAboveStore}
use Rattle.sd_store_laws.specs.Needed.{IsNeeded, NeededIsReached}
use Rattle.sd_store_laws.specs.Reached.{Reaches}
use Rattle.sd_store_laws.specs.Needs.{IsNeededIn, NeedsNoMore}
use Rattle.sd_store_laws.specs.Steps.{checkpoint_begun}
use Rattle.sd_store_laws.specs.Store.{jobs}
use Rattle.sd_crash_safety.specs.Believes.{Believes, HasStore}
use Rattle.sd_crash_safety.specs.CheckpointSteps.{BeginningIsBelieved, BeginsCheckpoint}
use Rattle.sd_crash_safety.specs.GateSteps.{GateSteps}
use Rattle.sd_crash_safety.specs.LiveImages.{IsAtRest, IsImageOn, IsLiveOn, chain_of}
use Rattle.sd_crash_safety.specs.View.{CoreView, history_of}
use Rattle.sd_crash_safety.specs.Merges.{IsMergeOn}
use Rattle.sd_crash_safety.proofs.BeginsBeside.{merge_on_beside, uncalled_by_work}
use Rattle.sd_crash_safety.proofs.MergeStays.{LeavesMerge, holds_same, merge_then, merging_of, slots_at}
use Rattle.sd_crash_safety.proofs.OpenCore.{believes_parts}

module _ (gates : GateSteps) (needs : NeedsNoMore) (reached : NeededIsReached) (places : Places) (tells : LiveCatalogAgrees places) (reaches : RecordedReachesSo places)
    (agrees : (all : List Image) → CatalogLists places all → Agrees places all) (old new : CoreView) (running : Running)
    (asked : List (Option Asked)) (bodies files : List (List ℕ)) (s : BeginsCheckpoint places old running new) (b : Believes old asked bodies files) where
  abbrev history : History
  history = history_of old

  u : IsLiveOn old.base history places old.grows old.memory old.phases asked bodies old.numbers.serial b.store b.dump b.beliefs None
  u = subst (λ p. IsLiveOn old.base history p old.grows old.memory old.phases asked bodies old.numbers.serial b.store b.dump b.beliefs None) s.its_catalog
      (subst (λ r. IsLiveOn old.base history old.catalog old.grows old.memory old.phases asked bodies old.numbers.serial b.store b.dump b.beliefs r) s.was (b.knows.is_live s.rest.stands))

  rest : IsAtRest old.grows old.memory asked b.store b.dump
  rest = u.job

  told : CatalogLists places b.store.catalog
  told = tells b.store b.dump b.beliefs b.has.slots u.catalog

  so : Agrees places b.store.catalog
  so = agrees b.store.catalog told

  has_none : HasStore old.base history old.phases asked bodies b.store None b.beliefs
  has_none = subst (λ d. HasStore old.base history old.phases asked bodies b.store d b.beliefs) rest.alone b.has

  -- ---- the slots

  only_work : jobs b.store ≡ b.store.work
  only_work = ap (λ chain. chain ++ b.store.work) rest.idle

  merge : IsMergeOn old.phases asked bodies old.numbers.serial b.store b.beliefs None old.merger
  merge = (merging_of old asked bodies files None s.rest.stands s.was b).is

  members : (i : Image) → Contains b.beliefs (Kept i) → Contains b.store.catalog i
  members i kept = (b.has.slots.catalog i).1 (inl kept)

  -- what is needed stands in its slot, and the tip reaches it
  needed_in : (slot : ℕ) (i : Image) → IsReserved running slot → image_at b.beliefs slot ≡ Some i → IsNeededIn b.store i → ⊥
  needed_in slot i r has needed = elim ((reached b.store.catalog b.store.work i).0 (subst (λ numbers. IsNeeded b.store.catalog numbers i) only_work needed)) [
    | inl way ↦ by_tip way.0 way.1 way.2
    | inr way ↦ uncalled_by_work places b.store b.beliefs u.catalog told reaches members old.phases asked bodies old.numbers.serial running slot i
        (inl (ap (slice_get b.beliefs) (sym its) ∙ kept.1)) r old.merger (s.merge (so.fall.1 b.has.sound.fall)) merge way.0 way.1 way.2 way.3 way.4
  ]
    where
      kept : (k : ℕ) × (slice_get b.beliefs k ≡ Some (Kept i))
      kept = place_in b.beliefs (Kept i) (b.has.slots.needed i needed)

      its : kept.0 ≡ slot
      its = b.has.slots.serials kept.0 slot i i (ap (λ o. option_and_then image_in o) kept.1) has refl

      by_tip : (tip : Image) → IsTip b.store.catalog tip → Reaches b.store.catalog i tip → ⊥
      by_tip tip is way =
          let o = u.catalog.opened slot i (inl (ap (slice_get b.beliefs) (sym its) ∙ kept.1)) in
          let t = told.opened tip is.member in
          let serial : tip.header.serial ≡ t.0.header.serial = ap (λ h. h.serial) t.2.header in
          s.unreached (so.fall.1 b.has.sound.fall) slot r i.header.serial o.0 t.0 o.1 o.3 ((so.tip t.0 tip t.1 is.member t.2).1 is)
          (subst (λ n. ReachesSerial places n i.header.serial) serial
          ((reaches b.store.catalog told tip.header.serial i.header.serial).1 (tip, i, is.member, refl, way, refl)))

  -- ---- its parent

  -- the store then, whose next image names this number
  record Begun (number : ℕ) : Type 0 where
    pub has : HasStore old.base history old.phases asked bodies (checkpoint_begun b.store number) None b.beliefs
    pub needs_no_more : (i : Image) → IsNeededIn (checkpoint_begun b.store number) i → IsNeededIn b.store i
    pub rests : number ≢ 0 → Rests (chain_of b.store number) old.memory
    pub low : number < old.numbers.serial + 1

  begun_whole : Begun 0
  begun_whole = record {
    has = (gates old.base history old.phases asked bodies).begins_whole b.store b.beliefs has_none;
    needs_no_more = λ i. needs.begins_whole b.store i b.has.sound;
    rests = λ some. absurd (some refl);
    low = omega arith;
  }

  begun_on : old.grows ≡ true → (t : Opened) → catalog.IsTip places t → Begun t.header.stands_for
  begun_on grown t is = subst Begun (ap (λ h. h.stands_for) image.2.header) (record {
    has = (gates old.base history old.phases asked bodies).begins b.store b.beliefs tip grows tip_is has_none;
    needs_no_more = λ i. needs.begins b.store tip i b.has.sound grows tip_is;
    rests = λ some. rest.gives grown tip tip_is;
    low = u.used.above.stands tip image.1;
  })
    where
      image : (image : Image) × Contains b.store.catalog image × IsRecordedAs t image
      image = told.image t is.member

      tip : Image
      tip = image.0

      tip_is : IsTip b.store.catalog tip
      tip_is = (so.tip t tip is.member image.1 image.2).0 is

      grows : b.store.grows ≡ true
      grows = u.grows_is ∙ grown

  then : Begun running.parent
  then = elim s.parent [
    | inl whole ↦ subst Begun (sym whole) begun_whole
    | inr tip ↦ subst Begun (sym tip.3) (begun_on tip.0 tip.1 tip.2)
  ]

  -- ---- all of it

  newest_of : (j : Image) → Contains b.store.catalog j → j.header.checkpoint < running.number
  newest_of j member =
      let o = so.stands j member in
      let less = s.newest j.header.serial o.0 o.1 in let same = ap (λ h. h.checkpoint) o.2.header in omega (arith, less, same)

  above_then : IsAboveStore (checkpoint_begun b.store running.parent) (old.numbers.serial + 1)
  above_then = record {
    serials = u.used.above.serials;
    stands = u.used.above.stands;
    parents = u.used.above.parents;
    jobs = λ number member. elim (Contains-append_cases (running.parent ∷ []) b.store.work number member) [
      | inl own ↦ alone number own
      | inr work ↦ u.used.above.jobs number (Contains-append_right b.store.chain b.store.work number work)
    ];
    source = u.used.above.source;
  }
    where
      alone : (number : ℕ) → Contains (running.parent ∷ []) number → number < old.numbers.serial + 1
      alone number (zero, within, is) = let low = then.low in omega (arith, is, low)
      alone number (suc k, within, is) = absurd (omega (arith, within))

  image_then : (image : Option Making) → image ≡ None
      → IsImageOn old.base history old.memory old.phases asked bodies old.numbers.serial (checkpoint_begun b.store running.parent) None b.beliefs running.parent running.number image
  image_then None is = record { rests = then.rests; none = rest.none; alone = refl }
  image_then (Some image) is = absurd (let no : Some image ≡ None = is in cc)

  beside : LeavesMerge old.numbers.serial b.store (Some running) (slots_at old.phases bodies b.beliefs) old.numbers.serial (checkpoint_begun b.store running.parent) (Some running) (slots_at old.phases bodies b.beliefs)
  beside = record {
    count = refl;
    same = λ slot spared. record { phase = refl; body = refl; belief = refl };
    spares = λ slot spared. spared;
    last_is = omega arith;
    source = refl;
    work = refl;
    needs = λ slot i spared has needed. then.needs_no_more i needed;
    still = λ source is. holds_same b.store.catalog source;
    makes = λ serial low other. other;
    images = λ slot j has. inl has;
    opening = λ slot j opens. inl opens;
  }

  begins_lem : Believes new asked bodies files
  begins_lem = believes_parts new old.base history places old.grows old.memory old.phases old.numbers.serial (Some running) old.merger
      (record {
        base_is = s.rest.base;
        history_is = s.history;
        places_is = s.catalog;
        grows_is = s.rest.grows;
        memory_is = s.memory;
        phases_is = s.phases;
        last_is = s.serial;
        running_is = s.is;
        merger_is = s.rest.merger;
        closed = s.rest.closed;
      })
      asked bodies files (checkpoint_begun b.store running.parent) None b.beliefs (λ is. refl) b.knows.count (b.knows.out ∙ sym s.outs) then.has
      (record {
        catalog = u.catalog;
        grows_is = u.grows_is;
        used = record { above = above_then; slots = u.used.slots };
        exact = u.exact;
        writes = u.writes ∙ ap writes_of_image (sym s.fresh.0);
        job = record {
          some = s.some;
          chain = refl;
          newest = λ j member restored. newest_of j member;
          within = s.within;
          unneeded = λ slot i r has needed. needed_in slot i r has (then.needs_no_more i needed);
          apart = s.apart;
          image = image_then running.image s.fresh.0;
        };
      })
      (merge_then old.numbers.serial b.store (Some running) (slots_at old.phases bodies b.beliefs) old.numbers.serial (checkpoint_begun b.store running.parent) (Some running) (slots_at old.phases bodies b.beliefs)
      beside asked asked refl old.merger (b.knows.merging s.rest.stands).spelled (record {
        spelled = (b.knows.merging s.rest.stands).spelled;
        is = merge_on_beside places b.store b.beliefs u.catalog told reaches members old.phases asked bodies old.numbers.serial running s.fresh.0 old.merger (s.merge (so.fall.1 b.has.sound.fall)) merge;
      }))

pub beginning_lem : GateSteps → NeedsNoMore → NeededIsReached → (places : Places) → LiveCatalogAgrees places → RecordedReachesSo places
    → ((all : List Image) → CatalogLists places all → Agrees places all) → BeginningIsBelieved places
beginning_lem gates needs reached places tells reaches agrees old new running asked bodies files s b =
    begins_lem gates needs reached places tells reaches agrees old new running asked bodies files s b

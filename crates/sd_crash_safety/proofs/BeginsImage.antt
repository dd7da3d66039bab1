-- The next image of a checkpoint begins.
use Rattle.std.proofs.Common.{◌≡◌, ◌≢◌, ℕ, ◌+◌, ◌<◌, ◌==◌, ◌&&◌, Bool, true, false, if◌then◌else◌, List, [], ◌∷◌, ◌++◌, length, Option, Some, None, IfSome, Contains, slice_get, refl, sym, ◌∙◌, ap, subst, arith}
use Rattle.std.proofs.lemmas.Bool.{ne_eqb}
use Rattle.sd_disk.specs.Contents.{file_at}
use Rattle.sd_image.specs.Image.{Image}
use Rattle.sd_image.specs.Words.{kind_number}
use Rattle.sd_chain.specs.Catalog.{Changes, Opened, Places, place_of}
use Rattle.sd_gate.specs.declared.phase.Phase.{Phase}
use Rattle.sd_gate.specs.Laws.{PlansLead}
use Rattle.sd_gate.specs.Phases.{state_of}
use Rattle.sd_gate.specs.Requests.{Asked}
use Rattle.sd_rounds.specs.Dumper.{Running, order_of, slot_of, writes_of_image}
use Rattle.sd_rounds.specs.Making.{Making, begun_image}
use Rattle.sd_rounds.specs.MakingLaws.{MakingLaws}
use Rattle.sd_store_laws.specs.Beliefs.{Belief, image_at}
use Rattle.sd_store_laws.specs.LiveImages.{IsLiveCatalog, SlotHasImage}
use Rattle.sd_store_laws.specs.Makers.{IsAboveStore}
use Rattle.sd_store_laws.specs.Store.{Store, jobs}
use Rattle.sd_crash_safety.specs.Believes.{Believes}
use Rattle.sd_crash_safety.specs.Calls.{IsFree}
use Rattle.sd_crash_safety.specs.DumperSteps.{BeginsImage}
use Rattle.sd_crash_safety.specs.LiveImages.{AreUsed, IsBetween, IsImageOn, IsLiveOn, IsMakingOn, IsNewNumber, IsRunningOn, NoneAt, chain_of, ids_of, IsFormatting, lanes_of}
use Rattle.sd_crash_safety.specs.View.{CoreView, history_of}
use Rattle.sd_crash_safety.proofs.MergeStays.{merge_beside, spares_with}
use Rattle.sd_crash_safety.proofs.OpenCore.{believes_parts}
use Rattle.sd_crash_safety.proofs.Places.{has_too, id_there}
use Rattle.sd_crash_safety.proofs.Lanes.{body_still, no_pages}
use Rattle.sd_rounds.specs.Writes.{no_writes}
use Rattle.sd_gate.specs.Plans.{begun}
use Rattle.sd_gate.specs.Sequences.{format_calls}
use Rattle.sd_gate.specs.Inspections.{nothing}

-- ---- numbers

above_more : (store : Store) (n : ℕ) → IsAboveStore store n → IsAboveStore store (n + 1)
above_more store n is = record {
  serials = λ i member. let less = is.serials i member in omega (arith, less);
  stands = λ i member. let less = is.stands i member in omega (arith, less);
  parents = λ i member. let less = is.parents i member in omega (arith, less);
  jobs = λ asked member. let less = is.jobs asked member in omega (arith, less);
  source = source_more store.source is.source;
}
  where
    source_more : (s : Option Image) → IfSome s (λ source. source.header.stands_for < n) → IfSome s (λ source. source.header.stands_for < n + 1)
    source_more None less = less
    source_more (Some source) less = omega (arith, less)

pub used_more : (last : ℕ) (store : Store) (beliefs : List Belief) → AreUsed last store beliefs → AreUsed (last + 1) store beliefs
used_more last store beliefs used = record {
  above = above_more store (last + 1) used.above;
  slots = λ slot i has. let few = used.slots slot i has in omega (arith, few);
}

-- ---- a place that is held

pub held_in_use : (old new : Places) (beliefs : List Belief) (serial : ℕ) → Changes old new serial (Some None)
    → ((slot : ℕ) (i : Image) → SlotHasImage beliefs slot i → i.header.serial ≢ serial) → IsLiveCatalog old beliefs → IsLiveCatalog new beliefs
held_in_use old new beliefs serial held others use_old = record {
  image = λ other o at. use_old.image other o (was other o at);
  opened = λ slot i has.
      let o = use_old.opened slot i has in
      (o.0, held i.header.serial ∙ ap (λ b. if b then Some None else place_of old i.header.serial) (ne_eqb serial i.header.serial (λ same. others slot i has (sym same))) ∙ o.1, o.2, o.3);
}
  where
    was : (other : ℕ) (o : Opened) → place_of new other ≡ Some (Some o) → place_of old other ≡ Some (Some o)
    was other o at = by_test (serial == other) refl
      where
        by_test : (b : Bool) → (serial == other) ≡ b → place_of old other ≡ Some (Some o)
        by_test true is = absurd (let no : Some None ≡ Some (Some o) = sym (held other ∙ ap (λ t. if t then Some None else place_of old other) is) ∙ at in cc)
        by_test false is = sym (held other ∙ ap (λ t. if t then Some None else place_of old other) is) ∙ at

pub image_of_has : (beliefs : List Belief) (slot : ℕ) (i : Image) → SlotHasImage beliefs slot i → image_at beliefs slot ≡ Some i
image_of_has beliefs slot i given = grind arith

-- ---- a number above all

pub new_number : (store : Store) (number : ℕ) → IsAboveStore store number → IsNewNumber store number
new_number store number above = record {
  serial = λ j member same. (let less = above.serials j member in omega (arith, less, same));
  unused = record {
    stands = λ j member same. (let less = above.stands j member in omega (arith, less, same));
    names = λ j member same. (let less = above.parents j member in omega (arith, less, same));
    asks = λ member. (let less = above.jobs number member in omega (arith, less));
  };
  apart = apart_from store.source above.source;
}
  where
    apart_from : (source : Option Image) → IfSome source (λ x. x.header.stands_for < number) → IfSome source (λ x. x.header.stands_for ≢ number)
    apart_from None is = tt
    apart_from (Some source) is = λ same. omega (arith, is, same)

pub in_front : (chain work : List ℕ) (parent : ℕ) → chain ≡ parent ∷ [] → Contains (chain ++ work) parent
in_front chain work parent is = subst (λ c. Contains (c ++ work) parent) (sym is) (0, omega arith, refl)

-- ---- no request is out on a slot

pub none_at : (asked : List (Option Asked)) (core : CoreView) (slot : ℕ) → ids_of asked ≡ core.outs → IsFree core.outs slot → NoneAt asked slot
none_at asked core slot out free worker request is same =
    free worker request.id (ap (λ ids. slice_get ids worker) (sym out) ∙ id_there asked worker request is) same

never_frozen : (k : Bool) → (k && false) ≡ true → ⊥
never_frozen k is = grind arith

-- ---- the image

begun_on : MakingLaws → PlansLead → (old : CoreView) (running : Running) (phase : Phase) (asked : List (Option Asked)) (bodies : List (List ℕ)) (store : Store) (dump : Option Image) (beliefs : List Belief)
    → slice_get old.phases (slot_of running) ≡ Some phase → NoneAt asked (slot_of running) → length beliefs ≡ length old.phases
    → IsLiveOn old.base (history_of old) old.catalog old.grows old.memory old.phases asked bodies old.numbers.serial store dump beliefs (Some running)
    → ids_of (lanes_of asked) ≡ no_writes → IsBetween old.memory asked store dump running.parent → Contains (jobs store) running.parent
    → IsMakingOn old.base (history_of old) old.memory old.phases asked bodies (old.numbers.serial + 1) store dump beliefs running.parent running.number
    (begun_image (order_of running (old.numbers.serial + 1) (state_of phase)))
begun_on making plans old running phase asked bodies store dump beliefs at free count u empty between chained =
    let order = order_of running (old.numbers.serial + 1) (state_of phase) in
    let found = has_too old.phases beliefs (slot_of running) phase count at in
    record {
      pages = [];
      keeps = making.begins order (chain_of store running.parent) old.memory between.rests;
      files = tt;
      frozen = λ is. absurd (never_frozen (kind_number order.kind == 2) is);
      serial = omega arith;
      fresh = new_number store (old.numbers.serial + 1) u.used.above;
      low = u.used.above.jobs running.parent chained;
      others = λ slot i has differs same. let few = u.used.slots slot i has in omega (arith, few, same);
      phase = phase;
      phase_is = at;
      belief = found.0;
      belief_is = found.1;
      request = None;
      own = between.none;
      asked_at = tt;
      rests = λ outside. refl;
      writing = no_pages (slot_of running) (lanes_of asked) empty;
      slot_is = subst (λ body. IsFormatting order (begun order.slot (format_calls order.state) nothing) phase body None found.0 × (dump ≡ None))
          (sym (body_still (file_at bodies (slot_of running)) (lanes_of asked) empty)) (
            record {
              place = 0;
              on = refl;
              left = refl;
              leads = plans.format phase (file_at bodies (slot_of running));
              formatted = u.exact (slot_of running) phase found.0 at found.1 free;
            },
            between.alone,
          );
    }

between_of : (old : CoreView) (running : Running) (asked : List (Option Asked)) (bodies : List (List ℕ)) (store : Store) (dump : Option Image) (beliefs : List Belief) (image : Option Making) → image ≡ None
    → IsImageOn old.base (history_of old) old.memory old.phases asked bodies old.numbers.serial store dump beliefs running.parent running.number image → IsBetween old.memory asked store dump running.parent
between_of old running asked bodies store dump beliefs image none m =
    subst (λ i. IsImageOn old.base (history_of old) old.memory old.phases asked bodies old.numbers.serial store dump beliefs running.parent running.number i) none m

pub begins_image_lem : MakingLaws → PlansLead → (old new : CoreView) (running : Running) (phase : Phase) (asked : List (Option Asked)) (bodies files : List (List ℕ))
    → BeginsImage old running phase new → Believes old asked bodies files → Believes new asked bodies files
begins_image_lem making plans old new running phase asked bodies files s b =
    let u : IsLiveOn old.base (history_of old) old.catalog old.grows old.memory old.phases asked bodies old.numbers.serial b.store b.dump b.beliefs (Some running) =
    subst (λ r. IsLiveOn old.base (history_of old) old.catalog old.grows old.memory old.phases asked bodies old.numbers.serial b.store b.dump b.beliefs r) s.was (b.knows.is_live s.rest.stands) in
    let w : IsRunningOn old.base (history_of old) old.memory old.phases asked bodies old.numbers.serial b.store b.dump b.beliefs running = u.job in
    let free = none_at asked old (slot_of running) b.knows.out s.free in
    let begun = begun_image (order_of running (old.numbers.serial + 1) (state_of phase)) in
    let between = between_of old running asked bodies b.store b.dump b.beliefs running.image s.none w.image in
    believes_parts new old.base (history_of old) new.catalog old.grows old.memory old.phases (old.numbers.serial + 1) (Some (record running { image = Some begun })) old.merger
    (record { base_is = s.rest.base; history_is = s.history; places_is = refl; grows_is = s.rest.grows; memory_is = s.memory; phases_is = s.phases; last_is = s.serial; running_is = s.is; merger_is = s.rest.merger; closed = s.rest.closed })
    asked bodies files b.store b.dump b.beliefs (λ is. between.alone) b.knows.count (b.knows.out ∙ sym s.outs) b.has
    (record {
      catalog = held_in_use old.catalog new.catalog b.beliefs (old.numbers.serial + 1) s.held
          (λ slot i has same. (let few = u.used.slots slot i (image_of_has b.beliefs slot i has) in omega (arith, few, same))) u.catalog;
      grows_is = u.grows_is;
      used = used_more old.numbers.serial b.store b.beliefs u.used;
      exact = u.exact;
      writes = u.writes ∙ ap writes_of_image s.none;
      job = record {
        some = w.some;
        chain = w.chain;
        newest = w.newest;
        within = λ slot r. w.within slot (record { place = r.place; from = r.from; is = r.is });
        unneeded = λ slot i r. w.unneeded slot i (record { place = r.place; from = r.from; is = r.is });
        apart = w.apart;
        image = begun_on making plans old running phase asked bodies b.store b.dump b.beliefs s.phase_is free b.has.believed.count u (u.writes ∙ ap writes_of_image s.none) between
            (in_front b.store.chain b.store.work running.parent w.chain);
      };
    })
    (merge_beside old asked asked bodies files running begun (old.numbers.serial + 1) s.rest.stands s.was refl
    (spares_with old.numbers.serial (old.numbers.serial + 1) running begun (omega arith) (λ serial low other same. omega (arith, low, same))) b)

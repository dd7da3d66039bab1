-- What is known of a merge stays while others go on.
use Rattle.std.proofs.Common.{◌≡◌, ◌≢◌, ◌⊎◌, ℕ, zero, suc, ◌<◌, ◌≤◌, IfSome, List, [], ◌∷◌, length, Option, Some, None, Contains, option_and_then, slice_get, slice_set, refl, sym, ◌∙◌, ap, subst, inl, inr, arith}
use Rattle.std.proofs.lemmas.Bool.{cases_eq}
use Rattle.std.proofs.lemmas.List.Elements.{Contains-append_right}
use Rattle.std.proofs.lemmas.Option.{same_Some}
use Rattle.sd_disk.specs.Contents.{file_at}
use Rattle.sd_image.specs.Image.{Image}
use Rattle.sd_image.specs.Shows.{Holds, IsNamed, IsRestorable}
use Rattle.sd_image.proofs.Members.{contains_at}
use Rattle.sd_gate.specs.declared.phase.Phase.{Phase}
use Rattle.sd_gate.specs.declared.slot_state.SlotState.TheVariants.{Open as OpenSlot}
use Rattle.sd_gate.specs.Requests.{Asked}
use Rattle.sd_merge.specs.declared.retired.Retired.{Retired}
use Rattle.sd_merge.specs.declared.source.Source.{Source}
use Rattle.sd_merge.specs.declared.stage.Stage.{Stage as CopyStage}
use Rattle.sd_merge.specs.declared.stage.Stage.TheVariants as copy
use Rattle.sd_merge.specs.Copying.{Copying}
use Rattle.sd_merge.specs.Merger.{Doing, Retiring, due, copying, opened, retiring}
use Rattle.sd_merge.specs.Merger as merger
use Rattle.sd_rounds.specs.declared.stage.Stage.TheVariants.{Format}
use Rattle.sd_rounds.specs.Dumper.{IsReserved, Running}
use Rattle.sd_rounds.specs.Making.{Making}
use Rattle.sd_writing.specs.Entries.{Place}
use Rattle.sd_store_laws.specs.Beliefs.{AreSlotsOf, Belief, Kept, Opening, image_at, image_in}
use Rattle.sd_store_laws.specs.Cut.{CutHoldsTheSame}
use Rattle.sd_store_laws.specs.ShownStays.{IsUnused, UnusedIsUncalled}
use Rattle.sd_store_laws.specs.Needed.{IsCalled, IsNeeded, by_job, by_parent}
use Rattle.sd_store_laws.specs.Needs.{IsNeededIn}
use Rattle.sd_store_laws.specs.Reached.{Reaches, beyond, itself}
use Rattle.sd_store_laws.specs.Steps.{Adds, Retires}
use Rattle.sd_store_laws.specs.Store.{IsFresh, IsMergeSource, IsSoundStore, Store, jobs}
use Rattle.sd_crash_safety.specs.Believes.{Believes}
use Rattle.sd_crash_safety.specs.declared.standing.Standing.TheVariants.{Open}
use Rattle.sd_crash_safety.specs.LiveImages.{IsNewNumber, IsSlotFor, body_written}
use Rattle.sd_crash_safety.specs.Merges.{AreSpelled, IsAskedIn, IsCopyOn, IsCutOn, IsListedOn, IsMergeAt, IsLiveMerge, IsMergeOn, IsRepeating, IsRetiredOn, IsSpared, IsUnmerged, IsOtherImage, MakesOther, lanes_in_slot, order_of_slot, request_in_slot, stage_in_slot}
use Rattle.sd_crash_safety.specs.View.{CoreView}
use Rattle.sd_merge.proofs.MergingLemmas.{stays as copy_stays}
use Rattle.sd_store_laws.proofs.SlotSteps.{set_other}

-- the slots as they are believed to be
pub record Slots : Type 0 where
  pub phases : List Phase
  pub bodies : List (List ℕ)
  pub beliefs : List Belief

abbrev pub slots_at : List Phase → List (List ℕ) → List Belief → Slots
slots_at phases bodies beliefs = record { phases = phases; bodies = bodies; beliefs = beliefs }

-- a slot is as it was
pub record IsSameSlot (old new : Slots) (slot : ℕ) : Type 0 where
  pub phase : slice_get new.phases slot ≡ slice_get old.phases slot
  pub body : file_at new.bodies slot ≡ file_at old.bodies slot
  pub belief : slice_get new.beliefs slot ≡ slice_get old.beliefs slot

-- what an image holds and reaches is as before
pub record HoldsStill (old new : List Image) (source : Image) : Type 0 where
  pub holds : (space page : ℕ) (bytes : List ℕ) → Holds old space page bytes source → Holds new space page bytes source
  pub reaches : (end : Image) → Reaches old end source → Reaches new end source
  pub stands : (j : Image) → Contains new j → j.header.stands_for ≡ source.header.stands_for → Contains old j

pub holds_same : (catalog : List Image) (source : Image) → HoldsStill catalog catalog source
holds_same catalog source = record { holds = λ space page bytes holds. holds; reaches = λ end way. way; stands = λ j member same. member }

-- The slots that the checkpoint spares are as they were, and it spares as many; nobody needs more in these; and what is new in the others
-- isn't the merged image.
pub record LeavesMerge (last : ℕ) (store : Store) (running : Option Running) (old : Slots) (last_now : ℕ) (store_now : Store) (running_now : Option Running) (new : Slots) : Type 0 where
  pub count : length new.phases ≡ length old.phases
  pub same : (slot : ℕ) → IsSpared running slot → IsSameSlot old new slot
  pub spares : (slot : ℕ) → IsSpared running slot → IsSpared running_now slot
  pub last_is : last ≤ last_now
  pub source : store_now.source ≡ store.source
  pub work : store_now.work ≡ store.work
  pub needs : (slot : ℕ) (i : Image) → IsSpared running slot → image_at old.beliefs slot ≡ Some i → IsNeededIn store_now i → IsNeededIn store i
  pub still : (source : Image) → store.source ≡ Some source → HoldsStill store.catalog store_now.catalog source
  pub makes : (serial : ℕ) → serial ≤ last → MakesOther running serial → MakesOther running_now serial
  pub images : (slot : ℕ) (j : Image) → image_at new.beliefs slot ≡ Some j
      → (image_at old.beliefs slot ≡ Some j) ⊎ ((serial : ℕ) → MakesOther running_now serial → j.header.serial ≢ serial)
  pub opening : (slot : ℕ) (j : Image) → slice_get new.beliefs slot ≡ Some (Opening j)
      → (slice_get old.beliefs slot ≡ Some (Opening j)) ⊎ ((source : Image) → store.source ≡ Some source → j.header.stands_for ≢ source.header.stands_for)

module _ (last : ℕ) (store : Store) (running : Option Running) (old : Slots) (last_now : ℕ) (store_now : Store) (running_now : Option Running) (new : Slots)
    (leaves : LeavesMerge last store running old last_now store_now running_now new) (asked asked_now : List (Option Asked)) (own_same : slice_get asked_now 1 ≡ slice_get asked 1) where
  -- an image in a spared slot
  image_same : (slot : ℕ) → IsSpared running slot → image_at new.beliefs slot ≡ image_at old.beliefs slot
  image_same slot spared = ap (λ o. option_and_then image_in o) (leaves.same slot spared).belief

  unneeded_then : (slot : ℕ) → IsSpared running slot → ((i : Image) → image_at old.beliefs slot ≡ Some i → IsNeededIn store i → ⊥)
      → (i : Image) → image_at new.beliefs slot ≡ Some i → IsNeededIn store_now i → ⊥
  unneeded_then slot spared unneeded i has needed = grind arith

  unmerged_then : IsUnmerged store → IsUnmerged store_now
  unmerged_then u = record { source = leaves.source ∙ u.source; work = leaves.work ∙ u.work }

  repeating_then : (target : ℕ) (origin : Source) → IsRepeating old.phases store old.beliefs running target origin → IsRepeating new.phases store_now new.beliefs running_now target origin
  repeating_then target origin r =
      let s = r.source in
      let t = r.slot in
      record {
        image = r.image;
        source = record {
          is = leaves.source ∙ s.is;
          work = leaves.work ∙ s.work;
          serial = s.serial;
          stands = s.stands;
          checkpoint = s.checkpoint;
          pages = s.pages;
          restorable = s.restorable;
          some = s.some;
          slot = s.slot;
          kept = (leaves.same s.slot s.spared).belief ∙ s.kept;
          spared = leaves.spares s.slot s.spared;
          apart = s.apart;
          held = λ page lists. (let it = s.held page lists in (it.0, (leaves.still r.image s.is).holds page.0 page.1 it.0 it.1));
        };
        slot = record {
          within = (let count = leaves.count in let within = t.within in omega (arith, count, within));
          spared = leaves.spares target t.spared;
          unneeded = unneeded_then target t.spared t.unneeded;
        };
        opening = λ slot j opens apart. elim (leaves.opening slot j opens) [
          | inl before ↦ r.opening slot j before apart
          | inr other ↦ other r.image s.is
        ];
      }

  asked_in_then : (target : ℕ) (source : Image) → HoldsStill store.catalog store_now.catalog source → (stage : CopyStage) (page : Option Place) (request : Option Asked)
      → IsAskedIn stage old.phases old.bodies store old.beliefs running target source page request
      → IsAskedIn stage new.phases new.bodies store_now new.beliefs running_now target source page request
  asked_in_then target source still stage page request a = grind arith

  copy_then : (target : ℕ) (source : Image) (made : Copying) → store.source ≡ Some source → IsSpared running target
      → IsCopyOn old.phases asked old.bodies last store old.beliefs running target source made
      → IsCopyOn new.phases asked_now new.bodies last_now store_now new.beliefs running_now target source made
  copy_then target source made is spared c =
      let still = leaves.still source is in
      let same = leaves.same target spared in
      record {
        pages = c.pages;
        keeps = copy_stays store.catalog store_now.catalog source c.pages made still.holds c.keeps;
        files = c.files;
        serial = (let low = c.serial in let more = leaves.last_is in omega (arith, low, more));
        other = leaves.makes made.order.serial c.serial c.other;
        above = λ j member stands. c.above j (still.stands j member stands) stands;
        others = λ slot j has apart. elim (leaves.images slot j has) [
          | inl before ↦ c.others slot j before apart
          | inr new_one ↦ new_one made.order.serial (leaves.makes made.order.serial c.serial c.other)
        ];
        phase = c.phase;
        phase_is = same.phase ∙ c.phase_is;
        belief = c.belief;
        belief_is = same.belief ∙ c.belief_is;
        request = c.request;
        own = own_same ∙ c.own;
        asked_in = asked_in_then target source still made.stage made.taking c.request c.asked_in;
        slot_is = subst (λ body. IsSlotFor (stage_in_slot made.stage) (order_of_slot target made.order.state) c.pages c.phase (body_written body (lanes_in_slot made.stage c.request)) (request_in_slot made.stage c.request) c.belief None)
            (sym same.body) c.slot_is;
      }

  listed_then : (one : Retired) → IsListedOn store old.beliefs running one → IsListedOn store_now new.beliefs running_now one
  listed_then one l = record {
    image = l.image;
    has = ap (λ o. option_and_then image_in o) (leaves.same one.slot l.spared).belief ∙ l.has;
    unneeded = λ needed. l.unneeded (leaves.needs one.slot l.image l.spared l.has needed);
    spared = leaves.spares one.slot l.spared;
  }

  cut_then : (one : Retired) → IsCutOn old.phases running one → IsCutOn new.phases running_now one
  cut_then one c = record { bare = (leaves.same one.slot c.spared).phase ∙ c.bare; spared = leaves.spares one.slot c.spared }

  retired_then : (r : Retiring) (one : Retired) → IsRetiredOn old.phases asked old.bodies store old.beliefs running r one
      → IsRetiredOn new.phases asked_now new.bodies store_now new.beliefs running_now r one
  retired_then r one c =
      let same = leaves.same one.slot c.spared in
      record {
        phase = c.phase;
        phase_is = same.phase ∙ c.phase_is;
        belief = c.belief;
        belief_is = same.belief ∙ c.belief_is;
        unneeded = unneeded_then one.slot c.spared c.unneeded;
        spared = leaves.spares one.slot c.spared;
        request = c.request;
        own = own_same ∙ c.own;
        asked_at = c.asked_at;
        slot_is = subst (λ body. IsSlotFor (Format r.plan) (order_of_slot one.slot OpenSlot) [] c.phase body c.request c.belief None) (sym same.body) c.slot_is;
      }

  merge_at_then : (target : ℕ) (origin : Source) (doing : Doing) → IsMergeAt old.phases asked old.bodies last store old.beliefs running target origin doing
      → IsMergeAt new.phases asked_now new.bodies last_now store_now new.beliefs running_now target origin doing
  unfolding repeating_then
  merge_at_then target origin due m = (repeating_then target origin m.0, own_same ∙ m.1)
  merge_at_then target origin (copying made) m = record {
    repeats = repeating_then target origin m.repeats;
    order = m.order;
    copy = copy_then target m.repeats.image made m.repeats.source.is m.repeats.slot.spared m.copy;
  }
  merge_at_then target origin (opened serial) m = absurd m
  merge_at_then target origin (retiring r) m = record {
    alone = unmerged_then m.alone;
    one = m.one;
    there = m.there;
    closes = retired_then r m.one m.closes;
    before = λ place other behind at. cut_then other (m.before place other behind at);
    later = λ place other after at. listed_then other (m.later place other after at);
    apart = m.apart;
  }

  merge_on_then : (merge : Option merger.Running) → IsMergeOn old.phases asked old.bodies last store old.beliefs running merge
      → IsMergeOn new.phases asked_now new.bodies last_now store_now new.beliefs running_now merge
  merge_on_then None m = (unmerged_then m.0, own_same ∙ m.1)
  merge_on_then (Some merge) m = merge_at_then merge.slot merge.source merge.doing m

  pub merge_then : (merge : Option merger.Running) → AreSpelled store_now → IsLiveMerge old.phases asked old.bodies last store old.beliefs running merge
      → IsLiveMerge new.phases asked_now new.bodies last_now store_now new.beliefs running_now merge
  merge_then merge spelled m = record { spelled = spelled; is = merge_on_then merge m.is }

-- ---- nothing changed but the checkpoint itself

-- the checkpoint spares the same slots, and makes another image than the merger
pub record SparesAsMuch (last last_now : ℕ) (running running_now : Option Running) : Type 0 where
  pub spares : (slot : ℕ) → IsSpared running slot → IsSpared running_now slot
  pub last_is : last ≤ last_now
  pub makes : (serial : ℕ) → serial ≤ last → MakesOther running serial → MakesOther running_now serial

pub leaves_same : (last last_now : ℕ) (store : Store) (running running_now : Option Running) (slots : Slots) → SparesAsMuch last last_now running running_now
    → LeavesMerge last store running slots last_now store running_now slots
leaves_same last last_now store running running_now slots s = grind arith

-- the image that the checkpoint makes is another one, in the same slots
pub spares_with : (last last_now : ℕ) (running : Running) (image : Making) → last ≤ last_now
    → ((serial : ℕ) → serial ≤ last → MakesOther (Some running) serial → image.order.serial ≢ serial)
    → SparesAsMuch last last_now (Some running) (Some (record running { image = Some image }))
spares_with last last_now running image less makes = grind arith

-- it has the order of the one that it was
pub spares_on : (last : ℕ) (running : Running) (image later : Making) → running.image ≡ Some image → later.order ≡ image.order
    → SparesAsMuch last last (Some running) (Some (record running { image = Some later }))
spares_on last running image later is order = spares_with last last running later (omega arith)
    (λ serial low other same. subst (λ i. IsOtherImage i serial) is other (ap (λ o. o.serial) (sym order) ∙ same))

-- ---- one slot of the checkpoint changed

pub record ChangesAt (last : ℕ) (store : Store) (running : Running) (old : Slots) (store_now : Store) (running_now : Option Running) (new : Slots) (slot : ℕ) : Type 0 where
  pub reserved : IsReserved running slot
  pub count : length new.phases ≡ length old.phases
  pub others : (k : ℕ) → k ≢ slot → IsSameSlot old new k
  pub spares : SparesAsMuch last last (Some running) running_now
  pub source : store_now.source ≡ store.source
  pub work : store_now.work ≡ store.work
  pub needs : (k : ℕ) (i : Image) → k ≢ slot → image_at old.beliefs k ≡ Some i → IsNeededIn store_now i → IsNeededIn store i
  pub still : (source : Image) → store.source ≡ Some source → HoldsStill store.catalog store_now.catalog source
  pub here : (j : Image) → image_at new.beliefs slot ≡ Some j
      → (image_at old.beliefs slot ≡ Some j) ⊎ ((serial : ℕ) → MakesOther running_now serial → j.header.serial ≢ serial)
  pub opens : (j : Image) → slice_get new.beliefs slot ≡ Some (Opening j)
      → (slice_get old.beliefs slot ≡ Some (Opening j)) ⊎ ((source : Image) → store.source ≡ Some source → j.header.stands_for ≢ source.header.stands_for)

pub leaves_at : (last : ℕ) (store : Store) (running : Running) (old : Slots) (store_now : Store) (running_now : Option Running) (new : Slots) (slot : ℕ)
    → ChangesAt last store running old store_now running_now new slot → LeavesMerge last store (Some running) old last store_now running_now new
leaves_at last store running old store_now running_now new slot c = record {
  count = c.count;
  same = λ k spared. c.others k (other_than k spared);
  spares = c.spares.spares;
  last_is = omega arith;
  source = c.source;
  work = c.work;
  needs = λ k i spared. c.needs k i (other_than k spared);
  still = c.still;
  makes = c.spares.makes;
  images = λ k j has. elim (cases_eq k slot) [
    | inl its ↦ at_it k j its has
    | inr differs ↦ inl (sym (ap (λ o. option_and_then image_in o) (c.others k differs).belief) ∙ has)
  ];
  opening = λ k j opens. elim (cases_eq k slot) [
    | inl its ↦ opens_it k j its opens
    | inr differs ↦ inl (sym (c.others k differs).belief ∙ opens)
  ];
}
  where
    other_than : (k : ℕ) → IsSpared (Some running) k → k ≢ slot
    other_than k spared same = spared (subst (IsReserved running) (sym same) c.reserved)

    at_it : (k : ℕ) (j : Image) → k ≡ slot → image_at new.beliefs k ≡ Some j
        → (image_at old.beliefs k ≡ Some j) ⊎ ((serial : ℕ) → MakesOther running_now serial → j.header.serial ≢ serial)
    at_it k j its has = subst (λ s. (image_at old.beliefs s ≡ Some j) ⊎ ((serial : ℕ) → MakesOther running_now serial → j.header.serial ≢ serial)) (sym its)
        (c.here j (ap (image_at new.beliefs) (sym its) ∙ has))

    opens_it : (k : ℕ) (j : Image) → k ≡ slot → slice_get new.beliefs k ≡ Some (Opening j)
        → (slice_get old.beliefs k ≡ Some (Opening j)) ⊎ ((source : Image) → store.source ≡ Some source → j.header.stands_for ≢ source.header.stands_for)
    opens_it k j its opens = subst (λ s. (slice_get old.beliefs s ≡ Some (Opening j)) ⊎ ((source : Image) → store.source ≡ Some source → j.header.stands_for ≢ source.header.stands_for)) (sym its)
        (c.opens j (ap (slice_get new.beliefs) (sym its) ∙ opens))

-- ---- in a core

-- what is known of the merge beside the checkpoint that runs
pub merging_of : (old : CoreView) (asked : List (Option Asked)) (bodies files : List (List ℕ)) (running : Option Running) → old.standing ≡ Open → old.dumper.running ≡ running
    → (b : Believes old asked bodies files) → IsLiveMerge old.phases asked bodies old.numbers.serial b.store b.beliefs running old.merger
merging_of old asked bodies files running stands was b =
    subst (λ r. IsLiveMerge old.phases asked bodies old.numbers.serial b.store b.beliefs r old.merger) was (b.knows.merging stands)

-- it stays where the checkpoint makes another image, and nothing else changed
pub merge_beside : (old : CoreView) (asked now : List (Option Asked)) (bodies files : List (List ℕ)) (running : Running) (later : Making) (last : ℕ)
    → old.standing ≡ Open → old.dumper.running ≡ Some running → slice_get now 1 ≡ slice_get asked 1
    → SparesAsMuch old.numbers.serial last (Some running) (Some (record running { image = Some later })) → (b : Believes old asked bodies files)
    → IsLiveMerge old.phases now bodies last b.store b.beliefs (Some (record running { image = Some later })) old.merger
merge_beside old asked now bodies files running later last stands was own spares b =
    merge_then old.numbers.serial b.store (Some running) (slots_at old.phases bodies b.beliefs) last b.store (Some (record running { image = Some later })) (slots_at old.phases bodies b.beliefs)
    (leaves_same old.numbers.serial last b.store (Some running) (Some (record running { image = Some later })) (slots_at old.phases bodies b.beliefs) spares)
    asked now own old.merger (b.knows.merging stands).spelled (merging_of old asked bodies files (Some running) stands was b)

-- the requests of other workers
pub own_beside : (asked : List (Option Asked)) (request : Option Asked) → slice_get (slice_set asked 0 request) 1 ≡ slice_get asked 1
own_beside asked request = set_other asked 0 1 request (λ same. (let no : 1 ≡ 0 = same in omega (arith, no)))

-- ---- the source of a merge

-- it is in the catalog
pub source_there : (phases : List Phase) (asked : List (Option Asked)) (bodies : List (List ℕ)) (last : ℕ) (store : Store) (dump : Option Image) (beliefs : List Belief) (running : Option Running)
    (merge : Option merger.Running) → AreSlotsOf store dump beliefs → IsMergeOn phases asked bodies last store beliefs running merge
    → (source : Image) → store.source ≡ Some source → Contains store.catalog source × IsRestorable source
source_there phases asked bodies last store dump beliefs running merge slots m source is = by_merge merge m
  where
    repeated : (target : ℕ) (origin : Source) → IsRepeating phases store beliefs running target origin → Contains store.catalog source × IsRestorable source
    repeated target origin r =
        let same : r.image ≡ source = same_Some r.image source (sym r.source.is ∙ is) in
        subst (λ i. Contains store.catalog i × IsRestorable i) same
        ((slots.catalog r.image).1 (inl (contains_at beliefs r.source.slot (Kept r.image) r.source.kept)), r.source.restorable)

    none : IsUnmerged store → ⊥
    none u = let no : None ≡ Some source = sym u.source ∙ is in cc

    by_doing : (target : ℕ) (origin : Source) (doing : Doing) → IsMergeAt phases asked bodies last store beliefs running target origin doing → Contains store.catalog source × IsRestorable source
    by_doing target origin due a = repeated target origin a.0
    by_doing target origin (copying made) a = repeated target origin a.repeats
    by_doing target origin (opened serial) a = absurd a
    by_doing target origin (retiring r) a = absurd (none a.alone)

    by_merge : (merge : Option merger.Running) → IsMergeOn phases asked bodies last store beliefs running merge → Contains store.catalog source × IsRestorable source
    by_merge None a = absurd (none a.0)
    by_merge (Some repeats) a = by_doing repeats.slot repeats.source repeats.doing a

-- ---- images that enter and leave the catalog

-- what is needed stands in the catalog
pub needed_there : (catalog : List Image) (asked : List ℕ) (i : Image) → IsNeeded catalog asked i → Contains catalog i
needed_there catalog asked i given = grind arith

-- what a list of called numbers names, and so what is reached through them, stays
module _ (old new : List Image) (jobs : List ℕ) (named : (number : ℕ) (i : Image) → IsCalled old jobs number → IsNamed old number i → IsNamed new number i) where
  pub reaches_still : (end start : Image) → IsCalled old jobs start.header.parent → Reaches old end start → Reaches new end start
  reaches_still end start called way = follow start called way
    where
      follow : (i : Image) → IsCalled old jobs i.header.parent → Reaches old end i → Reaches new end i
      follow _ called itself = itself
      follow _ called (beyond i parent names rest) =
          beyond i parent (named i.header.parent parent called names) (follow parent (by_parent parent.header.parent i.header.parent parent called names refl) rest)

-- where images are closed that nobody needs
pub retires_still : CutHoldsTheSame → (s : Store) (new : List Image) → IsSoundStore s → Retires s new → (source : Image) → s.source ≡ Some source → HoldsStill s.catalog new source
retires_still cut s new sound retires source is =
    let asks : IsMergeSource s source = subst (λ x. IfSome x (IsMergeSource s)) is sound.merged in
    let called : IsCalled s.catalog (jobs s) source.header.parent = by_job source.header.parent (Contains-append_right s.chain s.work source.header.parent asks.asked) in
    record {
      holds = λ space page bytes.
          (cut s.catalog [] new (jobs s) source sound.serials (record { needed = retires.needed; within = λ i member. inl (retires.within i member) })
          (λ added member. absurd (let within = member.1 in omega (arith, within))) called space page bytes).0;
      reaches = λ end way. reaches_still s.catalog new (jobs s) (λ number i called_for names. record {
        member = retires.needed i (inr (number, called_for, names));
        stands = names.stands;
        greatest = λ j member stands. names.greatest j (retires.within j member) stands;
      }) end source called way;
      stands = λ j member same. retires.within j member;
    }

-- where an image enters that is new
pub adds_still : CutHoldsTheSame → UnusedIsUncalled → (s : Store) (one : Image) (new : List Image) → IsSoundStore s → IsFresh s one → Adds s.catalog one new
    → (source : Image) → s.source ≡ Some source → HoldsStill s.catalog new source
adds_still cut unused s one new sound fresh adds source is =
    let asks : IsMergeSource s source = subst (λ x. IfSome x (IsMergeSource s)) is sound.merged in
    let called : IsCalled s.catalog (jobs s) source.header.parent = by_job source.header.parent (Contains-append_right s.chain s.work source.header.parent asks.asked) in
    let uncalled : IsCalled s.catalog (jobs s) one.header.stands_for → ⊥ = unused s.catalog (jobs s) one.header.stands_for fresh.number in
    record {
      holds = λ space page bytes.
          (cut s.catalog (one ∷ []) new (jobs s) source sound.serials (record { needed = λ i needed. (adds i).1 (inr (needed_there s.catalog (jobs s) i needed)); within = λ i member. within i member })
          (λ added member calls. absurd (uncalled (subst (λ i. IsCalled s.catalog (jobs s) i.header.stands_for) (only added member) calls))) called space page bytes).0;
      reaches = λ end way. reaches_still s.catalog new (jobs s) (λ number i called_for names. record {
        member = (adds i).1 (inr names.member);
        stands = names.stands;
        greatest = λ j member stands. elim ((adds j).0 member) [
          | inl same ↦ absurd (uncalled (subst (IsCalled s.catalog (jobs s)) (sym stands ∙ ap (λ (x : Image). x.header.stands_for) same) called_for))
          | inr before ↦ names.greatest j before stands
        ];
      }) end source called way;
      stands = λ j member same. elim ((adds j).0 member) [
        | inl its ↦ absurd (subst (λ x. IfSome x (λ y. y.header.stands_for ≢ one.header.stands_for)) is fresh.apart (sym same ∙ ap (λ (x : Image). x.header.stands_for) its))
        | inr before ↦ before
      ];
    }
  where
    only : (added : Image) → Contains (one ∷ []) added → added ≡ one
    only added (zero, within, same) = sym same
    only added (suc k, within, same) = absurd (omega (arith, within))

    within : (i : Image) → Contains new i → Contains s.catalog i ⊎ Contains (one ∷ []) i
    within i member = elim ((adds i).0 member) [
      | inl same ↦ inr (0, omega arith, sym same)
      | inr before ↦ inl before
    ]

-- ---- a new number

pub fresh_of : (s : Store) (i : Image) (number : ℕ) → i.header.serial ≡ number → i.header.stands_for ≡ number → i.header.parent < i.header.stands_for → IsNewNumber s number → IsFresh s i
fresh_of s i number serial stands falls new = record {
  itself = stands ∙ sym serial;
  serial = λ j member same. new.serial j member (same ∙ serial);
  number = subst (IsUnused s.catalog (jobs s)) (sym stands) new.unused;
  apart = subst (λ n. IfSome s.source (λ source. source.header.stands_for ≢ n)) (sym stands) new.apart;
  falls = falls;
}

-- of a source that there may be
pub below_checkpoint : (source : Option Image) (number : ℕ) → ((i : Image) → source ≡ Some i → i.header.checkpoint < number) → IfSome source (λ i. i.header.checkpoint < number)
below_checkpoint source number below = grind arith

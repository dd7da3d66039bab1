-- How the outcomes of a merger's calls keep what a core believes.
use Rattle.std.specs.Prelude.{◌≡◌, ◌≢◌, ℕ, ◌+◌, ◌<◌, true, List, Option, Some, None, slice_get, slice_set}
use Rattle.sd_chain.specs.Catalog.{Changes, Opened, Places, place_of}
use Rattle.sd_chain.specs.Reaches.{ParentsFall}
use Rattle.sd_gate.specs.declared.phase.Phase.{Phase}
use Rattle.sd_gate.specs.declared.phase.Phase.TheVariants.{Bare}
use Rattle.sd_gate.specs.Calls.{is_done}
use Rattle.sd_gate.specs.Phases.{bodies_after, phases_after}
use Rattle.sd_gate.specs.Requests.{Asked, Made}
use Rattle.sd_writing.specs.declared.written.Written.TheVariants as copies
use Rattle.sd_merge.specs.declared.merge_progress.MergeProgress.{MergeProgress}
use Rattle.sd_merge.specs.declared.merge_progress.MergeProgress.TheVariants as progress
use Rattle.sd_merge.specs.declared.retired.Retired.{Retired}
use Rattle.sd_merge.specs.Copying.{Copying, HandsIn, IsSoundCopying, Opens}
use Rattle.sd_merge.specs.Merger.{HandsClosing, IsRetiring, Retiring, TakesList, copying, opened, retiring}
use Rattle.sd_merge.specs.Merger as merger
use Rattle.sd_writing.specs.declared.new_image.NewImage.{NewImage}
use Rattle.sd_crash_safety.specs.declared.standing.Standing.TheVariants as standing
use Rattle.sd_crash_safety.specs.Believes.{Believes}
use Rattle.sd_crash_safety.specs.Calls.{IsFree, WasLookedAt}
use Rattle.sd_crash_safety.specs.CheckpointSteps.{IsUnreached}
use Rattle.sd_crash_safety.specs.Copies.{IsCopyAtRest, IsCopyThere, IsOrderly}
use Rattle.sd_crash_safety.specs.DumperOutcomes.{LeavesCatalog, closes_for_sure}
use Rattle.sd_crash_safety.specs.MergerSteps.{IsUncalled, OnlyMerges}
use Rattle.sd_crash_safety.specs.Merges.{IsSpared}
use Rattle.sd_crash_safety.specs.View.{CoreView, history_of}

-- an outcome of the merger's call is handed in
pub record IsMergersOutcome (old : CoreView) (made : Made) (phase : Phase) (new : CoreView) : Type 0 where
  pub out : slice_get old.outs 1 ≡ Some (Some made.request.id)
  pub outs : new.outs ≡ slice_set old.outs 1 None
  pub apart : IsFree (slice_set old.outs 1 None) made.request.id.slot
  pub phase_is : slice_get old.phases made.request.id.slot ≡ Some phase
  pub phases : new.phases ≡ phases_after old.phases made.request.id phase (is_done made.answer)

-- its call failed: the store is down
pub record MergeGoesDown (old : CoreView) (made : Made) (phase : Phase) (new : CoreView) : Type 0 where
  pub outcome : IsMergersOutcome old made phase new
  pub base : new.base ≡ old.base
  pub history : history_of new ≡ history_of old
  pub closed : new.opener ≡ None
  pub down : new.standing ≡ standing.Down
  pub committing : new.committing ≡ old.committing

-- the merged image goes on
pub record MergedGoesOn (old : CoreView) (merge : merger.Running) (copy : Copying) (made : Made) (phase : Phase)
    (next : Copying) (new : CoreView) : Type 0 where
  pub outcome : IsMergersOutcome old made phase new
  pub rest : OnlyMerges old new
  pub serial : new.numbers.serial ≡ old.numbers.serial
  pub catalog : LeavesCatalog (closes_for_sure phase made.request.id.call) made.request.id.slot old.catalog new.catalog
  pub was : old.merger ≡ Some merge
  pub doing : merge.doing ≡ copying copy
  pub sound : IsSoundCopying copy
  pub hands : HandsIn copy made copies.More next
  pub is : new.merger ≡ Some (record merge { doing = copying next })

-- An image of the list: it is in the catalog, no request is out on its slot, nobody needs it, and the checkpoint spares
-- the slot.
pub record MayRetire (places : Places) (old : CoreView) (one : Retired) : Type 0 where
  pub opened : Opened
  pub there : place_of places one.serial ≡ Some (Some opened)
  pub slot : opened.slot ≡ one.slot
  pub free : IsFree (slice_set old.outs 1 None) one.slot
  pub spared : IsSpared old.dumper.running one.slot
  pub unreached : ParentsFall places → IsUnreached places one.slot
  pub uncalled : ParentsFall places → IsUncalled places old.dumper.running one.slot

-- each image of the list is one, and they stand in different slots
pub record MayAllRetire (places : Places) (old : CoreView) (list : List Retired) : Type 0 where
  pub each : (place : ℕ) (one : Retired) → slice_get list place ≡ Some one → MayRetire places old one
  pub apart : (place other : ℕ) (a b : Retired) → place < other → slice_get list place ≡ Some a
      → slice_get list other ≡ Some b → a.slot ≢ b.slot

-- The merged image is open: it enters the catalog, where the place of its serial was held, and the images that nobody
-- needs any more are listed.
pub record MergedOpens (places : Places) (old : CoreView) (merge : merger.Running) (copy : Copying) (made : Made)
    (phase : Phase) (image : NewImage) (list : List Retired)
    (done : MergeProgress) (new : CoreView) : Type 0 where
  pub outcome : IsMergersOutcome old made phase new
  pub rest : OnlyMerges old new
  pub serial : new.numbers.serial ≡ old.numbers.serial
  pub held : place_of old.catalog copy.order.serial ≡ Some None
  pub catalog : Changes old.catalog places copy.order.serial
      (Some (Some (record { slot = image.slot; header = image.header; spaces = image.table })))
  pub its_catalog : new.catalog ≡ places
  pub was : old.merger ≡ Some merge
  pub doing : merge.doing ≡ copying copy
  pub sound : IsSoundCopying copy
  pub opens : Opens copy made image
  pub listed : MayAllRetire places old list
  pub retires : TakesList (Some (record merge { doing = opened copy.order.serial })) list done new.merger

-- An outcome of a call on an image of the list. No request is out on the slot of the next one.
pub record RetiringGoesOn (old : CoreView) (merge : merger.Running) (r : Retiring) (made : Made) (phase : Phase)
    (done : MergeProgress) (next : Retiring) (new : CoreView) : Type 0 where
  pub outcome : IsMergersOutcome old made phase new
  pub rest : OnlyMerges old new
  pub serial : new.numbers.serial ≡ old.numbers.serial
  pub catalog : LeavesCatalog (closes_for_sure phase made.request.id.call) made.request.id.slot old.catalog new.catalog
  pub was : old.merger ≡ Some merge
  pub doing : merge.doing ≡ retiring r
  pub sound : IsRetiring r
  pub free : (one : Retired) → slice_get r.list (r.ended + 1) ≡ Some one → IsFree (slice_set old.outs 1 None) one.slot
  pub ok : is_done made.answer ≡ true
  pub hands : HandsClosing r made done next

abbrev pub goes_on_with : merger.Running → MergeProgress → Retiring → Option merger.Running
goes_on_with merge progress.Strange next = None
goes_on_with merge progress.Failed next = None
goes_on_with merge progress.More next = Some (record merge { doing = retiring next })
goes_on_with merge (progress.Opened image) next = None
goes_on_with merge (progress.Closed one) next = Some (record merge { doing = retiring next })
goes_on_with merge (progress.Merged serial) next = None

-- what an outcome of the merger leaves is believed
abbrev pub OutcomeIsBelieved : CoreView → CoreView → Made → Type 0
OutcomeIsBelieved old new made = (asked : List (Option Asked)) (bodies files : List (List ℕ))
    → slice_get asked 1 ≡ Some (Some made.request) → WasLookedAt old.phases bodies files made
    → Believes old asked bodies files
    → Believes new (slice_set asked 1 None) (bodies_after bodies made.request.id made.request.bytes) files

pub record MergerOutcomes (places : Places) : Type 0 where
  pub fails : (old new : CoreView) (made : Made) (phase : Phase) → MergeGoesDown old made phase new
      → OutcomeIsBelieved old new made
  pub goes_on : (old new : CoreView) (merge : merger.Running) (copy next : Copying) (made : Made) (phase : Phase)
      → MergedGoesOn old merge copy made phase next new → OutcomeIsBelieved old new made
  pub opens : (old new : CoreView) (merge : merger.Running) (copy : Copying) (made : Made) (phase : Phase)
      (image : NewImage) (list : List Retired) (done : MergeProgress)
      → MergedOpens places old merge copy made phase image list done new → OutcomeIsBelieved old new made
  -- the image that entered is a copy of its source, where no request but the merger's is out on slots that the
  -- checkpoint spares
  pub copies : (old new : CoreView) (merge : merger.Running) (copy : Copying) (made : Made) (phase : Phase)
      (image : NewImage) (list : List Retired) (done : MergeProgress)
      (asked : List (Option Asked)) (bodies files : List (List ℕ))
      → MergedOpens places old merge copy made phase image list done new
      → ((slot : ℕ) → IsSpared old.dumper.running slot → IsFree (slice_set old.outs 1 None) slot)
      → slice_get asked 1 ≡ Some (Some made.request) → Believes old asked bodies files
      → IsCopyThere merge.source.serial image.header.serial old.catalog new
      (bodies_after bodies made.request.id made.request.bytes)
  -- and none is out on the slots of what its source reaches
  pub rests : (old new : CoreView) (merge : merger.Running) (copy : Copying) (made : Made) (phase : Phase)
      (image : NewImage) (list : List Retired) (done : MergeProgress)
      (asked : List (Option Asked)) (bodies files : List (List ℕ))
      → MergedOpens places old merge copy made phase image list done new
      → ((slot : ℕ) → IsSpared old.dumper.running slot → IsFree (slice_set old.outs 1 None) slot)
      → slice_get asked 1 ≡ Some (Some made.request) → Believes old asked bodies files
      → IsCopyAtRest merge.source.serial image.header.serial old.catalog new
      (bodies_after bodies made.request.id made.request.bytes)
  pub orderly : (old new : CoreView) (merge : merger.Running) (copy : Copying) (made : Made) (phase : Phase)
      (image : NewImage) (list : List Retired) (done : MergeProgress)
      (asked : List (Option Asked)) (bodies files : List (List ℕ))
      → MergedOpens places old merge copy made phase image list done new
      → slice_get asked 1 ≡ Some (Some made.request) → Believes old asked bodies files → IsOrderly places
  pub retires : (old new : CoreView) (merge : merger.Running) (r next : Retiring) (made : Made) (phase : Phase)
      (done : MergeProgress)
      → RetiringGoesOn old merge r made phase done next new → new.merger ≡ goes_on_with merge done next
      → OutcomeIsBelieved old new made
  -- after the last of these calls each image of the list is closed, and its file one byte long
  pub cuts : (old new : CoreView) (merge : merger.Running) (r next : Retiring) (made : Made) (phase : Phase)
      (serial place : ℕ) (one : Retired)
      (asked : List (Option Asked)) (bodies files : List (List ℕ))
      → RetiringGoesOn old merge r made phase (progress.Merged serial) next new
      → slice_get asked 1 ≡ Some (Some made.request) → Believes old asked bodies files
      → slice_get r.list place ≡ Some one → slice_get new.phases one.slot ≡ Some Bare

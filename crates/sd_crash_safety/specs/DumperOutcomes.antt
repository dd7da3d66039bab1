-- How the outcomes of a dumper's calls keep what a core believes.
use Rattle.std.specs.Prelude.{◌≡◌, ℕ, ◌&&◌, Bool, true, false, List, ◌∷◌, Option, Some, None, slice_get, slice_set}
use Rattle.sd_chain.specs.Catalog.{Changes, Places, place_of, without_slot}
use Rattle.sd_gate.specs.declared.call.Call.{Call}
use Rattle.sd_gate.specs.declared.call.Call.TheVariants.{Len, Read, Write, WriteHeader, Close, Open, Cut, Sync}
use Rattle.sd_gate.specs.declared.phase.Phase.{Phase}
use Rattle.sd_gate.specs.declared.phase.Phase.TheVariants.{Raw, RawClosing, Whole, Closing, Shut, ShutSynced, Bare}
use Rattle.sd_gate.specs.declared.phase.Phase.TheVariants.{Writing, Ready, Opening, Doubt, DoubtSynced}
use Rattle.sd_gate.specs.Calls.{is_done}
use Rattle.sd_gate.specs.Phases.{bodies_after, phases_after}
use Rattle.sd_gate.specs.Requests.{Asked, Made}
use Rattle.sd_journal.specs.declared.entry.Entry.TheVariants.{Acked}
use Rattle.sd_journal.specs.Legal.{IsLegal}
use Rattle.sd_journal.specs.Marked.{Told}
use Rattle.sd_writing.specs.declared.new_image.NewImage.{NewImage}
use Rattle.sd_rounds.specs.Dumper.{Running, after_pre_dump, is_last, order_of}
use Rattle.sd_rounds.specs.Making.{IsWritten, Making, Opens, PlanGoesOn}
use Rattle.sd_rounds.specs.Sound.{IsSoundImage}
use Rattle.sd_crash_safety.specs.declared.standing.Standing.TheVariants as standing
use Rattle.sd_crash_safety.specs.Believes.{Believes}
use Rattle.sd_crash_safety.specs.Calls.{IsApart, IsFree}
use Rattle.sd_crash_safety.specs.DumperSteps.{OnlyDumps}
use Rattle.sd_crash_safety.specs.View.{CoreView, history_of, page_lane}

-- a sync after a close: from then on the slot is closed for sure
abbrev pub is_being_closed : Phase → Bool
is_being_closed Raw = false
is_being_closed RawClosing = false
is_being_closed Whole = false
is_being_closed Closing = true
is_being_closed Shut = false
is_being_closed ShutSynced = false
is_being_closed Bare = false
is_being_closed Writing = false
is_being_closed Ready = false
is_being_closed Opening = false
is_being_closed Doubt = false
is_being_closed DoubtSynced = false

abbrev pub is_sync : Call → Bool
is_sync Len = false
is_sync (Read at) = false
is_sync (Write at) = false
is_sync WriteHeader = false
is_sync Close = false
is_sync Open = false
is_sync Cut = false
is_sync Sync = true

-- the call is the sync after which a body that is being closed is closed
abbrev pub closes_for_sure : Phase → Call → Bool
closes_for_sure phase call = is_being_closed phase && is_sync call

-- the image of a slot that was closed for sure leaves the catalog
abbrev pub LeavesCatalog : Bool → ℕ → Places → Places → Type 0
LeavesCatalog true slot old new = (serial : ℕ) → place_of new serial ≡ without_slot slot (place_of old serial)
LeavesCatalog false slot old new = new ≡ old

-- the outcome of the dumper's request in a lane is handed in; what is out on its slot then writes other data pages
pub record IsDumpersOutcome (old : CoreView) (lane : ℕ) (made : Made) (phase : Phase) (new : CoreView) : Type 0 where
  pub base : new.base ≡ old.base
  pub closed : new.opener ≡ None
  pub memory : new.memory ≡ old.memory
  pub out : slice_get old.outs lane ≡ Some (Some made.request.id)
  pub outs : new.outs ≡ slice_set old.outs lane None
  pub apart : IsApart (slice_set old.outs lane None) made.request.id
  pub phase_is : slice_get old.phases made.request.id.slot ≡ Some phase
  pub phases : new.phases ≡ phases_after old.phases made.request.id phase (is_done made.answer)

-- its call failed: the store is down
pub record GoesDown (old : CoreView) (lane : ℕ) (made : Made) (phase : Phase) (new : CoreView) : Type 0 where
  pub outcome : IsDumpersOutcome old lane made phase new
  pub history : history_of new ≡ history_of old
  pub down : new.standing ≡ standing.Down
  pub committing : new.committing ≡ old.committing

-- the image goes on with its plan: nothing is out on its slot
pub record ImageGoesOn (old : CoreView) (running : Running) (image : Making) (made : Made) (phase : Phase)
    (next : Making) (new : CoreView) : Type 0 where
  pub outcome : IsDumpersOutcome old 0 made phase new
  pub alone : IsFree (slice_set old.outs 0 None) made.request.id.slot
  pub rest : OnlyDumps old new
  pub history : history_of new ≡ history_of old
  pub serial : new.numbers.serial ≡ old.numbers.serial
  pub catalog : LeavesCatalog (closes_for_sure phase made.request.id.call) made.request.id.slot old.catalog new.catalog
  pub was : old.dumper.running ≡ Some running
  pub making : running.image ≡ Some image
  pub own : image.order ≡ order_of running image.order.serial image.order.state
  pub sound : IsSoundImage image
  pub hands : PlanGoesOn image made next
  pub committing : new.committing ≡ old.committing
  pub is : new.dumper.running ≡ Some (record running { image = Some next })

-- a data page of the image is written
pub record PageIsWritten (old : CoreView) (running : Running) (image : Making) (made : Made) (phase : Phase)
    (next : Making) (new : CoreView) : Type 0 where
  pub hands : IsWritten image made next
  pub outcome : IsDumpersOutcome old (page_lane hands.lane) made phase new
  pub rest : OnlyDumps old new
  pub history : history_of new ≡ history_of old
  pub serial : new.numbers.serial ≡ old.numbers.serial
  pub catalog : new.catalog ≡ old.catalog
  pub was : old.dumper.running ≡ Some running
  pub making : running.image ≡ Some image
  pub own : image.order ≡ order_of running image.order.serial image.order.state
  pub sound : IsSoundImage image
  pub committing : new.committing ≡ old.committing
  pub is : new.dumper.running ≡ Some (record running { image = Some next })

-- The image is open: it enters the catalog, where the place of its serial was held.
pub record ImageOpens (old : CoreView) (running : Running) (image : Making) (made : Made) (phase : Phase)
    (opened : NewImage) (new : CoreView) : Type 0 where
  pub outcome : IsDumpersOutcome old 0 made phase new
  pub alone : IsFree (slice_set old.outs 0 None) made.request.id.slot
  pub stands : old.standing ≡ standing.Open
  pub merger : new.merger ≡ old.merger
  pub serial : new.numbers.serial ≡ old.numbers.serial
  pub held : place_of old.catalog image.order.serial ≡ Some None
  pub catalog : Changes old.catalog new.catalog image.order.serial
      (Some (Some (record { slot = opened.slot; header = opened.header; spaces = opened.table })))
  pub was : old.dumper.running ≡ Some running
  pub making : running.image ≡ Some image
  pub own : image.order ≡ order_of running image.order.serial image.order.state
  pub sound : IsSoundImage image
  pub opens : Opens image made opened

-- A pre-dump is: the next image names it.
pub record PreDumpOpens (old : CoreView) (running : Running) (image : Making) (made : Made) (phase : Phase)
    (opened : NewImage) (new : CoreView) : Type 0 where
  pub opens_it : ImageOpens old running image made phase opened new
  pub history : history_of new ≡ history_of old
  pub grows : new.grows ≡ old.grows
  pub more : is_last running ≡ false
  pub is : new.dumper.running ≡ Some (after_pre_dump running opened)

-- The dump is: the checkpoint is acknowledged, and none runs.
pub record DumpOpens (old : CoreView) (running : Running) (image : Making) (made : Made) (phase : Phase)
    (opened : NewImage) (new : CoreView) : Type 0 where
  pub opens_it : ImageOpens old running image made phase opened new
  pub items : new.items ≡ Told (Acked running.number) ∷ old.items
  pub legal : IsLegal old.base (history_of old)
  pub grows : new.grows ≡ true
  pub last : is_last running ≡ true
  pub is : new.dumper.running ≡ None

-- each outcome of a dumper's call keeps what is believed of the slots
pub record DumperOutcomes : Type 0 where
  pub fails : (old new : CoreView) (lane : ℕ) (made : Made) (phase : Phase) (asked : List (Option Asked))
      (bodies files : List (List ℕ))
      → GoesDown old lane made phase new → slice_get asked lane ≡ Some (Some made.request)
      → Believes old asked bodies files
      → Believes new (slice_set asked lane None) (bodies_after bodies made.request.id made.request.bytes) files
  pub goes_on : (old new : CoreView) (running : Running) (image next : Making) (made : Made) (phase : Phase)
      (asked : List (Option Asked)) (bodies files : List (List ℕ))
      → ImageGoesOn old running image made phase next new → slice_get asked 0 ≡ Some (Some made.request)
      → Believes old asked bodies files
      → Believes new (slice_set asked 0 None) (bodies_after bodies made.request.id made.request.bytes) files
  pub written : (old new : CoreView) (running : Running) (image next : Making) (made : Made) (phase : Phase)
      (asked : List (Option Asked)) (bodies files : List (List ℕ))
      → (written : PageIsWritten old running image made phase next new)
      → slice_get asked (page_lane written.hands.lane) ≡ Some (Some made.request) → Believes old asked bodies files
      → Believes new (slice_set asked (page_lane written.hands.lane) None)
      (bodies_after bodies made.request.id made.request.bytes) files
  pub opens_pre_dump : (old new : CoreView) (running : Running) (image : Making) (made : Made) (phase : Phase)
      (opened : NewImage) (asked : List (Option Asked)) (bodies files : List (List ℕ))
      → PreDumpOpens old running image made phase opened new → slice_get asked 0 ≡ Some (Some made.request)
      → Believes old asked bodies files
      → Believes new (slice_set asked 0 None) (bodies_after bodies made.request.id made.request.bytes) files
  pub opens_dump : (old new : CoreView) (running : Running) (image : Making) (made : Made) (phase : Phase)
      (opened : NewImage) (asked : List (Option Asked)) (bodies files : List (List ℕ))
      → DumpOpens old running image made phase opened new → slice_get asked 0 ≡ Some (Some made.request)
      → Believes old asked bodies files
      → Believes new (slice_set asked 0 None) (bodies_after bodies made.request.id made.request.bytes) files
  -- after an image that enters the catalog the gate of its slot is open
  pub enters_open : (old new : CoreView) (running : Running) (image : Making) (made : Made) (phase : Phase)
      (opened : NewImage) (asked : List (Option Asked)) (bodies files : List (List ℕ))
      → ImageOpens old running image made phase opened new → slice_get asked 0 ≡ Some (Some made.request)
      → Believes old asked bodies files
      → slice_get new.phases image.order.slot ≡ Some Whole

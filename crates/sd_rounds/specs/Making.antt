-- An image in the making, as it is seen, and what its steps do.
use Rattle.std.specs.Prelude.{◌≡◌, ◌≢◌, ◌⊎◌, ℕ, ◌≤◌, ◌^◌, Bool, true, false, ◌==◌, ◌&&◌, ◌+◌, List, [], ◌∷◌, ◌++◌}
use Rattle.std.specs.Prelude.{Option, Some, None, is_some, slice_get, slice_set}
use Rattle.sd_image.specs.declared.header.Header.{Header}
use Rattle.sd_image.specs.declared.header.Kind.{Kind}
use Rattle.sd_image.specs.declared.header.Kind.TheVariants.{PreDump, Dump, Merged}
use Rattle.sd_image.specs.declared.digester.Digester.{Digester}
use Rattle.sd_image.specs.Digests.{HasFed, fresh}
use Rattle.sd_image.specs.Table.{Listed, table_text}
use Rattle.sd_image.specs.Words.{kind_number}
use Rattle.sd_gate.specs.declared.call.Call.TheVariants.{Write}
use Rattle.sd_gate.specs.declared.request_id.RequestId.{RequestId}
use Rattle.sd_gate.specs.declared.worker.Worker.TheVariants.{Dumper}
use Rattle.sd_gate.specs.Calls.{is_done}
use Rattle.sd_gate.specs.Inspections.{nothing}
use Rattle.sd_gate.specs.Plans.{Gives, Planned, begun, plan_after}
use Rattle.sd_gate.specs.PlanUse.{IsAskedBy, IsUnderWay, outcomes_of}
use Rattle.sd_gate.specs.Requests.{Asked, Made}
use Rattle.sd_gate.specs.Sequences.{Calls, body_calls, data_place, format_calls}
use Rattle.sd_pagetable.specs.Contents.{Contents, page_at, plain_of}
use Rattle.sd_pagetable.specs.Order.{IsNextPage}
use Rattle.sd_writing.specs.declared.ending.ImageNumbers.{ImageNumbers}
use Rattle.sd_writing.specs.Endings.{IsHeaderOf}
use Rattle.sd_rounds.specs.declared.copied.Copied as copied
use Rattle.sd_rounds.specs.declared.visit.Visit as visit
use Rattle.sd_rounds.specs.declared.image_order.ImageOrder.{ImageOrder}
use Rattle.sd_writing.specs.declared.written.Written.{Written}
use Rattle.sd_writing.specs.declared.written.Written.TheVariants.{Strange, Failed, More, Opened}
use Rattle.sd_rounds.specs.declared.image_step.ImageStep.{ImageStep}
use Rattle.sd_rounds.specs.declared.image_step.ImageStep.TheVariants.{Call, PageCall, TableCall, Frozen, Visited}
use Rattle.sd_rounds.specs.declared.image_step.ImageStep.TheVariants.{Copied}
use Rattle.sd_writing.specs.declared.new_image.NewImage.{NewImage}
use Rattle.sd_rounds.specs.declared.stage.Stage.{Stage}
use Rattle.sd_rounds.specs.declared.stage.Stage.TheVariants.{Format, Freeze, Pass as PassStage, Close}
use Rattle.sd_rounds.specs.Made.{HasTheAreas}
use Rattle.sd_writing.specs.Entries.{ImageEntry, data_pages}
use Rattle.sd_rounds.specs.Pass.{Pass, opened}
use Rattle.sd_rounds.specs.Rises.{kind_at}
use Rattle.sd_rounds.specs.Rounds.{Copies, TakesPage, Tests}
use Rattle.sd_gate.specs.Lanes.{IsInLane}
use Rattle.sd_rounds.specs.Writes.{AreWrites, no_writes}
use Rattle.sd_writing.specs.Tables.{TablesEntries}

-- an image in the making: what is fixed of it, its pass, how far it is, the writes of its data pages that are out, and
-- what was fed those that were taken
pub record Making : Type 0 where
  pub order : ImageOrder
  pub pass : Pass
  pub stage : Stage
  pub writes : List (Option RequestId)
  pub digester : Digester

-- it begins with the format of its slot; without a parent it takes every page
abbrev pub begun_image : ImageOrder → Making
begun_image order = record {
  order = order;
  pass = opened (order.parent == 0);
  stage = Format (begun order.slot (format_calls order.state) nothing);
  writes = no_writes;
  digester = fresh;
}

-- the plan whose calls are being made
abbrev pub plan_of : Stage → Option Planned
plan_of (Format plan) = Some plan
plan_of Freeze = None
plan_of PassStage = None
plan_of (Close plan header tables) = Some plan

-- the freeze is after
abbrev pub is_past_freeze : Stage → Bool
is_past_freeze (Format plan) = false
is_past_freeze Freeze = false
is_past_freeze PassStage = true
is_past_freeze (Close plan header tables) = true

-- the dump of a memory that is frozen
abbrev pub is_frozen_dump : Making → Bool
is_frozen_dump making = (kind_number making.order.kind == 2) && is_past_freeze making.stage

-- how many outcomes of its plan are still to be handed in
abbrev pub outcomes_left : Stage → ℕ
outcomes_left (Format plan) = outcomes_of plan
outcomes_left Freeze = 0
outcomes_left PassStage = 0
outcomes_left (Close plan header tables) = outcomes_of plan

-- how many outcomes close the body, where that has begun
abbrev pub closing_outcomes : Stage → ℕ
closing_outcomes (Format plan) = 0
closing_outcomes Freeze = 0
closing_outcomes PassStage = 0
closing_outcomes (Close plan header tables) = 5

-- what holds of an image's pass in each stage: none was made before its turn
abbrev pub IsReadyFor : ImageOrder → Pass → Stage → Type 0
IsReadyFor order pass (Format plan) = (pass ≡ opened (order.parent == 0)) × IsUnderWay plan
IsReadyFor order pass Freeze = (pass ≡ opened (order.parent == 0)) × (order.kind ≡ Dump)
IsReadyFor order pass PassStage = Unit {0}
IsReadyFor order pass (Close plan header tables) = (header.pages ≡ data_pages pass.entries) × IsUnderWay plan

-- pages are visited, copied and written
abbrev pub is_passing : Stage → Bool
is_passing (Format plan) = false
is_passing Freeze = false
is_passing PassStage = true
is_passing (Close plan header tables) = false

-- what holds of every image in the making, which counts its data pages, and writes them during its pass alone
pub record IsMaking (order : ImageOrder) (pass : Pass) (stored : ℕ) (stage : Stage)
    (writes : List (Option RequestId)) : Type 0 where
  pub takes : pass.takes_all ≡ (order.parent == 0)
  pub counted : stored ≡ data_pages pass.entries
  pub few : stored ≤ 2 ^ 39
  pub ready : IsReadyFor order pass stage
  pub lanes : AreWrites order.slot stored writes
  pub rests : is_passing stage ≡ false → writes ≡ no_writes

abbrev pub with_plan : Stage → Planned → Stage
with_plan (Format old) plan = Format plan
with_plan Freeze plan = Freeze
with_plan PassStage plan = PassStage
with_plan (Close old header tables) plan = Close plan header tables

-- the request of its plan that is out
abbrev pub out_of : Stage → Option RequestId
out_of (Format plan) = plan.out
out_of Freeze = None
out_of PassStage = None
out_of (Close plan header tables) = plan.out

-- a request of the image is out: one of its plan, or the write of a data page
abbrev pub IsOutOf : Making → RequestId → Type 0
IsOutOf making id = (out_of making.stage ≡ Some id) ⊎ IsInLane making.writes id

-- the stage after a plan whose calls are all done
abbrev pub stage_when_done : Kind → Stage → Stage
stage_when_done Dump (Format plan) = Freeze
stage_when_done PreDump (Format plan) = PassStage
stage_when_done Merged (Format plan) = PassStage
stage_when_done kind Freeze = PassStage
stage_when_done kind PassStage = PassStage
stage_when_done kind (Close plan header tables) = PassStage

-- ---- Steps

-- the next call of the plan is asked for
pub record Asks (old : Making) (request : Asked) (new : Making) : Type 0 where
  pub plan : Planned
  pub next : Planned
  pub was : plan_of old.stage ≡ Some plan
  pub gives : Gives plan next request
  pub is : new ≡ record old { stage = with_plan old.stage next }

-- the page that was copied is taken as the next data page, and its write is asked for in a free lane
pub record WritesPage (old : Making) (lane : ℕ) (request : Asked) (new : Making) : Type 0 where
  pub stage : old.stage ≡ PassStage
  pub taken : TakesPage old.pass request.bytes new.pass
  pub free : slice_get old.writes lane ≡ Some None
  pub slot : request.id.slot ≡ old.order.slot
  pub call : request.id.call ≡ Write (data_place (data_pages old.pass.entries))
  pub order : new.order ≡ old.order
  pub still : new.stage ≡ PassStage
  pub writes : new.writes ≡ slice_set old.writes lane (Some request.id)
  pub digester : (fed : List ℕ) → HasFed old.digester fed → HasFed new.digester (fed ++ request.bytes)

-- the numbers of an image that stands for itself
abbrev pub image_numbers : ImageOrder → ImageNumbers
image_numbers order = record {
  kind = order.kind;
  serial = order.serial;
  stands_for = order.serial;
  parent = order.parent;
  checkpoint = order.checkpoint;
}

-- entries are exactly the mapped pages of a memory
abbrev pub AreThePages : List ImageEntry → Contents → Type 0
AreThePages entries memory =
    (space page : ℕ) → is_some (kind_at entries (space, page)) ≡ is_some (page_at memory space page)

-- a table with these entries, and the areas of a memory
pub record TablesMemory (memory : Contents) (entries : List ImageEntry) (header : Header)
    (tables : List Listed) : Type 0 where
  pub table : TablesEntries entries header tables
  pub areas : HasTheAreas (plain_of memory) tables

-- a pre-dump lists its entries; a dump the areas of the memory too, whose pages its entries are
abbrev pub HasTable : Kind → Contents → List ImageEntry → Header → List Listed → Type 0
HasTable PreDump memory entries header tables = TablesEntries entries header tables
HasTable Dump memory entries header tables = AreThePages entries memory → TablesMemory memory entries header tables
HasTable Merged memory entries header tables = AreThePages entries memory → TablesMemory memory entries header tables

-- there is no further page, and all are written: the table is made, and its write is asked for
pub record WritesTable (old : Making) (memory : Contents) (request : Asked) (new : Making) : Type 0 where
  pub stage : old.stage ≡ PassStage
  pub free : old.pass.taking ≡ None
  pub over : IsNextPage memory.spaces old.pass.after None
  pub rests : old.writes ≡ no_writes
  pub tables : List Listed
  pub header : Header
  pub fits : IsHeaderOf (image_numbers old.order) (data_pages old.pass.entries) old.digester tables header
  pub table : HasTable old.order.kind memory old.pass.entries header tables
  pub next : Planned
  pub gives : Gives (begun old.order.slot (body_calls header (table_text tables)) nothing) next request
  pub is : new ≡ record old { stage = Close next header tables }

-- a step of the pass
abbrev pub StepsPass : Making → Pass → Making → Type 0
StepsPass old pass new = (old.stage ≡ PassStage) × (new ≡ record old { pass = pass })

pub record Visits (old : Making) (before : Contents) (visit : visit.Visit) (new : Making)
    (after : Contents) : Type 0 where
  pub free : old.pass.taking ≡ None
  pub tests : Tests old.pass before visit new.pass after
  pub passes : StepsPass old new.pass new

pub record CopiesSector (old : Making) (memory : Contents) (copied : copied.Copied) (new : Making) : Type 0 where
  pub copies : Copies old.pass memory copied new.pass
  pub passes : StepsPass old new.pass new

pub record MakerFreezes (old new : Making) : Type 0 where
  pub stage : old.stage ≡ Freeze
  pub fresh : old.pass ≡ opened (old.order.parent == 0)
  pub rests : old.writes ≡ no_writes
  pub is : new ≡ record old { stage = PassStage }

-- what a step does, with this ticket; only a visit changes the memory
abbrev pub Steps : ℕ → Making → Contents → ImageStep → Making → Contents → Type 0
Steps ticket old before (Call request) new after =
    Asks old request new × IsAskedBy Dumper ticket request × (after ≡ before)
Steps ticket old before (PageCall lane request) new after =
    WritesPage old lane request new × IsAskedBy Dumper ticket request × (after ≡ before)
Steps ticket old before (TableCall request) new after =
    WritesTable old before request new × IsAskedBy Dumper ticket request × (after ≡ before)
Steps ticket old before Frozen new after = MakerFreezes old new × (after ≡ before)
Steps ticket old before (Visited visit) new after = Visits old before visit new after
Steps ticket old before (Copied copied) new after = CopiesSector old before copied new × (after ≡ before)

-- ---- Outcomes

-- an outcome of the plan's request that is out
pub record IsAwaited (old : Making) (made : Made) (plan : Planned) : Type 0 where
  pub was : plan_of old.stage ≡ Some plan
  pub out : plan.out ≡ Some made.request.id

-- where calls are left the plan goes on, and else the image
abbrev pub stage_after : Kind → Stage → Planned → Calls → Stage
stage_after kind stage plan [] = stage_when_done kind stage
stage_after kind stage plan (call ∷ calls) = with_plan stage plan

-- what the outcome of a call of the plan changes, where the image isn't opened by it
pub record PlanGoesOn (old : Making) (made : Made) (new : Making) : Type 0 where
  pub plan : Planned
  pub awaited : IsAwaited old made plan
  pub done : is_done made.answer ≡ true
  -- one outcome less is left
  pub one : outcomes_of (plan_after plan made) + 1 ≡ outcomes_of plan
  -- a body that is being closed has a call left
  pub closes : closing_outcomes old.stage ≢ 0 → (plan_after plan made).calls ≢ []
  pub is : new ≡ record old
      { stage = stage_after old.order.kind old.stage (plan_after plan made) (plan_after plan made).calls }

-- the write of a data page was done
pub record IsWritten (old : Making) (made : Made) (new : Making) : Type 0 where
  pub lane : ℕ
  pub out : slice_get old.writes lane ≡ Some (Some made.request.id)
  pub done : is_done made.answer ≡ true
  pub passing : is_passing old.stage ≡ true
  pub is : new ≡ record old { writes = slice_set old.writes lane None }

pub record Fails (old : Making) (made : Made) (new : Making) : Type 0 where
  pub out : IsOutOf old made.request.id
  pub failed : is_done made.answer ≡ false
  pub order : new.order ≡ old.order
  pub pass : new.pass ≡ old.pass

-- the last call of its body was done: it is open
pub record Opens (old : Making) (made : Made) (image : NewImage) : Type 0 where
  pub plan : Planned
  pub out : plan.out ≡ Some made.request.id
  pub done : is_done made.answer ≡ true
  pub last : (plan_after plan made).calls ≡ []
  pub one : outcomes_of (plan_after plan made) + 1 ≡ outcomes_of plan
  pub was : old.stage ≡ Close plan image.header image.table
  pub pages : image.header.pages ≡ data_pages old.pass.entries
  pub rests : old.writes ≡ no_writes
  pub slot : image.slot ≡ old.order.slot

abbrev pub HandsIn : Making → Made → Written → Making → Type 0
HandsIn old made Strange new = (IsOutOf old made.request.id → ⊥) × (new ≡ old)
HandsIn old made Failed new = Fails old made new
HandsIn old made More new = PlanGoesOn old made new ⊎ IsWritten old made new
HandsIn old made (Opened image) new = Opens old made image

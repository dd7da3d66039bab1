-- A merged image in the making, as it is seen, and what its steps do.
use Rattle.std.specs.Prelude.{◌≡◌, ◌≢◌, ◌⊎◌, ℕ, ◌+◌, ◌≤◌, ◌==◌, true, false, if◌then◌else◌, List, [], ◌∷◌, ◌++◌, length}
use Rattle.std.specs.Prelude.{replicate, Option, Some, None, IsSome}
use Rattle.sd_image.specs.declared.header.Header.{Header}
use Rattle.sd_image.specs.declared.header.Kind.TheVariants.{Merged}
use Rattle.sd_image.specs.declared.run.RunKind.TheVariants.{Data, Zero}
use Rattle.sd_image.specs.declared.digester.Digester.{Digester}
use Rattle.sd_image.specs.Digests.{HasFed, fresh}
use Rattle.sd_image.specs.Table.{Listed, table_text}
use Rattle.sd_chain.specs.declared.found.Found.{Found}
use Rattle.sd_chain.specs.declared.found.Found.TheVariants as found
use Rattle.sd_chain.specs.Catalog.{Opened, Places, place_of}
use Rattle.sd_chain.specs.Passes.{IsAfterPlace, IsNextPageOfImage}
use Rattle.sd_chain.specs.Ways.{AreImages, LiesBySerial}
use Rattle.sd_gate.specs.declared.call.Call.TheVariants.{Read, Write}
use Rattle.sd_gate.specs.declared.request_id.RequestId.{RequestId}
use Rattle.sd_gate.specs.declared.worker.Worker.TheVariants.{Merger}
use Rattle.sd_gate.specs.Calls.{is_done}
use Rattle.sd_gate.specs.Inspections.{nothing}
use Rattle.sd_gate.specs.Plans.{Gives, Planned, begun, nothing_back, plan_after}
use Rattle.sd_gate.specs.PlanUse.{IsAskedBy, IsUnderWay, outcomes_of}
use Rattle.sd_gate.specs.Requests.{Asked, Made}
use Rattle.sd_gate.specs.Sequences.{Calls, body_calls, data_place, format_calls}
use Rattle.sd_writing.specs.declared.new_image.NewImage.{NewImage}
use Rattle.sd_writing.specs.declared.ending.ImageNumbers.{ImageNumbers}
use Rattle.sd_writing.specs.Endings.{IsHeaderOf}
use Rattle.sd_writing.specs.Entries.{ImageEntry, Place, data_pages, last_of}
use Rattle.sd_merge.specs.declared.copy_order.CopyOrder.{CopyOrder}
use Rattle.sd_writing.specs.declared.written.Written.{Written}
use Rattle.sd_writing.specs.declared.written.Written.TheVariants as progress
use Rattle.sd_merge.specs.declared.merge_step.MergeStep.{MergeStep}
use Rattle.sd_merge.specs.declared.merge_step.MergeStep.TheVariants as step
use Rattle.sd_merge.specs.declared.stage.Stage.{Stage}
use Rattle.sd_merge.specs.declared.stage.Stage.TheVariants.{Format, Pass as PassStage, PageRead, PageWrite, Close}
use Rattle.sd_merge.specs.Gathered.{IsTableOf}
use Rattle.sd_merge.specs.Sources.{few_pages}

-- a merged image in the making
pub record Copying : Type 0 where
  pub order : CopyOrder
  -- the pages that were taken
  pub entries : List ImageEntry
  -- how many are left, without the one that is being taken
  pub ahead : ℕ
  -- the page that is being taken, and its bytes once they were read
  pub taking : Option Place
  pub read : Option (List ℕ)
  pub stage : Stage
  -- what was fed the data pages that were taken
  pub digester : Digester

-- it begins with the format of its slot, and has all pages ahead
abbrev pub begun_copy : CopyOrder → Copying
begun_copy order = record {
  order = order;
  entries = [];
  ahead = few_pages order.source.pages;
  taking = None;
  read = None;
  stage = Format (begun order.slot (format_calls order.state) nothing);
  digester = fresh;
}

-- the page that was taken last
abbrev pub cursor : Copying → Option Place
cursor copy = last_of None copy.entries

-- a page that came back; what isn't as long as a page is of none
abbrev pub page_or_zeros : List ℕ → List ℕ
page_or_zeros bytes = if length bytes == 4096 then bytes else replicate 4096 0

-- the plan whose calls are being made
abbrev pub plan_of : Stage → Option Planned
plan_of (Format plan) = Some plan
plan_of PassStage = None
plan_of (PageRead plan) = Some plan
plan_of (PageWrite plan) = Some plan
plan_of (Close plan header tables) = Some plan

abbrev pub with_plan : Stage → Planned → Stage
with_plan (Format old) plan = Format plan
with_plan PassStage plan = PassStage
with_plan (PageRead old) plan = PageRead plan
with_plan (PageWrite old) plan = PageWrite plan
with_plan (Close old header tables) plan = Close plan header tables

-- the request that is out
abbrev pub out_of : Stage → Option RequestId
out_of (Format plan) = plan.out
out_of PassStage = None
out_of (PageRead plan) = plan.out
out_of (PageWrite plan) = plan.out
out_of (Close plan header tables) = plan.out

-- ---- Steps

-- the next call of the plan is asked for
pub record Asks (old : Copying) (request : Asked) (new : Copying) : Type 0 where
  pub plan : Planned
  pub next : Planned
  pub was : plan_of old.stage ≡ Some plan
  pub gives : Gives plan next request
  pub is : new ≡ record old { stage = with_plan old.stage next }

-- the source lists this page next, and its chain has it there
pub record IsNextAt (places : Places) (old : Copying) (at : Place) (there : Found) : Type 0 where
  pub next : IsNextPageOfImage places old.order.source.serial (cursor old) (Some at)
  pub lies : LiesBySerial places old.order.source.serial at there

-- the page has only zeros, and is taken
pub record TakesZero (at : Place) (old new : Copying) : Type 0 where
  pub stage : old.stage ≡ PassStage
  pub free : old.taking ≡ None
  pub fewer : old.ahead ≡ new.ahead + 1
  pub is : new ≡ record old { entries = old.entries ++ (record { place = at; kind = Zero }) ∷ []; ahead = new.ahead }

-- the page has data, and the read of the data page with this number in a slot is asked for
pub record ReadsPage (at : Place) (slot place : ℕ) (old : Copying) (request : Asked) (new : Copying) : Type 0 where
  pub stage : old.stage ≡ PassStage
  pub free : old.taking ≡ None
  pub whole : length request.bytes ≡ 4096
  pub next : Planned
  pub gives : Gives (begun slot ((Read (data_place place), request.bytes) ∷ []) nothing) next request
  pub fewer : old.ahead ≡ new.ahead + 1
  pub is : new ≡ record old { ahead = new.ahead; taking = Some at; stage = PageRead next }

-- the page that was read is taken as the next data page, and its write is asked for
pub record WritesPage (old : Copying) (request : Asked) (new : Copying) : Type 0 where
  pub stage : old.stage ≡ PassStage
  pub at : Place
  pub taking : old.taking ≡ Some at
  pub bytes : List ℕ
  pub read : old.read ≡ Some bytes
  pub next : Planned
  pub gives : Gives (begun old.order.slot ((Write (data_place (data_pages old.entries)), bytes) ∷ []) nothing) next
      request
  pub digester : (fed : List ℕ) → HasFed old.digester fed → HasFed new.digester (fed ++ bytes)
  pub is : new ≡ record old {
    entries = old.entries ++ (record { place = at; kind = Data }) ∷ [];
    taking = None;
    read = None;
    stage = PageWrite next;
    digester = new.digester;
  }

-- the numbers of a merged image: it stands for what its source stands for, and has no parent
abbrev pub copy_numbers : CopyOrder → ImageNumbers
copy_numbers order = record {
  kind = Merged;
  serial = order.serial;
  stands_for = order.source.stands_for;
  parent = 0;
  checkpoint = order.source.checkpoint;
}

-- the table is made of the source's areas and the pages that were taken, and its write is asked for
pub record WritesTable (places : Places) (old : Copying) (request : Asked) (new : Copying) : Type 0 where
  pub stage : old.stage ≡ PassStage
  pub free : old.taking ≡ None
  pub source : Opened
  pub there : place_of places old.order.source.serial ≡ Some (Some source)
  pub tables : List Listed
  pub header : Header
  pub fits : IsHeaderOf (copy_numbers old.order) (data_pages old.entries) old.digester tables header
  pub table : IsTableOf source.spaces old.entries tables
  pub next : Planned
  pub gives : Gives (begun old.order.slot (body_calls header (table_text tables)) nothing) next request
  pub is : new ≡ record old { stage = Close next header tables }

-- Steps of the pass: which page is next is known of catalogs whose tables are image text.
pub record StepsZero (places : Places) (old new : Copying) : Type 0 where
  pub at : Place
  pub takes : TakesZero at old new
  pub next : AreImages places → IsNextAt places old at found.Zero

pub record StepsRead (places : Places) (old : Copying) (request : Asked) (new : Copying) : Type 0 where
  pub at : Place
  pub slot : ℕ
  pub place : ℕ
  pub reads : ReadsPage at slot place old request new
  pub next : AreImages places → IsNextAt places old at (found.Data slot (data_place place))

pub record StepsTable (places : Places) (old : Copying) (request : Asked) (new : Copying) : Type 0 where
  pub writes : WritesTable places old request new
  pub over : AreImages places → IsNextPageOfImage places old.order.source.serial (cursor old) None

-- what a step does, with this ticket
abbrev pub Steps : ℕ → Places → Copying → MergeStep → Copying → Type 0
Steps ticket places old (step.Call request) new = Asks old request new × IsAskedBy Merger ticket request
Steps ticket places old (step.ReadCall request) new =
    StepsRead places old request new × IsAskedBy Merger ticket request
Steps ticket places old (step.PageCall request) new = WritesPage old request new × IsAskedBy Merger ticket request
Steps ticket places old (step.TableCall request) new =
    StepsTable places old request new × IsAskedBy Merger ticket request
Steps ticket places old step.Zero new = StepsZero places old new

-- no image of the catalog has the serial
abbrev pub LacksSerial : Places → ℕ → Type 0
LacksSerial places serial = (i : Opened) → place_of places serial ≡ Some (Some i) → ⊥

-- a page that the merge didn't begin with, or that the chain of the source doesn't have
pub record IsLostAt (places : Places) (old : Copying) (at : Place) : Type 0 where
  pub next : IsNextPageOfImage places old.order.source.serial (cursor old) (Some at)
  pub lost : (old.ahead ≡ 0) ⊎ ((there : Found) → LiesBySerial places old.order.source.serial at there → ⊥)

-- the catalog doesn't have what the next step needs
pub record IsLost (places : Places) (old : Copying) : Type 0 where
  pub stage : old.stage ≡ PassStage
  pub free : old.taking ≡ None
  pub why : AreImages places → LacksSerial places old.order.source.serial ⊎ ((at : Place) × IsLostAt places old at)

-- ---- Outcomes

-- an outcome of the request that is out
pub record IsAwaited (old : Copying) (made : Made) (plan : Planned) : Type 0 where
  pub was : plan_of old.stage ≡ Some plan
  pub out : plan.out ≡ Some made.request.id

-- where calls are left the plan goes on, and else the pass
abbrev pub stage_after : Stage → Planned → Calls → Stage
stage_after stage plan [] = PassStage
stage_after stage plan (call ∷ calls) = with_plan stage plan

-- what was read once an outcome is in
abbrev pub read_after : Stage → Made → Option (List ℕ) → Option (List ℕ)
read_after (Format plan) made read = read
read_after PassStage made read = read
read_after (PageRead plan) made read = Some (page_or_zeros made.request.bytes)
read_after (PageWrite plan) made read = read
read_after (Close plan header tables) made read = read

-- a body is being closed
abbrev pub IsClosing : Stage → Type 0
IsClosing (Format plan) = ⊥
IsClosing PassStage = ⊥
IsClosing (PageRead plan) = ⊥
IsClosing (PageWrite plan) = ⊥
IsClosing (Close plan header tables) = Unit {0}

pub record PlanGoesOn (old : Copying) (made : Made) (new : Copying) : Type 0 where
  pub plan : Planned
  pub awaited : IsAwaited old made plan
  pub done : is_done made.answer ≡ true
  -- one outcome less is left
  pub one : outcomes_of (plan_after plan made) + 1 ≡ outcomes_of plan
  -- a body that is being closed has a call left
  pub closes : IsClosing old.stage → (plan_after plan made).calls ≢ []
  pub is : new ≡ record old {
    read = read_after old.stage made old.read;
    stage = stage_after old.stage (plan_after plan made) (plan_after plan made).calls;
  }

pub record Fails (old : Copying) (made : Made) : Type 0 where
  pub plan : Planned
  pub awaited : IsAwaited old made plan
  pub failed : is_done made.answer ≡ false

-- the last call of its body was done: it is open
pub record Opens (old : Copying) (made : Made) (image : NewImage) : Type 0 where
  pub plan : Planned
  pub out : plan.out ≡ Some made.request.id
  pub done : is_done made.answer ≡ true
  pub last : (plan_after plan made).calls ≡ []
  pub one : outcomes_of (plan_after plan made) + 1 ≡ outcomes_of plan
  pub was : old.stage ≡ Close plan image.header image.table
  pub pages : image.header.pages ≡ data_pages old.entries
  pub slot : image.slot ≡ old.order.slot

-- what the outcome of a call on the merged image changes
abbrev pub HandsIn : Copying → Made → Written → Copying → Type 0
HandsIn old made progress.Strange new = (out_of old.stage ≢ Some made.request.id) × (new ≡ old)
HandsIn old made progress.Failed new = Fails old made
HandsIn old made progress.More new = PlanGoesOn old made new
HandsIn old made (progress.Opened image) new = Opens old made image

-- ---- What holds of every merged image in the making

-- the outcome of a read that is out brings back its buffer alone
pub record HasReadOut (plan : Planned) : Type 0 where
  pub id : RequestId
  pub place : ℕ
  pub out : plan.out ≡ Some id
  pub call : id.call ≡ Read place
  pub last : plan.calls ≡ []
  pub known : plan.awaits ≡ nothing
  pub fresh : plan.found ≡ nothing_back

-- a page that is being taken is after the others
abbrev pub TakesPageAfter : List ImageEntry → Option Place → Type 0
TakesPageAfter entries None = ⊥
TakesPageAfter entries (Some at) = IsAfterPlace (last_of None entries) at

-- a page was read, or none is being taken
abbrev pub IsFreeOrRead : List ImageEntry → Option Place → Option (List ℕ) → Type 0
IsFreeOrRead entries None read = read ≡ None
IsFreeOrRead entries (Some at) read = IsAfterPlace (last_of None entries) at × IsSome read

-- no page is being taken
pub record TakesNoPage (page : Option Place) (bytes : Option (List ℕ)) : Type 0 where
  pub taking : page ≡ None
  pub read : bytes ≡ None

abbrev pub IsReadyFor : List ImageEntry → Option Place → Option (List ℕ) → Stage → Type 0
IsReadyFor entries taking read (Format plan) = (entries ≡ []) × TakesNoPage taking read × IsUnderWay plan
IsReadyFor entries taking read PassStage = IsFreeOrRead entries taking read
IsReadyFor entries taking read (PageRead plan) = TakesPageAfter entries taking × (read ≡ None) × HasReadOut plan
IsReadyFor entries taking read (PageWrite plan) = TakesNoPage taking read × IsUnderWay plan
IsReadyFor entries taking read (Close plan header tables) =
    TakesNoPage taking read × (header.pages ≡ data_pages entries) × IsUnderWay plan

-- a page that is being taken counts
abbrev pub is_taking : Option Place → ℕ
is_taking None = 0
is_taking (Some at) = 1

-- its own calls go to its slot
abbrev pub IsOwnPlan : ℕ → Stage → Type 0
IsOwnPlan slot (Format plan) = plan.slot ≡ slot
IsOwnPlan slot PassStage = Unit {0}
IsOwnPlan slot (PageRead plan) = Unit {0}
IsOwnPlan slot (PageWrite plan) = plan.slot ≡ slot
IsOwnPlan slot (Close plan header tables) = plan.slot ≡ slot

-- it counts its data pages, and they, the page that is being taken and those that are left are few
pub record IsCountedCopy (slot : ℕ) (entries : List ImageEntry) (stored ahead : ℕ) (taking : Option Place)
    (read : Option (List ℕ)) (stage : Stage) : Type 0 where
  pub counted : stored ≡ data_pages entries
  pub few : stored + is_taking taking + ahead ≤ 65536
  pub ready : IsReadyFor entries taking read stage
  pub own : IsOwnPlan slot stage

-- what holds of it, as it is seen
pub record IsSoundCopying (copy : Copying) : Type 0 where
  pub few : data_pages copy.entries + is_taking copy.taking + copy.ahead ≤ 65536
  pub ready : IsReadyFor copy.entries copy.taking copy.read copy.stage
  pub own : IsOwnPlan copy.order.slot copy.stage

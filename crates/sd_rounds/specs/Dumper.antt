-- The dumper, as it is seen: the images of a checkpoint, one after the other.
use Rattle.std.specs.Prelude.{◌≡◌, ◌⊎◌, ℕ, ◌+◌, ◌≤◌, ◌^◌, Bool, true, false, if◌then◌else◌, nat_le, List, [], length}
use Rattle.std.specs.Prelude.{get_or, Contains, Option, Some, None}
use Rattle.sd_image.specs.declared.header.Kind.{Kind}
use Rattle.sd_image.specs.declared.header.Kind.TheVariants.{PreDump, Dump}
use Rattle.sd_gate.specs.declared.request_id.RequestId.{RequestId}
use Rattle.sd_gate.specs.declared.slot_state.SlotState.{SlotState}
use Rattle.sd_gate.specs.Requests.{Made}
use Rattle.sd_pagetable.specs.Contents.{Contents}
use Rattle.sd_rounds.specs.declared.checkpoint.Checkpoint.{Checkpoint}
use Rattle.sd_rounds.specs.declared.image_order.ImageOrder.{ImageOrder}
use Rattle.sd_writing.specs.declared.written.Written.{Written}
use Rattle.sd_writing.specs.declared.written.Written.TheVariants.{Failed, More, Opened}
use Rattle.sd_rounds.specs.declared.image_step.ImageStep.{ImageStep}
use Rattle.sd_rounds.specs.declared.image_step.ImageStep.TheVariants.{Call, PageCall, TableCall, Frozen, Visited}
use Rattle.sd_rounds.specs.declared.image_step.ImageStep.TheVariants.{Copied}
use Rattle.sd_writing.specs.declared.new_image.NewImage.{NewImage}
use Rattle.sd_rounds.specs.declared.progress.Progress.{Progress}
use Rattle.sd_rounds.specs.declared.progress.Progress.TheVariants.{Strange, Failed as HasFailed, More as GoesOn}
use Rattle.sd_rounds.specs.declared.progress.Progress.TheVariants.{PreDump as PreDumpOpen, Dump as DumpOpen}
use Rattle.sd_rounds.specs.Making.{HandsIn, IsOutOf, Making, Steps, begun_image, closing_outcomes, is_frozen_dump}
use Rattle.sd_rounds.specs.Making.{out_of}
use Rattle.sd_rounds.specs.Making.{outcomes_left}
use Rattle.sd_writing.specs.Entries.{data_pages}
use Rattle.sd_rounds.specs.Writes.{no_writes, writes_out}

-- a checkpoint that runs: the slots of its pre-dumps and of its dump, the parent of its first image, how many images
-- are open, the parent of the next, and the image that is being made
pub record Running : Type 0 where
  pub number : ℕ
  pub pre_dumps : List ℕ
  pub dump : ℕ
  pub first : ℕ
  pub opened : ℕ
  pub parent : ℕ
  pub image : Option Making

abbrev pub running_of : Checkpoint → Running
running_of c = record {
  number = c.number;
  pre_dumps = c.pre_dumps.items;
  dump = c.dump;
  first = c.first;
  opened = c.opened;
  parent = c.parent;
  image = c.maker;
}

-- the state of the dumper
pub record Dumping : Type 0 where
  -- none while it is idle
  pub running : Option Running
  -- how many outcomes were handed in since the last freeze
  pub since_freeze : ℕ

-- no checkpoint runs
abbrev pub idle : ℕ → Dumping
idle since = record { running = None; since_freeze = since }

-- the dump is next, or is being made
abbrev pub is_last : Running → Bool
is_last running = nat_le (length running.pre_dumps) running.opened

-- the slot of the image that the checkpoint makes next or is making
abbrev pub slot_of : Running → ℕ
slot_of running = get_or running.pre_dumps running.opened running.dump

-- the kind of the image that the checkpoint makes next or is making
abbrev pub kind_of : Running → Kind
kind_of running = if is_last running then Dump else PreDump

-- what is fixed of the next image
abbrev pub order_of : Running → ℕ → SlotState → ImageOrder
order_of running serial state = record {
  slot = slot_of running;
  state = state;
  kind = kind_of running;
  serial = serial;
  parent = running.parent;
  checkpoint = running.number;
}

-- a checkpoint that begins
abbrev pub begun_checkpoint : ℕ → List ℕ → ℕ → ℕ → Running
begun_checkpoint number pre_dumps dump parent = record {
  number = number;
  pre_dumps = pre_dumps;
  dump = dump;
  first = parent;
  opened = 0;
  parent = parent;
  image = None;
}

-- the image that a step is made on: the one that is being made, or the next
abbrev pub image_from : Running → ℕ → SlotState → Option Making → Making
image_from running serial state None = begun_image (order_of running serial state)
image_from running serial state (Some image) = image

-- the step freezes the memory
abbrev pub freezes : ImageStep → Bool
freezes (Call request) = false
freezes (PageCall lane request) = false
freezes (TableCall request) = false
freezes Frozen = true
freezes (Visited visit) = false
freezes (Copied copied) = false

-- a step of the image that is being made, or of the next
pub record WorksOn (serial : ℕ) (state : SlotState) (ticket : ℕ) (old : Running) (before : Contents) (step : ImageStep)
    (new : Running) (after : Contents) : Type 0 where
  pub image : Making
  pub steps : Steps ticket (image_from old serial state old.image) before step image after
  pub is : new ≡ record old { image = Some image }

pub record Works (serial : ℕ) (state : SlotState) (ticket : ℕ) (old : Dumping) (before : Contents) (step : ImageStep)
    (new : Dumping) (after : Contents) : Type 0 where
  pub running : Running
  pub was : old.running ≡ Some running
  pub next : Running
  pub works : WorksOn serial state ticket running before step next after
  pub is : new ≡ record {
    running = Some next;
    since_freeze = if freezes step then 0 else old.since_freeze;
  }

-- the request of its plan that is out
abbrev pub out_of_image : Option Making → Option RequestId
out_of_image None = None
out_of_image (Some image) = out_of image.stage

-- the request of the checkpoint's own lane that is out
abbrev pub out_of_running : Option Running → Option RequestId
out_of_running None = None
out_of_running (Some running) = out_of_image running.image

-- the writes of data pages that are out
abbrev pub writes_of_image : Option Making → List (Option RequestId)
writes_of_image None = no_writes
writes_of_image (Some image) = image.writes

-- the page writes that are out
abbrev pub writes_of_running : Option Running → List (Option RequestId)
writes_of_running None = no_writes
writes_of_running (Some running) = writes_of_image running.image

-- a request is out: one of its plan, or the write of a data page
abbrev pub IsOutOfImage : Option Making → RequestId → Type 0
IsOutOfImage None id = ⊥
IsOutOfImage (Some image) id = IsOutOf image id

abbrev pub IsOutOfRunning : Option Running → RequestId → Type 0
IsOutOfRunning None id = ⊥
IsOutOfRunning (Some running) id = IsOutOfImage running.image id

-- the slot of the image that the next step begins, where it begins one
abbrev pub slot_before : Running → Option Making → Option ℕ
slot_before running None = Some (slot_of running)
slot_before running (Some image) = None

-- the slot of the image that the checkpoint makes next, where it is making none
abbrev pub next_slot : Option Running → Option ℕ
next_slot None = None
next_slot (Some running) = slot_before running running.image

-- the dump of the checkpoint that runs is next, or is being made
abbrev pub is_dumping : Option Running → Bool
is_dumping None = false
is_dumping (Some running) = is_last running

-- a slot that the checkpoint is still to fill, or fills
pub record IsReserved (running : Running) (slot : ℕ) : Type 0 where
  pub place : ℕ
  pub from : running.opened ≤ place
  pub is : slot ≡ slot_of (record running { opened = place })

-- a slot that the checkpoint that runs is still to fill, or fills
abbrev pub Fills : Option Running → ℕ → Type 0
Fills None slot = ⊥
Fills (Some running) slot = IsReserved running slot

-- one of the slots of the checkpoint that runs
abbrev pub HasSlot : Option Running → ℕ → Type 0
HasSlot None slot = ⊥
HasSlot (Some running) slot = Contains running.pre_dumps slot ⊎ (slot ≡ running.dump)

-- the slots of its pre-dumps, and that of its dump
abbrev pub pre_dump_slots : Option Running → List ℕ
pre_dump_slots None = []
pre_dump_slots (Some running) = running.pre_dumps

abbrev pub dump_slot : Option Running → Option ℕ
dump_slot None = None
dump_slot (Some running) = Some running.dump

-- the number that its next image, or the one that is being made, names as its parent
abbrev pub parent_of : Option Running → Option ℕ
parent_of None = None
parent_of (Some running) = Some running.parent

-- the serial of the image that is being made
abbrev pub image_serial : Option Making → Option ℕ
image_serial None = None
image_serial (Some image) = Some image.order.serial

-- the serial of the image that the checkpoint is making
abbrev pub serial_of_running : Option Running → Option ℕ
serial_of_running None = None
serial_of_running (Some running) = image_serial running.image

-- ---- Outcomes

-- an outcome of the image that is being made, which goes on or fails
pub record HandsOn (old : Running) (made : Made) (progress : Written) (new : Running) : Type 0 where
  pub image : Making
  pub was : old.image ≡ Some image
  pub next : Making
  pub hands : HandsIn image made progress next
  pub is : new ≡ record old { image = Some next }

-- the image that was being made is open
pub record HandsImage (old : Running) (made : Made) (opened : NewImage) : Type 0 where
  pub image : Making
  pub was : old.image ≡ Some image
  pub next : Making
  pub hands : HandsIn image made (Opened opened) next

-- a checkpoint whose pre-dump has opened: the next image has it as its parent
abbrev pub after_pre_dump : Running → NewImage → Running
after_pre_dump old image = record old { opened = old.opened + 1; parent = image.header.serial; image = None }

-- What an outcome does to a checkpoint. After a pre-dump the next image names it as its parent.
abbrev pub HandsTo : Running → Made → Progress → Running → Type 0
HandsTo old made Strange new = (IsOutOfImage old.image made.request.id → ⊥) × (new ≡ old)
HandsTo old made HasFailed new = HandsOn old made Failed new
HandsTo old made GoesOn new = HandsOn old made More new
HandsTo old made (PreDumpOpen opened) new = HandsImage old made opened × (is_last old ≡ false)
    × (new ≡ after_pre_dump old opened)
HandsTo old made (DumpOpen opened) new = HandsImage old made opened × (is_last old ≡ true)

-- whether the checkpoint ends
abbrev pub ends : Progress → Bool
ends Strange = false
ends HasFailed = true
ends GoesOn = false
ends (PreDumpOpen image) = false
ends (DumpOpen image) = true

abbrev pub is_strange : Progress → Bool
is_strange Strange = true
is_strange HasFailed = false
is_strange GoesOn = false
is_strange (PreDumpOpen image) = false
is_strange (DumpOpen image) = false

-- the image that is being made, if one is, is a dump that has frozen the memory
abbrev pub is_frozen_image : Option Making → Bool
is_frozen_image None = false
is_frozen_image (Some image) = is_frozen_dump image

-- one outcome more, where the memory was frozen
abbrev pub outcomes_since_freeze : Running → ℕ → ℕ
outcomes_since_freeze running since = if is_frozen_image running.image then since + 1 else since

-- an outcome of a request that was out
pub record IsHanded (old : Dumping) (made : Made) (progress : Progress) (new : Dumping) : Type 0 where
  pub running : Running
  pub was : old.running ≡ Some running
  pub next : Running
  pub hands : HandsTo running made progress next
  pub is : new ≡ record {
    running = if ends progress then None
        else Some next;
    since_freeze = outcomes_since_freeze running old.since_freeze;
  }

pub record IsStrange (old : Dumping) (made : Made) (new : Dumping) : Type 0 where
  pub other : IsOutOfRunning old.running made.request.id → ⊥
  pub same : new ≡ old

abbrev pub Hands : Dumping → Made → Progress → Dumping → Type 0
Hands old made Strange new = IsStrange old made new
Hands old made HasFailed new = IsHanded old made HasFailed new
Hands old made GoesOn new = IsHanded old made GoesOn new
Hands old made (PreDumpOpen image) new = IsHanded old made (PreDumpOpen image) new
Hands old made (DumpOpen image) new = IsHanded old made (DumpOpen image) new

-- at its end the dump was followed by five outcomes and one for each of its data pages
abbrev pub HasCounted : Progress → ℕ → Type 0
HasCounted Strange since = Unit {0}
HasCounted HasFailed since = Unit {0}
HasCounted GoesOn since = Unit {0}
HasCounted (PreDumpOpen image) since = Unit {0}
HasCounted (DumpOpen image) since = since ≡ image.header.pages + 5

-- ---- What holds of every checkpoint

-- the image that is being made is the checkpoint's
abbrev pub IsItsImage : Running → Option Making → Type 0
IsItsImage running None = Unit {0}
IsItsImage running (Some image) = image.order ≡ order_of running image.order.serial image.order.state

-- an image has at most 2^39 data pages
abbrev pub HasFewPages : Option Making → Type 0
HasFewPages None = Unit {0}
HasFewPages (Some image) = data_pages image.pass.entries ≤ 2 ^ 39

-- how many data pages the image that is being made has so far
abbrev pub pages_of_image : Option Making → ℕ
pages_of_image None = 0
pages_of_image (Some image) = data_pages image.pass.entries

-- how many data pages the image that the checkpoint is making has so far
abbrev pub pages_of_checkpoint : Option Running → ℕ
pages_of_checkpoint None = 0
pages_of_checkpoint (Some running) = pages_of_image running.image

-- the dump of a frozen memory counts the outcomes since the freeze: one for each data page that is written, and five
-- that close it
pub record IsCounted (since : ℕ) (image : Making) : Type 0 where
  pub count : since + outcomes_left image.stage + writes_out image.writes
      ≡ data_pages image.pass.entries + closing_outcomes image.stage

abbrev pub AreCounted : ℕ → Option Making → Type 0
AreCounted since None = Unit {0}
AreCounted since (Some image) = is_frozen_dump image ≡ true → IsCounted since image

-- what holds of every checkpoint that runs
pub record IsRunning (since : ℕ) (running : Running) : Type 0 where
  pub few : running.opened ≤ length running.pre_dumps
  pub own : IsItsImage running running.image
  pub counts : AreCounted since running.image

-- what holds of the checkpoint that runs, if one does
abbrev pub AreRunning : ℕ → Option Running → Type 0
AreRunning since None = Unit {0}
AreRunning since (Some running) = IsRunning since running

-- The machine: one step of a core, exactly. When it may be made, what it answers, and the core after it. A command, an
-- order, a step of a worker and an outcome that is handed in are each one of these steps.
use Rattle.std.specs.Prelude.{◌≡◌, ◌≢◌, ◌⊎◌, ℕ, ◌+◌, ◌||◌, Bool, true, false, List, ◌∷◌, length, map, Option, Some}
use Rattle.std.specs.Prelude.{None, is_some, Result, Ok, Err, slice_get, slice_set}
use Rattle.sd_chain.specs.Catalog.{Changes, IsTip, Opened, Places, images, serial_of}
use Rattle.sd_command.specs.declared.command.Command.{Command}
use Rattle.sd_command.specs.declared.refusal.Refusal.{Refusal}
use Rattle.sd_command.specs.declared.refusal.Refusal.TheVariants as refusal
use Rattle.sd_command.specs.declared.reply.Reply.{Reply}
use Rattle.sd_command.specs.declared.reply.Reply.TheVariants as reply
use Rattle.sd_gate.specs.declared.phase.Phase.{Phase}
use Rattle.sd_gate.specs.declared.worker.Worker.{Worker}
use Rattle.sd_gate.specs.declared.worker.Worker.TheVariants.{Dumper, Merger, Opener}
use Rattle.sd_gate.specs.Calls.{is_done}
use Rattle.sd_gate.specs.Phases.{given_up, phases_after, state_of}
use Rattle.sd_gate.specs.Requests.{Asked, Made}
use Rattle.sd_journal.specs.declared.entry.Entry.{Entry}
use Rattle.sd_journal.specs.declared.entry.Entry.TheVariants as entry
use Rattle.sd_journal.specs.declared.mark.Mark.{Mark}
use Rattle.sd_journal.specs.declared.mark.Mark.TheVariants as mark
use Rattle.sd_journal.specs.History.{pending, last}
use Rattle.sd_journal.specs.Marked.{Noted, Told}
use Rattle.sd_merge.specs.Merger.{begun_merge, HandsClosing, Loses, Retiring, TakesList, copying, due, opened, retiring}
use Rattle.sd_merge.specs.Sources.{source_from}
use Rattle.sd_opener.specs.Looking.{Looking, IsDoneAsAsked}
use Rattle.sd_rounds.specs.declared.image_step.ImageStep.{ImageStep}
use Rattle.sd_rounds.specs.declared.image_step.ImageStep.TheVariants as image_step
use Rattle.sd_writing.specs.declared.new_image.NewImage.{NewImage}
use Rattle.sd_rounds.specs.declared.visit.Visit as visit
use Rattle.sd_rounds.specs.declared.copied.Copied.{Copied}
use Rattle.sd_rounds.specs.Dumper.{Running, after_pre_dump, begun_checkpoint, is_last, order_of, serial_of_running}
use Rattle.sd_rounds.specs.Dumper.{slot_of}
use Rattle.sd_rounds.specs.Making.{IsWritten, Making, Opens as OpensMade, PlanGoesOn, Steps as StepsImage, begun_image}
use Rattle.sd_pagetable.specs.Contents.{Contents}
use Rattle.sd_crash_safety.specs.declared.standing.Standing.TheVariants as standing
use Rattle.sd_crash_safety.specs.Calls.{running_number, IsOut}
use Rattle.sd_crash_safety.specs.DumperOutcomes.{LeavesCatalog, closes_for_sure}
use Rattle.sd_crash_safety.specs.DumperSteps.{commits_dump}
use Rattle.sd_crash_safety.specs.View.{CoreView, history_of, page_lane, Numbers}
use Rattle.sd_core.specs.declared.taken.Taken.{Taken}
use Rattle.sd_core.specs.declared.taken.Taken.TheVariants as taken
use Rattle.sd_core.specs.Answering.{IsAnswered}
use Rattle.sd_core.specs.Beginning.{AreFew, AreReserved, FreeSlots, IsFirstParent, begin_refusal}
use Rattle.sd_core.specs.Counted.{counted_by_outcome}
use Rattle.sd_core.specs.Dumping.{ReleasesPlace}
use Rattle.sd_core.specs.Flags.{numbers_asked, numbers_begun, FindsNumbers}
use Rattle.sd_core.specs.Merging.{IsFull, IsMore, merge_refusal, MayRead, StepsAt}
use Rattle.sd_core.specs.Opening.{IsFreshOpener, OpensAnew, SawDamage, SawStrange, TeachesOpener, WorksOpener}
use Rattle.sd_core.specs.Opening.{awaited_checkpoint}
use Rattle.sd_core.specs.Refusals.{cancel_refusal, reopen_refusal, work_refusal, is_idle}
use Rattle.sd_core.specs.Sound.{held_for}
use Rattle.sd_image.specs.declared.reason.Reason.{Reason}
use Rattle.sd_merge.specs.declared.merge_progress.MergeProgress.{MergeProgress}
use Rattle.sd_merge.specs.declared.merge_progress.MergeProgress.TheVariants as progress
use Rattle.sd_merge.specs.declared.merge_step.MergeStep.{MergeStep}
use Rattle.sd_merge.specs.declared.merge_step.MergeStep.TheVariants as merge_step
use Rattle.sd_merge.specs.declared.retired.Retired.{Retired}
use Rattle.sd_merge.specs.Copying.{Copying, Opens as OpensCopy, Steps as StepsCopy, begun_copy}
use Rattle.sd_merge.specs.Merger as merger
use Rattle.sd_opener.specs.declared.opened.Opened.{Opened as OpenedStore}
use Rattle.sd_opener.specs.declared.opener_step.OpenerStep.{OpenerStep}
use Rattle.sd_opener.specs.declared.opener_step.OpenerStep.TheVariants as opener_step
use Rattle.sd_free_slots.specs.Taken.{IsListOf}

-- ---- words

-- the checkpoint that is pending
abbrev pub frozen : CoreView → Option ℕ
frozen core = pending (history_of core)

-- this entry is journaled
abbrev pub with_entry : Entry → CoreView → CoreView
with_entry one core = record core { items = Told one ∷ core.items }

-- this mark is noted between the entries
abbrev pub with_mark : Mark → CoreView → CoreView
with_mark one core = record core { items = Noted one ∷ core.items }

-- the running checkpoint makes this image
abbrev pub with_image : Running → Making → CoreView → CoreView
with_image running image core =
    record core { dumper = record core.dumper { running = Some (record running { image = Some image }) } }

-- a request is out in a lane; one that is the first of an image took the next serial too
abbrev pub with_request : Bool → ℕ → Asked → CoreView → CoreView
with_request begins lane request core = record core {
  outs = slice_set core.outs lane (Some request.id);
  numbers = numbers_asked begins core.numbers;
}

-- the opening of a gate was taken up, where this call of the checkpoint opens that of its dump
abbrev pub with_gate : Running → Asked → CoreView → CoreView
with_gate running request core =
    record core { committing = core.committing || commits_dump running request.id.call }

-- an outcome came: nothing is out in its lane, and its slot is in the phase after its call
abbrev pub with_outcome : ℕ → Made → Phase → CoreView → CoreView
with_outcome lane made phase core = record core {
  outs = slice_set core.outs lane None;
  phases = phases_after core.phases made.request.id phase (is_done made.answer);
}

-- the entries that are held after it
abbrev pub with_held : CoreView → CoreView
with_held core = record core { held = held_for (frozen core) core.dumper.running core.opener }

-- nothing changes, and this is the answer
abbrev pub IsRefused : Refusal → CoreView → Reply → CoreView → Type 0
IsRefused why old answer new = (answer ≡ reply.Refused why) × (new ≡ old)

-- ---- a command

-- it is answered by the memory, or as frozen, and journaled
pub record Applies (seat : ℕ) (command : Command) (old : CoreView) (told : Reply) (new : CoreView) : Type 0 where
  pub room : length (history_of old) + old.held ≢ old.limit
  pub memory : Contents
  pub answered : IsAnswered (is_some (frozen old)) command told old.memory memory
  pub new_is : new ≡ with_entry (entry.Applied seat command told) (record old { memory = memory })

pub data NextByCommand (seat : ℕ) (command : Command) (old : CoreView) (told : Result (ℕ × Reply) Refusal)
    (new : CoreView) : Type 0 where
  applies : (answer : Reply) → told ≡ Ok (old.base.folded + length (history_of old), answer)
      → Applies seat command old answer new
      → NextByCommand seat command old told new
  journal_full : length (history_of old) + old.held ≡ old.limit → told ≡ Err refusal.JournalFull → new ≡ old
      → NextByCommand seat command old told new
  out_of_memory : length (history_of old) + old.held ≢ old.limit → told ≡ Err refusal.OutOfMemory → new ≡ old
      → NextByCommand seat command old told new

-- ---- orders

-- A checkpoint begins: its number is one above all that were used, its slots are the lowest free ones, and its first
-- image names the tip, or nothing where every page must be dumped. Two entries are held.
pub record Begins (rounds : ℕ) (old : CoreView) (n : ℕ) (new : CoreView) : Type 0 where
  pub may : begin_refusal old rounds ≡ None
  pub number : n ≡ old.numbers.checkpoint + 1
  pub pre_dumps : List ℕ
  pub dump : ℕ
  pub reserved : AreReserved old rounds pre_dumps dump
  pub parent : ℕ
  pub first : IsFirstParent old.catalog old.grows parent
  pub new_is : new ≡ record old {
    held = 2;
    dumper = record old.dumper { running = Some (begun_checkpoint n pre_dumps dump parent) };
    numbers = numbers_begun old.numbers n;
  }

pub data NextByBegin (rounds : ℕ) (old : CoreView) (answer : Reply) (new : CoreView) : Type 0 where
  begins : (n : ℕ) → answer ≡ reply.Begun n → Begins rounds old n new → NextByBegin rounds old answer new
  refused : (why : Refusal) → begin_refusal old rounds ≡ Some why → IsRefused why old answer new
      → NextByBegin rounds old answer new
  no_slot : begin_refusal old rounds ≡ None → AreFew old rounds → IsRefused refusal.NoSlot old answer new
      → NextByBegin rounds old answer new
  out_of_memory : begin_refusal old rounds ≡ None → IsRefused refusal.OutOfMemory old answer new
      → NextByBegin rounds old answer new

-- A merge of the tip begins, in the lowest free slot.
pub record BeginsMerge (old new : CoreView) : Type 0 where
  pub may : merge_refusal old ≡ None
  pub tip : Opened
  pub is_tip : IsTip old.catalog tip
  pub slots : List ℕ
  pub free : FreeSlots old slots
  pub slot : ℕ
  pub lowest : slice_get slots 0 ≡ Some slot
  pub new_is : new ≡ record old {
    merger = Some (begun_merge (source_from tip) slot (map serial_of (images old.catalog)));
  }

pub data NextByMerge (old : CoreView) (answer : Reply) (new : CoreView) : Type 0 where
  begins : answer ≡ reply.Worked → BeginsMerge old new → NextByMerge old answer new
  refused : (why : Refusal) → merge_refusal old ≡ Some why → IsRefused why old answer new → NextByMerge old answer new
  no_slot : merge_refusal old ≡ None → IsFull old → IsRefused refusal.NoSlot old answer new
      → NextByMerge old answer new
  out_of_memory : merge_refusal old ≡ None → IsRefused refusal.OutOfMemory old answer new → NextByMerge old answer new

-- The checkpoint that runs or is pending is cancelled: the next one takes every page, and no entry is held.
pub record Cancels (old : CoreView) (n : ℕ) (new : CoreView) : Type 0 where
  pub may : cancel_refusal old ≡ None
  pub under_way : (running_number old.dumper.running ≡ Some n) ⊎ (frozen old ≡ Some n)
  pub places : Places
  pub released : ReleasesPlace (serial_of_running old.dumper.running) old.catalog places
  pub new_is : new ≡ with_entry (entry.Cancelled n) (record old {
    held = 0;
    catalog = places;
    dumper = record old.dumper { running = None };
    grows = false;
    committing = false;
  })

-- it takes no memory
pub data NextByCancel (old : CoreView) (answer : Reply) (new : CoreView) : Type 0 where
  cancels : (n : ℕ) → answer ≡ reply.Cancelled n → Cancels old n new → NextByCancel old answer new
  refused : (why : Refusal) → cancel_refusal old ≡ Some why → IsRefused why old answer new
      → NextByCancel old answer new

-- An opener begins: each slot's job is given up. An entry is held where none is for a pending checkpoint.
pub record Reopens (old new : CoreView) : Type 0 where
  pub may : reopen_refusal old ≡ None
  pub opener : Looking
  pub fresh : IsFreshOpener (length old.phases) opener
  pub new_is : new ≡ record old { held = 1; phases = map given_up old.phases; opener = Some opener }

pub data NextByReopen (old : CoreView) (answer : Reply) (new : CoreView) : Type 0 where
  reopens : answer ≡ reply.Worked → Reopens old new → NextByReopen old answer new
  refused : (why : Refusal) → reopen_refusal old ≡ Some why → IsRefused why old answer new
      → NextByReopen old answer new
  out_of_memory : reopen_refusal old ≡ None → IsRefused refusal.OutOfMemory old answer new
      → NextByReopen old answer new

-- ---- the dumper's steps

-- What a step of the dumper begins with: the image in the making, and a step of it.
pub record StepsIt (old : CoreView) (step : ImageStep) (after : Contents) : Type 0 where
  pub may : work_refusal old Dumper ≡ None
  pub running : Running
  pub was : old.dumper.running ≡ Some running
  pub image : Making
  pub making : running.image ≡ Some image
  pub next : Making
  pub steps : StepsImage old.numbers.ticket image old.memory step next after

-- The next image begins: it gets the next serial, whose place in the catalog is held, and its slot is formatted.
pub record BeginsImage (old : CoreView) (request : Asked) (new : CoreView) : Type 0 where
  pub may : work_refusal old Dumper ≡ None
  pub running : Running
  pub was : old.dumper.running ≡ Some running
  pub none : running.image ≡ None
  pub phase : Phase
  pub phase_is : slice_get old.phases (slot_of running) ≡ Some phase
  pub places : Places
  pub held : Changes old.catalog places (old.numbers.serial + 1) (Some None)
  pub next : Making
  pub steps : StepsImage old.numbers.ticket (begun_image (order_of running (old.numbers.serial + 1) (state_of phase)))
      old.memory (image_step.Call request) next old.memory
  pub new_is : new ≡ with_mark (mark.Start (old.numbers.serial + 1)) (with_request true 0 request
      (with_gate running request (with_image running next (record old { catalog = places }))))

-- The next call of the image's plan is asked for.
pub record AsksNext (old : CoreView) (request : Asked) (new : CoreView) : Type 0 where
  pub it : StepsIt old (image_step.Call request) old.memory
  pub new_is : new ≡ with_request false 0 request
      (with_gate it.running request (with_image it.running it.next old))

-- The memory is frozen for the checkpoint that runs: one entry stays held.
pub record Freezes (old new : CoreView) : Type 0 where
  pub it : StepsIt old image_step.Frozen old.memory
  pub new_is : new ≡ with_entry (entry.Freeze it.running.number) (record old {
    held = 1;
    dumper = record { running = Some (record it.running { image = Some it.next }); since_freeze = 0 };
  })

-- The next page is visited: its bit is tested and cleared.
pub record VisitsPage (old new : CoreView) : Type 0 where
  pub visit : visit.Visit
  pub memory : Contents
  pub it : StepsIt old (image_step.Visited visit) memory
  pub new_is : new ≡ with_mark (mark.Visit it.image.order.serial visit.space visit.page)
      (with_image it.running it.next (record old { memory = memory }))

-- A sector of the page is copied; or the page is found gone.
pub record CopiesSector (old new : CoreView) : Type 0 where
  pub copied : Copied
  pub it : StepsIt old (image_step.Copied copied) old.memory
  pub new_is : new ≡ with_image it.running it.next old

-- The write of the page is asked for, in a free lane.
pub record AsksPageWrite (old : CoreView) (request : Asked) (new : CoreView) : Type 0 where
  pub lane : ℕ
  pub it : StepsIt old (image_step.PageCall lane request) old.memory
  pub new_is : new ≡ with_request false (page_lane lane) request (with_image it.running it.next old)

-- No page is left: the write of the table is asked for.
pub record AsksTableWrite (old : CoreView) (request : Asked) (new : CoreView) : Type 0 where
  pub it : StepsIt old (image_step.TableCall request) old.memory
  pub new_is : new ≡ with_mark (mark.Table it.image.order.serial) (with_request false 0 request
      (with_gate it.running request (with_image it.running it.next old)))

pub data NextByDumper (old : CoreView) (made : Taken) (new : CoreView) : Type 0 where
  begins_image : (request : Asked) → made ≡ taken.Call request → BeginsImage old request new
      → NextByDumper old made new
  asks : (request : Asked) → made ≡ taken.Call request → AsksNext old request new → NextByDumper old made new
  freezes : made ≡ taken.Step reply.Worked → Freezes old new → NextByDumper old made new
  visits : made ≡ taken.Step reply.Worked → VisitsPage old new → NextByDumper old made new
  copies : made ≡ taken.Step reply.Worked → CopiesSector old new → NextByDumper old made new
  asks_page : (request : Asked) → made ≡ taken.Call request → AsksPageWrite old request new → NextByDumper old made new
  asks_table : (request : Asked) → made ≡ taken.Call request → AsksTableWrite old request new
      → NextByDumper old made new
  refused : (why : Refusal) → work_refusal old Dumper ≡ Some why → made ≡ taken.Step (reply.Refused why) → new ≡ old
      → NextByDumper old made new
  out_of_memory : work_refusal old Dumper ≡ None → made ≡ taken.Step (reply.Refused refusal.OutOfMemory) → new ≡ old
      → NextByDumper old made new

-- ---- the dumper's outcomes

-- What an outcome of the dumper begins with: the request that is out in a lane, and the image in the making.
pub record HandsIt (old : CoreView) (made : Made) : Type 0 where
  pub lane : ℕ
  pub out : slice_get old.outs lane ≡ Some (Some made.request.id)
  pub whose : made.request.id.worker ≡ Dumper
  pub phase : Phase
  pub phase_is : slice_get old.phases made.request.id.slot ≡ Some phase
  pub running : Running
  pub was : old.dumper.running ≡ Some running
  pub image : Making
  pub making : running.image ≡ Some image

-- The image goes on with its plan, or one of its pages is written. A slot that was being closed is closed for sure
-- after a sync, and its image leaves the catalog.
pub record ImageGoesOn (old : CoreView) (made : Made) (new : CoreView) : Type 0 where
  pub it : HandsIt old made
  pub next : Making
  pub goes : PlanGoesOn it.image made next ⊎ IsWritten it.image made next
  pub places : Places
  pub leaves : LeavesCatalog (closes_for_sure it.phase made.request.id.call) made.request.id.slot old.catalog places
  pub new_is : new ≡ with_outcome it.lane made it.phase (record old {
    catalog = places;
    dumper = record {
      running = Some (record it.running { image = Some next });
      since_freeze = counted_by_outcome old Dumper;
    };
  })

-- an image as the catalog has it
abbrev pub entered : NewImage → Opened
entered image = record { slot = image.slot; header = image.header; spaces = image.table }

-- A pre-dump is open, and enters the catalog: the next image names it.
pub record PreDumpOpens (old : CoreView) (made : Made) (new : CoreView) : Type 0 where
  pub it : HandsIt old made
  pub image : NewImage
  pub opens : OpensMade it.image made image
  pub more : is_last it.running ≡ false
  pub places : Places
  pub enters : Changes old.catalog places image.header.serial (Some (Some (entered image)))
  pub new_is : new ≡ with_outcome it.lane made it.phase (record old {
    catalog = places;
    dumper = record { running = Some (after_pre_dump it.running image); since_freeze = counted_by_outcome old Dumper };
  })

-- The dump is open, and enters the catalog: the checkpoint is acknowledged, and the next one goes on from it.
pub record Acknowledges (old : CoreView) (made : Made) (n : ℕ) (new : CoreView) : Type 0 where
  pub it : HandsIt old made
  pub number : n ≡ it.running.number
  pub image : NewImage
  pub opens : OpensMade it.image made image
  pub dump : is_last it.running ≡ true
  pub places : Places
  pub enters : Changes old.catalog places image.header.serial (Some (Some (entered image)))
  pub new_is : new ≡ with_entry (entry.Acked n) (with_outcome it.lane made it.phase (record old {
    held = 0;
    catalog = places;
    dumper = record { running = None; since_freeze = counted_by_outcome old Dumper };
    grows = true;
    committing = false;
  }))

-- A call failed, in this lane, on a slot in this phase: the store is down, and all jobs end. A pending checkpoint stays
-- pending.
pub record GoesDown (old : CoreView) (made : Made) (lane : ℕ) (phase : Phase) (since : ℕ)
    (new : CoreView) : Type 0 where
  pub failed : is_done made.answer ≡ false
  pub new_is : new ≡ with_held (with_outcome lane made phase (record old {
    standing = standing.Down;
    dumper = record { running = None; since_freeze = since };
    merger = None;
  }))

pub data NextByDumpersOutcome (old : CoreView) (made : Made) (answer : Reply) (new : CoreView) : Type 0 where
  goes_on : answer ≡ reply.Worked → ImageGoesOn old made new → NextByDumpersOutcome old made answer new
  opens : answer ≡ reply.Worked → PreDumpOpens old made new → NextByDumpersOutcome old made answer new
  acknowledges : (n : ℕ) → answer ≡ reply.Acked n → Acknowledges old made n new
      → NextByDumpersOutcome old made answer new
  goes_down : answer ≡ reply.Refused refusal.StoreDown → (it : HandsIt old made)
      → GoesDown old made it.lane it.phase (counted_by_outcome old Dumper) new
      → NextByDumpersOutcome old made answer new

-- ---- the merger's steps

-- The merged image begins: it gets the next serial, whose place in the catalog is held, and its slot is formatted.
pub record BeginsMerged (old : CoreView) (request : Asked) (new : CoreView) : Type 0 where
  pub may : work_refusal old Merger ≡ None
  pub merge : merger.Running
  pub was : old.merger ≡ Some merge
  pub none : merge.doing ≡ due
  pub phase : Phase
  pub phase_is : slice_get old.phases merge.slot ≡ Some phase
  pub places : Places
  pub held : Changes old.catalog places (old.numbers.serial + 1) (Some None)
  pub next : Copying
  pub steps : StepsCopy old.numbers.ticket places
      (begun_copy (merger.order_of merge (old.numbers.serial + 1) (state_of phase))) (merge_step.Call request) next
  pub new_is : new ≡ with_request true 1 request
      (record old { catalog = places; merger = Some (record merge { doing = copying next }) })

-- What a step of the merged image, or on an image that is being closed, begins with.
pub record StepsMerge (old : CoreView) (step : MergeStep) : Type 0 where
  pub may : work_refusal old Merger ≡ None
  pub merge : merger.Running
  pub was : old.merger ≡ Some merge
  pub next : merger.Doing
  pub steps : StepsAt old.numbers.ticket old.catalog merge merge.doing step next

abbrev pub with_doing : merger.Running → merger.Doing → CoreView → CoreView
with_doing merge doing core = record core { merger = Some (record merge { doing = doing }) }

-- Its next call is asked for. A read of the source is in a slot that the checkpoint doesn't fill.
pub record AsksMerge (old : CoreView) (step : MergeStep) (request : Asked) (new : CoreView) : Type 0 where
  pub it : StepsMerge old step
  pub new_is : new ≡ with_request false 1 request (with_doing it.merge it.next old)

-- A page of zeros is taken.
pub record TakesZeros (old new : CoreView) : Type 0 where
  pub it : StepsMerge old merge_step.Zero
  pub new_is : new ≡ with_doing it.merge it.next old

-- The source isn't there to be read: nothing changes; or the slot of what is read isn't spared, and the merge ends.
pub record LosesSource (old new : CoreView) : Type 0 where
  pub may : work_refusal old Merger ≡ None
  pub lost : Loses old.catalog old.merger
  pub new_is : new ≡ old

pub record ReadsAstray (old new : CoreView) : Type 0 where
  pub request : Asked
  pub it : StepsMerge old (merge_step.ReadCall request)
  pub astray : MayRead old.dumper.running (length old.phases) request.id.slot → ⊥
  pub new_is : new ≡ record old { merger = None }

pub data NextByMerger (old : CoreView) (made : Taken) (new : CoreView) : Type 0 where
  begins_image : (request : Asked) → made ≡ taken.Call request → BeginsMerged old request new
      → NextByMerger old made new
  asks : (request : Asked) → made ≡ taken.Call request → AsksMerge old (merge_step.Call request) request new
      → NextByMerger old made new
  reads : (request : Asked) → made ≡ taken.Call request → AsksMerge old (merge_step.ReadCall request) request new
      → MayRead old.dumper.running (length old.phases) request.id.slot → NextByMerger old made new
  writes : (request : Asked) → made ≡ taken.Call request → AsksMerge old (merge_step.PageCall request) request new
      → NextByMerger old made new
  writes_table : (request : Asked) → made ≡ taken.Call request
      → AsksMerge old (merge_step.TableCall request) request new → NextByMerger old made new
  takes_zeros : made ≡ taken.Step reply.Worked → TakesZeros old new → NextByMerger old made new
  lost : made ≡ taken.Step (reply.Refused refusal.Damaged) → LosesSource old new → NextByMerger old made new
  astray : made ≡ taken.Step (reply.Refused refusal.Damaged) → ReadsAstray old new → NextByMerger old made new
  refused : (why : Refusal) → work_refusal old Merger ≡ Some why → made ≡ taken.Step (reply.Refused why) → new ≡ old
      → NextByMerger old made new
  out_of_memory : work_refusal old Merger ≡ None → made ≡ taken.Step (reply.Refused refusal.OutOfMemory) → new ≡ old
      → NextByMerger old made new

-- ---- the merger's outcomes

-- What an outcome of the merger begins with.
pub record HandsMerge (old : CoreView) (made : Made) : Type 0 where
  pub out : slice_get old.outs 1 ≡ Some (Some made.request.id)
  pub whose : made.request.id.worker ≡ Merger
  pub phase : Phase
  pub phase_is : slice_get old.phases made.request.id.slot ≡ Some phase
  pub merge : merger.Running
  pub was : old.merger ≡ Some merge

-- The merged image goes on, or the image that is being closed does, or the next one is begun.
pub record MergeGoesOn (old : CoreView) (made : Made) (new : CoreView) : Type 0 where
  pub it : HandsMerge old made
  pub next : merger.Doing
  pub progress : MergeProgress
  pub more : IsMore progress
  pub hands : merger.HandsAt it.merge.doing made progress next
  pub places : Places
  pub leaves : LeavesCatalog (closes_for_sure it.phase made.request.id.call) made.request.id.slot old.catalog places
  pub new_is : new ≡ with_outcome 1 made it.phase (with_doing it.merge next (record old { catalog = places }))

-- The merged image is open, and enters the catalog: the list of the images to close is fixed, of those that were there
-- as the merge began and that nobody needs. Where there are none the merge has ended.
pub record MergedOpens (old : CoreView) (made : Made) (done : MergeProgress) (new : CoreView) : Type 0 where
  pub it : HandsMerge old made
  pub copied : Copying
  pub doing : it.merge.doing ≡ copying copied
  pub image : NewImage
  pub opens : OpensCopy copied made image
  pub places : Places
  pub enters : Changes old.catalog places image.header.serial (Some (Some (entered image)))
  pub list : List Retired
  pub is_list : IsListOf places old.dumper.running (Some (record it.merge { doing = opened image.header.serial }))
      (slice_set old.outs 1 None) (length old.phases) list
  pub rest : Option merger.Running
  pub takes : TakesList (Some (record it.merge { doing = opened image.header.serial })) list done rest
  pub new_is : new ≡ with_outcome 1 made it.phase (record old { catalog = places; merger = rest })

-- The last image of the list is closed: the merge has ended.
pub record MergeEnds (old : CoreView) (made : Made) (serial : ℕ) (new : CoreView) : Type 0 where
  pub it : HandsMerge old made
  pub r : Retiring
  pub doing : it.merge.doing ≡ retiring r
  pub hands : HandsClosing r made (progress.Merged serial) r
  pub places : Places
  pub leaves : LeavesCatalog (closes_for_sure it.phase made.request.id.call) made.request.id.slot old.catalog places
  pub new_is : new ≡ with_outcome 1 made it.phase (record old { catalog = places; merger = None })

pub data NextByMergersOutcome (old : CoreView) (made : Made) (answer : Reply) (new : CoreView) : Type 0 where
  goes_on : answer ≡ reply.Worked → MergeGoesOn old made new → NextByMergersOutcome old made answer new
  opens : answer ≡ reply.Worked → MergedOpens old made progress.More new → NextByMergersOutcome old made answer new
  opens_last : (serial : ℕ) → answer ≡ reply.Merged serial → MergedOpens old made (progress.Merged serial) new
      → NextByMergersOutcome old made answer new
  ends : (serial : ℕ) → answer ≡ reply.Merged serial → MergeEnds old made serial new
      → NextByMergersOutcome old made answer new
  goes_down : answer ≡ reply.Refused refusal.StoreDown → (it : HandsMerge old made)
      → GoesDown old made 1 it.phase old.dumper.since_freeze new
      → NextByMergersOutcome old made answer new

-- ---- the opener

-- What a step of the opener begins with.
pub record StepsOpener (old : CoreView) (step : OpenerStep) : Type 0 where
  pub may : work_refusal old Opener ≡ None
  pub after : Option Looking
  pub works : WorksOpener old.opener old.numbers.ticket step after

-- Its next call is asked for.
pub record AsksOpener (old : CoreView) (request : Asked) (new : CoreView) : Type 0 where
  pub it : StepsOpener old (opener_step.Call request)
  pub new_is : new ≡ with_request false 2 request (record old { opener = it.after })

-- An open slot is decoded.
pub record DecodesSlot (old new : CoreView) : Type 0 where
  pub it : StepsOpener old opener_step.Decoded
  pub new_is : new ≡ record old { opener = it.after }

-- A slot is damaged: the opener ends, and the store stays as it was.
pub record RefusesStore (old : CoreView) (step : OpenerStep) (new : CoreView) : Type 0 where
  pub it : StepsOpener old step
  pub new_is : new ≡ with_held (record old { opener = None })

-- The store shows the last checkpoint or the one that is awaited: it is open, and its catalog and phases are those that
-- were read.
pub record OpensStore (old : CoreView) (found : Option ℕ) (new : CoreView) : Type 0 where
  pub looking : Looking
  pub is : old.opener ≡ Some looking
  pub read : OpenedStore
  pub reads : OpensAnew looking (last old.base (history_of old)) (awaited_checkpoint old) read found
  pub numbers : Numbers
  pub finds : FindsNumbers old.numbers read.catalog numbers
  pub new_is : new ≡ with_entry (entry.Reopened found) (record old {
    held = 0;
    standing = standing.Open;
    phases = read.phases.items;
    catalog = read.catalog;
    opener = None;
    numbers = numbers;
    grows = false;
    committing = false;
  })

-- The files that it saw are none that this run's store may have: the opener ends, and the store stays as it was.
pub record FindsStrangeStore (old new : CoreView) : Type 0 where
  pub looking : Looking
  pub is : old.opener ≡ Some looking
  pub strange : SawStrange looking (last old.base (history_of old)) (awaited_checkpoint old)
  pub damage : SawDamage looking (last old.base (history_of old)) (awaited_checkpoint old)
  pub new_is : new ≡ with_held (record old { opener = None })

-- once every slot was read
pub data NextOnceRead (old : CoreView) (answer : Reply) (new : CoreView) : Type 0 where
  opens : (found : Option ℕ) → answer ≡ reply.Reopened found → OpensStore old found new → NextOnceRead old answer new
  strange : answer ≡ reply.Refused refusal.Damaged → FindsStrangeStore old new → NextOnceRead old answer new

pub data NextByOpener (old : CoreView) (made : Taken) (new : CoreView) : Type 0 where
  asks : (request : Asked) → made ≡ taken.Call request → AsksOpener old request new → NextByOpener old made new
  decodes : made ≡ taken.Step reply.Worked → DecodesSlot old new → NextByOpener old made new
  damaged : (slot : ℕ) (reason : Reason) → made ≡ taken.Step (reply.Refused refusal.Damaged)
      → RefusesStore old (opener_step.Damaged slot reason) new → NextByOpener old made new
  reads_all : (answer : Reply) → made ≡ taken.Step answer → StepsOpener old opener_step.AllRead
      → NextOnceRead old answer new → NextByOpener old made new
  refused : (why : Refusal) → work_refusal old Opener ≡ Some why → made ≡ taken.Step (reply.Refused why) → new ≡ old
      → NextByOpener old made new
  out_of_memory : work_refusal old Opener ≡ None → made ≡ taken.Step (reply.Refused refusal.OutOfMemory) → new ≡ old
      → NextByOpener old made new

-- What an outcome of the opener begins with.
pub record HandsOpener (old : CoreView) (made : Made) : Type 0 where
  pub out : slice_get old.outs 2 ≡ Some (Some made.request.id)
  pub whose : made.request.id.worker ≡ Opener
  pub phase : Phase
  pub phase_is : slice_get old.phases made.request.id.slot ≡ Some phase

-- It learns what its call said; or the call failed, and the opener ends.
pub record LearnsSlot (old : CoreView) (made : Made) (new : CoreView) : Type 0 where
  pub it : HandsOpener old made
  pub after : Option Looking
  pub teaches : TeachesOpener old.opener made true after
  pub new_is : new ≡ with_outcome 2 made it.phase (record old { opener = after })

pub record FailsToOpen (old : CoreView) (made : Made) (new : CoreView) : Type 0 where
  pub it : HandsOpener old made
  pub fails : IsDoneAsAsked made → ⊥
  pub new_is : new ≡ with_held (with_outcome 2 made it.phase (record old { opener = None }))

pub data NextByOpenersOutcome (old : CoreView) (made : Made) (answer : Reply) (new : CoreView) : Type 0 where
  learns : answer ≡ reply.Worked → LearnsSlot old made new → NextByOpenersOutcome old made answer new
  fails : answer ≡ reply.Refused refusal.StoreDown → FailsToOpen old made new
      → NextByOpenersOutcome old made answer new

-- ---- an outcome, whoever's it is

-- Its job had ended, since the store went down.
pub record ComesLate (old : CoreView) (made : Made) (new : CoreView) : Type 0 where
  pub lane : ℕ
  pub out : slice_get old.outs lane ≡ Some (Some made.request.id)
  pub idle : is_idle old made.request.id.worker ≡ true
  pub phase : Phase
  pub phase_is : slice_get old.phases made.request.id.slot ≡ Some phase
  pub new_is : new ≡ with_outcome lane made phase old

pub data NextByOutcome (old : CoreView) (made : Made) (answer : Reply) (new : CoreView) : Type 0 where
  of_dumper : NextByDumpersOutcome old made answer new → NextByOutcome old made answer new
  of_merger : NextByMergersOutcome old made answer new → NextByOutcome old made answer new
  of_opener : NextByOpenersOutcome old made answer new → NextByOutcome old made answer new
  late : answer ≡ reply.Refused refusal.StoreDown → ComesLate old made new → NextByOutcome old made answer new
  strange : (IsOut old made.request.id → ⊥) → IsRefused refusal.Idle old answer new → NextByOutcome old made answer new

-- a step of a worker, or the taking up of its call
abbrev pub NextByWork : Worker → CoreView → Taken → CoreView → Type 0
NextByWork Dumper old made new = NextByDumper old made new
NextByWork Merger old made new = NextByMerger old made new
NextByWork Opener old made new = NextByOpener old made new

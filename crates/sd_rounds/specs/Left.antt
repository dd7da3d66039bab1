-- How many steps and outcomes a checkpoint has still before it, at most.
use Rattle.std.specs.Prelude.{◌≡◌, ◌↔◌, ℕ, ◌+◌, ◌*◌, ◌-◌, ◌/◌, ◌<◌, false, List, length, map, Option, Some, None}
use Rattle.std.specs.List.{count_by, flat_map}
use Rattle.std.specs.FinMap as finmap
use Rattle.sd_areas.specs.PlainMemory.{PlainMemory, Space}
use Rattle.sd_gate.specs.declared.slot_state.SlotState.{SlotState}
use Rattle.sd_gate.specs.PlanUse.{plan_left}
use Rattle.sd_gate.specs.Requests.{Made}
use Rattle.sd_pagetable.specs.Contents.{Contents, plain_of}
use Rattle.sd_pagetable.specs.Order.{is_above}
use Rattle.sd_rounds.specs.declared.image_step.ImageStep.{ImageStep}
use Rattle.sd_rounds.specs.declared.progress.Progress.{Progress}
use Rattle.sd_rounds.specs.declared.stage.Stage.{Stage}
use Rattle.sd_rounds.specs.declared.stage.Stage.TheVariants.{Format, Freeze, Pass as PassStage, Close}
use Rattle.sd_rounds.specs.Dumper.{Dumping, Hands, Running, Works, is_strange}
use Rattle.sd_rounds.specs.Making.{Making}
use Rattle.sd_rounds.specs.Pass.{Pass, Taking}
use Rattle.sd_writing.specs.Entries.{Place}
use Rattle.sd_rounds.specs.Writes.{writes_out}

-- the pages of a space
abbrev pub space_places : ℕ × Space → List Place
space_places e = map (λ page. (e.0, page)) (finmap.keys e.1)

-- the mapped pages, by space and then by page
unfoldable pub mapped_places : PlainMemory → List Place
mapped_places memory = flat_map space_places (finmap.entries memory)

-- how many pages are mapped ahead of the cursor
unfoldable pub pages_ahead : Option Place → PlainMemory → ℕ
pages_ahead after memory = count_by (λ at. is_above after at.0 at.1) (mapped_places memory)

-- a page that is being taken: the sectors that aren't copied yet, the request for its write, and the outcome
abbrev pub taking_left : Option Taking → ℕ
taking_left None = 0
taking_left (Some taking) = (8 - length taking.copied / 512) + 2

-- each page ahead is visited, copied in eight sectors, and written by a request with an outcome
abbrev pub pass_left : Pass → PlainMemory → ℕ
pass_left pass memory = 11 * pages_ahead pass.after memory + taking_left pass.taking

-- an image whose pass, with the writes that are out, has so much before it: after the format comes the freeze, and
-- after the pass five calls close the body
abbrev pub stage_left : Stage → ℕ → ℕ
stage_left (Format plan) pass = plan_left plan + 1 + pass + 10
stage_left Freeze pass = 1 + pass + 10
stage_left PassStage pass = pass + 10
stage_left (Close plan header tables) pass = plan_left plan

abbrev pub image_left : Making → PlainMemory → ℕ
image_left image memory = stage_left image.stage (pass_left image.pass memory + writes_out image.writes)

-- an image that hasn't begun: three calls at most format its slot, and all pages are ahead
abbrev pub next_left : PlainMemory → ℕ
next_left memory = 6 + 1 + 11 * pages_ahead None memory + 10

abbrev pub making_left : Option Making → PlainMemory → ℕ
making_left None memory = next_left memory
making_left (Some image) memory = image_left image memory

-- the image that is being made or is next, those after it, and the end
abbrev pub running_left : Running → PlainMemory → ℕ
running_left running memory =
    making_left running.image memory + (length running.pre_dumps - running.opened) * next_left memory + 1

-- how many steps and outcomes a checkpoint has left at most, over this memory
abbrev pub left_of : Option Running → PlainMemory → ℕ
left_of None memory = 0
left_of (Some running) memory = running_left running memory

-- It is 0 exactly while the dumper is idle; each step lowers it, and so does each outcome of a request that was out.
pub record LeftLaws : Type 0 where
  pub idle : (running : Option Running) (memory : PlainMemory) → left_of running memory ≡ 0 ↔ running ≡ None
  pub works : (serial : ℕ) (state : SlotState) (ticket : ℕ) (old : Dumping) (before : Contents) (step : ImageStep)
      (new : Dumping) (after : Contents)
      → Works serial state ticket old before step new after
      → left_of new.running (plain_of after) < left_of old.running (plain_of before)
  pub hands : (old : Dumping) (made : Made) (progress : Progress) (new : Dumping) (memory : PlainMemory)
      → Hands old made progress new → is_strange progress ≡ false
      → left_of new.running memory < left_of old.running memory

-- How many steps and outcomes a merge has before it, at most.
use Rattle.std.specs.Prelude.{◌≡◌, ◌↔◌, ℕ, ◌+◌, ◌*◌, ◌-◌, ◌<◌, ◌≤◌, false, List, length, Option, Some, None}
use Rattle.sd_chain.specs.Catalog.{Places}
use Rattle.sd_gate.specs.declared.slot_state.SlotState.{SlotState}
use Rattle.sd_gate.specs.Requests.{Made}
use Rattle.sd_gate.specs.PlanUse.{plan_left}
use Rattle.sd_merge.specs.declared.merge_progress.MergeProgress.{MergeProgress}
use Rattle.sd_merge.specs.declared.merge_step.MergeStep.{MergeStep}
use Rattle.sd_merge.specs.declared.retired.Retired.{Retired}
use Rattle.sd_merge.specs.declared.stage.Stage.{Stage}
use Rattle.sd_merge.specs.declared.stage.Stage.TheVariants.{Format, Pass as PassStage, PageRead, PageWrite, Close}
use Rattle.sd_merge.specs.Copying.{Copying, is_taking}
use Rattle.sd_merge.specs.Sources.{few_pages}
use Rattle.sd_merge.specs.Merger.{AreRunning, Doing, Hands, TakesList, Retiring, Running, Works, due, copying, opened}
use Rattle.sd_merge.specs.Merger.{retiring, is_strange}

-- what the pages that are ahead, the one that is being taken, and the five calls that close the body come to: a page is
-- read by a request with an outcome, and written by another
abbrev pub body_left : ℕ → ℕ → ℕ
body_left taking pages = 2 * taking + 4 * pages + 10

abbrev pub stage_left : Stage → ℕ → ℕ → ℕ
stage_left (Format plan) taking pages = plan_left plan + body_left taking pages
stage_left PassStage taking pages = body_left taking pages
stage_left (PageRead plan) taking pages = plan_left plan + body_left taking pages
stage_left (PageWrite plan) taking pages = plan_left plan + body_left taking pages
stage_left (Close plan header tables) taking pages = plan_left plan

abbrev pub copy_left : Copying → ℕ
copy_left copy = stage_left copy.stage (is_taking copy.taking) copy.ahead

-- three calls close an image of the list
abbrev pub retiring_left : Retiring → ℕ
retiring_left r = plan_left r.plan + 6 * (length r.list - (r.ended + 1))

-- an image that hasn't begun is formatted in three calls at most, and the list has at most the images that were there
abbrev pub doing_left : Running → Doing → ℕ
doing_left running due = 16 + 4 * few_pages running.source.pages + (6 * length running.before + 1)
doing_left running (copying copy) = copy_left copy + (6 * length running.before + 1)
doing_left running (opened serial) = 6 * length running.before + 1
doing_left running (retiring r) = retiring_left r

abbrev pub running_left : Running → ℕ
running_left running = doing_left running running.doing

-- how many steps and outcomes a merge has left at most
abbrev pub left_of : Option Running → ℕ
left_of None = 0
left_of (Some running) = running_left running

-- It is 0 exactly while the merger is idle; each step lowers it, and so does each outcome of a request that was out. So
-- does a list of no more images than were there as the merge began.
pub record LeftLaws : Type 0 where
  pub idle : (running : Option Running) → AreRunning running → left_of running ≡ 0 ↔ running ≡ None
  pub works : (serial : ℕ) (state : SlotState) (ticket : ℕ) (places : Places) (old : Option Running) (step : MergeStep)
      (new : Option Running)
      → Works serial state ticket places old step new → left_of new < left_of old
  pub hands : (old : Option Running) (made : Made) (done : MergeProgress) (new : Option Running)
      → Hands old made done new → is_strange done ≡ false
      → AreRunning old → left_of new < left_of old
  pub retires : (running : Running) (list : List Retired) (done : MergeProgress) (new : Option Running)
      → TakesList (Some running) list done new → is_strange done ≡ false
      → length list ≤ length running.before → left_of new < left_of (Some running)

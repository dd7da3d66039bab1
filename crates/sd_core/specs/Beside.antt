-- What a call leaves beside the job that it is made for.
use Rattle.std.specs.Prelude.{◌≡◌, true, false}
use Rattle.sd_gate.specs.declared.worker.Worker.{Worker}
use Rattle.sd_gate.specs.declared.worker.Worker.TheVariants.{Dumper, Merger, Opener}
use Rattle.sd_gate.specs.Calls.{is_done}
use Rattle.sd_gate.specs.Requests.{Made}
use Rattle.sd_crash_safety.specs.View.{CoreView}
use Rattle.sd_core.specs.declared.taken.Taken.{Taken}
use Rattle.sd_core.specs.Counted.{counted_by_outcome, counted_by_step}
use Rattle.sd_core.specs.Kept.{KeepsImages, KeepsImagesOpen}
use Rattle.sd_core.specs.Noted.{KeepsMarks, NotesBy}
use Rattle.sd_core.specs.Refusals.{is_idle}

-- The jobs of the other workers are as they were, and so is the memory but for a call of the dumper: what is left of
-- them is the same.
abbrev pub LeavesOthers : Worker → CoreView → CoreView → Type 0
LeavesOthers Dumper old new = (new.merger ≡ old.merger) × (new.opener ≡ old.opener)
LeavesOthers Merger old new = (new.dumper ≡ old.dumper) × (new.opener ≡ old.opener) × (new.memory ≡ old.memory)
LeavesOthers Opener old new = (new.dumper ≡ old.dumper) × (new.merger ≡ old.merger) × (new.memory ≡ old.memory)

-- what an order to a worker leaves: the memory, the marks, the images, and how many outcomes were handed in since the
-- freeze
pub record OrdersBeside (worker : Worker) (old new : CoreView) : Type 0 where
  pub others : LeavesOthers worker old new
  pub memory : new.memory ≡ old.memory
  pub marks : KeepsMarks old new
  pub images : KeepsImages old new
  pub counted : new.dumper.since_freeze ≡ old.dumper.since_freeze

-- what a step of a worker, or the taking up of its call, does
pub record StepsBeside (worker : Worker) (old : CoreView) (made : Taken) (new : CoreView) : Type 0 where
  pub others : LeavesOthers worker old new
  pub notes : NotesBy worker old made new
  pub images : KeepsImagesOpen old made new
  pub counted : new.dumper.since_freeze ≡ counted_by_step old new

-- what an outcome does
pub record HandsBeside (made : Made) (old new : CoreView) : Type 0 where
  pub others : is_done made.answer ≡ true → LeavesOthers made.request.id.worker old new
  pub marks : KeepsMarks old new
  pub images : KeepsImages old new
  pub counted : is_idle old made.request.id.worker ≡ false
      → new.dumper.since_freeze ≡ counted_by_outcome old made.request.id.worker

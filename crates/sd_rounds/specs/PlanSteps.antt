-- What the functions of an image in the making promise one another.
use Rattle.std.specs.Prelude.{◌≡◌, ℕ, Bool, true, false, Option, Some, None}
use Rattle.sd_gate.specs.Requests.{Asked}
use Rattle.sd_rounds.specs.declared.image_step.ImageStep.{ImageStep}
use Rattle.sd_rounds.specs.declared.image_step.ImageStep.TheVariants.{Call, PageCall, TableCall, Frozen, Visited}
use Rattle.sd_rounds.specs.declared.image_step.ImageStep.TheVariants.{Copied}
use Rattle.sd_rounds.specs.declared.stage.Stage.{Stage}
use Rattle.sd_rounds.specs.declared.stage.Stage.TheVariants.{Format, Freeze, Pass as PassStage, Close}
use Rattle.sd_pagetable.specs.Contents.{Contents}
use Rattle.sd_pagetable.specs.Order.{IsNextPage}
use Rattle.sd_rounds.specs.declared.pass_step.PassStep.{PassStep}
use Rattle.sd_rounds.specs.declared.pass_step.PassStep.TheVariants.{Visited as PageVisited, Copied as SectorCopied}
use Rattle.sd_rounds.specs.Making.{Making}
use Rattle.sd_rounds.specs.Rounds.{IsCopying}

abbrev pub at_stage : Making → Stage → Making
at_stage making stage = record making { stage = stage }

-- it is a call of a plan, and its request is such
abbrev pub IsCallOf : (Asked → Type 0) → ImageStep → Type 0
IsCallOf P (Call request) = P request
IsCallOf P (PageCall lane request) = ⊥
IsCallOf P (TableCall request) = ⊥
IsCallOf P Frozen = ⊥
IsCallOf P (Visited visit) = ⊥
IsCallOf P (Copied copied) = ⊥

-- it is the write of a page
abbrev pub IsPageCallOf : (ℕ → Asked → Type 0) → ImageStep → Type 0
IsPageCallOf P (Call request) = ⊥
IsPageCallOf P (PageCall lane request) = P lane request
IsPageCallOf P (TableCall request) = ⊥
IsPageCallOf P Frozen = ⊥
IsPageCallOf P (Visited visit) = ⊥
IsPageCallOf P (Copied copied) = ⊥

-- it is the write of the table
abbrev pub IsTableCallOf : (Asked → Type 0) → ImageStep → Type 0
IsTableCallOf P (Call request) = ⊥
IsTableCallOf P (PageCall lane request) = ⊥
IsTableCallOf P (TableCall request) = P request
IsTableCallOf P Frozen = ⊥
IsTableCallOf P (Visited visit) = ⊥
IsTableCallOf P (Copied copied) = ⊥

-- the next step freezes the memory
abbrev pub is_freeze_next : Stage → Bool
is_freeze_next (Format plan) = false
is_freeze_next Freeze = true
is_freeze_next PassStage = false
is_freeze_next (Close plan header tables) = false

abbrev pub is_to_freeze : Option Making → Bool
is_to_freeze None = false
is_to_freeze (Some image) = is_freeze_next image.stage

-- a step of the pass, as one of an image
abbrev pub image_step : PassStep → ImageStep
image_step (PageVisited visit) = Visited visit
image_step (SectorCopied copied) = Copied copied

-- the next step visits no page and copies no sector
pub record HasNoPage (image : Making) (memory : Contents) : Type 0 where
  pub over : image.stage ≡ PassStage → image.pass.taking ≡ None → IsNextPage memory.spaces image.pass.after None
  pub whole : image.stage ≡ PassStage → IsCopying image.pass → ⊥

abbrev pub HaveNoPage : Option Making → Contents → Type 0
HaveNoPage None memory = Unit {0}
HaveNoPage (Some image) memory = HasNoPage image memory

-- Where a step may take memory.
use Rattle.std.specs.Prelude.{◌≡◌, ◌⊎◌, ◌||◌, false, length, Option, Some, None, IsSome}
use Rattle.sd_pagetable.specs.Page.{PageState}
use Rattle.sd_pagetable.specs.Contents.{Contents, page_at}
use Rattle.sd_pagetable.specs.Order.{IsNextPage}
use Rattle.sd_rounds.specs.declared.stage.Stage.TheVariants.{Pass as PassStage}
use Rattle.sd_rounds.specs.Dumper.{Running}
use Rattle.sd_rounds.specs.Making.{Making}
use Rattle.sd_rounds.specs.Pass.{Pass, Taking}
use Rattle.sd_writing.specs.Entries.{Place}

-- the next page is clean, and is left to the parent: it gets its entry
pub record LeavesNext (pass : Pass) (memory : Contents) : Type 0 where
  pub at : Place
  pub page : PageState
  pub next : IsNextPage memory.spaces pass.after (Some at)
  pub there : page_at memory at.0 at.1 ≡ Some page
  pub clean : (pass.takes_all || page.soft_dirty) ≡ false

-- A pass takes memory for a table, where there is no further page, and for the entry of a page that is left to the
-- parent; for a sector or the entry of a page that is being taken, while it is mapped or once all of it is copied.
abbrev pub TakesMemoryFor : Pass → Contents → Option Taking → Type 0
TakesMemoryFor pass memory None = IsNextPage memory.spaces pass.after None ⊎ LeavesNext pass memory
TakesMemoryFor pass memory (Some taking) =
    IsSome (page_at memory taking.place.0 taking.place.1) ⊎ (length taking.copied ≡ 4096)

abbrev pub PassTakesMemory : Pass → Contents → Type 0
PassTakesMemory pass memory = TakesMemoryFor pass memory pass.taking

-- an image takes memory in its pass alone
pub record ImageTakesMemory (image : Making) (memory : Contents) : Type 0 where
  pub stage : image.stage ≡ PassStage
  pub wants : PassTakesMemory image.pass memory

abbrev pub MakingTakesMemory : Option Making → Contents → Type 0
MakingTakesMemory None memory = ⊥
MakingTakesMemory (Some image) memory = ImageTakesMemory image memory

-- the next step of a checkpoint may take memory
abbrev pub StepTakesMemory : Option Running → Contents → Type 0
StepTakesMemory None memory = ⊥
StepTakesMemory (Some running) memory = MakingTakesMemory running.image memory

-- What the steps of an image keep.
use Rattle.std.specs.Prelude.{◌≡◌, ◌≢◌, ℕ, ◌<◌, true, [], ◌∷◌, ◌++◌, length}
use Rattle.std.specs.List.{AllByRecursion, concat}
use Rattle.sd_image.specs.Digests.{HasFed}
use Rattle.sd_gate.specs.Requests.{Made}
use Rattle.sd_pagetable.specs.Contents.{Contents, IsSound}
use Rattle.sd_pagetable.specs.Tracking.{MemoryEvent, Step}
use Rattle.sd_rounds.specs.declared.image_order.ImageOrder.{ImageOrder}
use Rattle.sd_writing.specs.declared.written.Written.TheVariants.{More}
use Rattle.sd_rounds.specs.declared.image_step.ImageStep.{ImageStep}
use Rattle.sd_rounds.specs.declared.image_step.ImageStep.TheVariants.{Call, PageCall, TableCall, Frozen, Visited}
use Rattle.sd_rounds.specs.declared.image_step.ImageStep.TheVariants.{Copied}
use Rattle.sd_rounds.specs.declared.stage.Stage.{Stage}
use Rattle.sd_rounds.specs.declared.stage.Stage.TheVariants.{Format, Freeze, Pass as PassStage, Close}
use Rattle.sd_rounds.specs.Dump.{IsDumped, IsDumping}
use Rattle.sd_rounds.specs.Keeps.{Chain, ChainWithin, Gave, IsCall, Keeps, Rests}
use Rattle.sd_writing.specs.Files.{Pages, listed_pages}
use Rattle.sd_rounds.specs.Making.{HandsIn, Making, Steps, begun_image, is_past_freeze}
use Rattle.sd_rounds.specs.Pass.{Pass}
use Rattle.sd_writing.specs.Entries.{data_pages}
use Rattle.sd_rounds.specs.Rises.{IsRising}

-- Of each clean page, what the image so far and the images below give are its bytes; once its table is written, what it
-- gives.
abbrev pub IsKeptIn : Stage → Pages → Chain → Pass → Contents → Type 0
IsKeptIn (Format plan) pages chain pass memory = Keeps (listed_pages pages) chain pass memory
IsKeptIn Freeze pages chain pass memory = Keeps (listed_pages pages) chain pass memory
IsKeptIn PassStage pages chain pass memory = Keeps (listed_pages pages) chain pass memory
IsKeptIn (Close plan header tables) pages chain pass memory = Gave (listed_pages pages) chain pass.entries memory

-- what an image in the making keeps of the pages that were copied for it
pub record KeepsImage (pages : Pages) (chain : Chain) (making : Making) (memory : Contents) : Type 0 where
  pub count : length pages ≡ data_pages making.pass.entries
  pub whole : AllByRecursion (λ page. length page ≡ 4096) pages
  pub digested : HasFed making.digester (concat pages)
  pub kept : IsKeptIn making.stage pages chain making.pass memory

-- The dump of a memory that was frozen as `cut`: each page is had in the right way, or will be.
abbrev pub IsDumpedIn : Stage → Contents → Pages → Chain → Pass → Contents → Type 0
IsDumpedIn (Format plan) cut pages chain pass memory = Unit {0}
IsDumpedIn Freeze cut pages chain pass memory = Unit {0}
IsDumpedIn PassStage cut pages chain pass memory = IsDumping cut pass memory
IsDumpedIn (Close plan header tables) cut pages chain pass memory = IsDumped (listed_pages pages) chain cut pass

-- an image in the making holds what the memory at the freeze had
abbrev pub DumpsImage : Contents → Pages → Chain → Making → Contents → Type 0
DumpsImage cut pages chain making memory = IsDumpedIn making.stage cut pages chain making.pass memory

-- the page whose write a step asks for is one more
abbrev pub pages_after : ImageStep → Pages → Pages
pages_after (Call request) pages = pages
pages_after (PageCall lane request) pages = pages ++ request.bytes ∷ []
pages_after (TableCall request) pages = pages
pages_after Frozen pages = pages
pages_after (Visited visit) pages = pages
pages_after (Copied copied) pages = pages

-- numbers that an image may have
pub record AreItsNumbers (order : ImageOrder) : Type 0 where
  pub serial : 0 < order.serial
  pub parent : order.parent < order.serial
  pub checkpoint : 0 < order.checkpoint

pub record MakingLaws : Type 0 where
  pub begins : (order : ImageOrder) (chain : Chain) (memory : Contents) → (order.parent ≢ 0 → Rests chain memory)
      → KeepsImage [] chain (begun_image order) memory
  pub steps : (ticket : ℕ) (pages : Pages) (chain : Chain) (old new : Making) (before after : Contents)
      (step : ImageStep) → Steps ticket old before step new after
      → KeepsImage pages chain old before → KeepsImage (pages_after step pages) chain new after
  pub hands : (pages : Pages) (chain : Chain) (old new : Making) (memory : Contents) (made : Made)
      → HandsIn old made More new
      → KeepsImage pages chain old memory → KeepsImage pages chain new memory
  -- whatever is called on the memory, and while images below are merged or closed
  pub calls : (pages : Pages) (one other : Chain) (making : Making) (old new : Contents) (event : MemoryEvent)
      → IsSound old
      → Step old event new → IsCall event → ChainWithin one other
      → KeepsImage pages one making old → KeepsImage pages other making new
  -- images below are merged or closed while the memory stays
  pub agrees : (pages : Pages) (one other : Chain) (making : Making) (memory : Contents) → ChainWithin one other
      → KeepsImage pages one making memory → KeepsImage pages other making memory
  pub agrees_dump : (cut : Contents) (pages : Pages) (one other : Chain) (making : Making) (memory : Contents)
      → ChainWithin one other
      → DumpsImage cut pages one making memory → DumpsImage cut pages other making memory
  pub freezes : (ticket : ℕ) (pages : Pages) (chain : Chain) (old new : Making) (before after : Contents)
      → Steps ticket old before Frozen new after
      → DumpsImage before pages chain new after
  pub dumps : (ticket : ℕ) (cut : Contents) (pages : Pages) (chain : Chain) (old new : Making) (before after : Contents)
      (step : ImageStep) → Steps ticket old before step new after
      → is_past_freeze old.stage ≡ true → IsRising old.pass → KeepsImage pages chain old before
      → DumpsImage cut pages chain old before → DumpsImage cut (pages_after step pages) chain new after
  pub hands_dump : (cut : Contents) (pages : Pages) (chain : Chain) (old new : Making) (memory : Contents) (made : Made)
      → HandsIn old made More new
      → is_past_freeze old.stage ≡ true → DumpsImage cut pages chain old memory → DumpsImage cut pages chain new memory

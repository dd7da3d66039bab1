-- Which pages an image takes, whatever its file holds.
use Rattle.std.specs.Prelude.{◌≡◌, ◌↔◌, ℕ, Bool, true, List, [], length, take, Contains, Some}
use Rattle.sd_image.specs.declared.header.Kind.TheVariants.{PreDump}
use Rattle.sd_image.specs.declared.run.RunKind.{RunKind}
use Rattle.sd_image.specs.declared.run.RunKind.TheVariants.{Data, Parent, Zero}
use Rattle.sd_image.specs.Shows.{pages_of}
use Rattle.sd_image.specs.Table.{Listed}
use Rattle.sd_gate.specs.Requests.{Made}
use Rattle.sd_pagetable.specs.Contents.{Contents, page_at}
use Rattle.sd_pagetable.specs.Page.{PageState}
use Rattle.sd_rounds.specs.declared.image_order.ImageOrder.{ImageOrder}
use Rattle.sd_writing.specs.declared.written.Written.TheVariants.{More}
use Rattle.sd_rounds.specs.declared.image_step.ImageStep.{ImageStep}
use Rattle.sd_rounds.specs.declared.image_step.ImageStep.TheVariants.{Frozen}
use Rattle.sd_writing.specs.declared.new_image.NewImage.{NewImage}
use Rattle.sd_rounds.specs.declared.stage.Stage.{Stage}
use Rattle.sd_rounds.specs.declared.stage.Stage.TheVariants.{Format, Freeze, Pass as PassStage, Close}
use Rattle.sd_rounds.specs.Dump.{IsDumping, right_kind}
use Rattle.sd_rounds.specs.ImageVisits.{visits_after}
use Rattle.sd_writing.specs.Entries.{Lists, ImageEntry, Place}
use Rattle.sd_rounds.specs.Making.{HandsIn, Making, Opens, Steps, begun_image, is_past_freeze}
use Rattle.sd_rounds.specs.Pass.{Pass, Taking}
use Rattle.sd_rounds.specs.Rises.{IsRising, kind_at}
use Rattle.sd_rounds.specs.Visits.{IsPassOf, Visit, left_pages, taken_pages}

-- ---- the dump of a frozen memory

-- what was copied of a page is the front of its bytes at the freeze
pub record IsFrontOf (page : PageState) (copied : List ℕ) : Type 0 where
  pub front : copied ≡ take (length copied) page.bytes
  pub full : length copied ≡ 4096 → copied ≡ page.bytes

-- Each page that was passed has its entry in the right way, and of the one that is being taken the front was
-- copied.
pub record IsTaking (cut : Contents) (pass : Pass) (memory : Contents) : Type 0 where
  pub dumping : IsDumping cut pass memory
  pub copied : (taking : Taking) (page : PageState) → pass.taking ≡ Some taking
      → page_at cut taking.place.0 taking.place.1 ≡ Some page
      → IsFrontOf page taking.copied

-- the entries are exactly the pages of the memory at the freeze, each in the right way
abbrev pub HasWays : Contents → Pass → Type 0
HasWays cut pass = (at : Place) → kind_at pass.entries at ≡ right_kind pass.takes_all (page_at cut at.0 at.1)

abbrev pub TakesAsItMustIn : Stage → Contents → Pass → Contents → Type 0
TakesAsItMustIn (Format plan) cut pass memory = Unit {0}
TakesAsItMustIn Freeze cut pass memory = Unit {0}
TakesAsItMustIn PassStage cut pass memory = IsTaking cut pass memory
TakesAsItMustIn (Close plan header tables) cut pass memory = HasWays cut pass × Lists pass.entries tables

-- the dump of a memory that was frozen as `cut` has each page of it in the right way
abbrev pub TakesAsItMust : Contents → Making → Contents → Type 0
TakesAsItMust cut image memory = TakesAsItMustIn image.stage cut image.pass memory

-- ---- a pre-dump, by its visits

abbrev pub ListsIn : Stage → List ImageEntry → Type 0
ListsIn (Format plan) entries = Unit {0}
ListsIn Freeze entries = Unit {0}
ListsIn PassStage entries = Unit {0}
ListsIn (Close plan header tables) entries = Lists entries tables

-- an image leaves exactly the clean pages of its visits to its parent, and takes others of them alone
pub record TakesVisited (visits : List Visit) (image : Making) : Type 0 where
  pub pass : IsPassOf visits image.pass
  pub lists : ListsIn image.stage image.pass.entries

-- A table has the visited pages that were clean as the parent's, in their order, and its data and zero pages are among
-- the others.
pub record TookVisited (takes_all : Bool) (visits : List Visit) (table : List Listed) : Type 0 where
  pub parents : pages_of Parent table ≡ left_pages takes_all visits
  pub stored : (at : Place) → Contains (pages_of Data table) at → Contains (taken_pages takes_all visits) at
  pub zero : (at : Place) → Contains (pages_of Zero table) at → Contains (taken_pages takes_all visits) at

-- ---- what steps and outcomes leave of both

-- a dump has each page of the memory at the freeze in the right way, and a pre-dump those that its visits found
pub record LittleLaws : Type 0 where
  pub freezes : (ticket : ℕ) (old new : Making) (before after : Contents) → Steps ticket old before Frozen new after
      → TakesAsItMust before new after
  pub steps : (ticket : ℕ) (cut : Contents) (old new : Making) (before after : Contents) (step : ImageStep)
      → Steps ticket old before step new after
      → is_past_freeze old.stage ≡ true → IsRising old.pass → TakesAsItMust cut old before → TakesAsItMust cut new after
  pub hands : (cut : Contents) (old new : Making) (memory : Contents) (made : Made) → HandsIn old made More new
      → is_past_freeze old.stage ≡ true → TakesAsItMust cut old memory → TakesAsItMust cut new memory
  -- the table of a dump that is open has exactly the pages of the memory at the freeze, each in the right way
  pub opens : (cut : Contents) (old : Making) (made : Made) (opened : NewImage) (memory : Contents)
      → Opens old made opened → IsRising old.pass
      → TakesAsItMust cut old memory → (kind : RunKind) (at : Place)
      → Contains (pages_of kind opened.table) at ↔ right_kind old.pass.takes_all (page_at cut at.0 at.1) ≡ Some kind
  pub begins : (order : ImageOrder) → TakesVisited [] (begun_image order)
  pub visits : (ticket : ℕ) (visits : List Visit) (old new : Making) (before after : Contents) (step : ImageStep)
      → Steps ticket old before step new after
      → old.order.kind ≡ PreDump → TakesVisited visits old → TakesVisited (visits_after step visits) new
  pub goes_on : (visits : List Visit) (old new : Making) (made : Made) → HandsIn old made More new
      → TakesVisited visits old → TakesVisited visits new
  pub took : (visits : List Visit) (old : Making) (made : Made) (opened : NewImage) → Opens old made opened
      → TakesVisited visits old
      → TookVisited old.pass.takes_all visits opened.table

-- Little work: which pages an image has, by the marked journal.
use Rattle.std.specs.Prelude.{◌≡◌, ◌↔◌, ℕ, ◌+◌, ◌==◌, ◌||◌, Bool, true, if◌then◌else◌, List, [], ◌∷◌, ◌++◌, Contains}
use Rattle.std.specs.Prelude.{Option, Some, IfSome}
use Rattle.std.specs.Option.{option_map}
use Rattle.sd_areas.specs.PlainMemory as plain
use Rattle.sd_chain.specs.Catalog.{Opened}
use Rattle.sd_image.specs.declared.header.Kind.TheVariants.{PreDump}
use Rattle.sd_image.specs.declared.run.RunKind.{RunKind}
use Rattle.sd_image.specs.declared.run.RunKind.TheVariants.{Parent}
use Rattle.sd_image.specs.Shows.{pages_of}
use Rattle.sd_journal.specs.declared.mark.Mark.TheVariants.{Visit}
use Rattle.sd_journal.specs.History.{Base, at_freeze}
use Rattle.sd_journal.specs.Marked.{IsTracked, Marked, Noted, must_dump, memory_at}
use Rattle.sd_journal.specs.TrackedLaws.{before_freeze}
use Rattle.sd_pagetable.specs.Contents.{Contents}
use Rattle.sd_pagetable.specs.Nested.{value_at}
use Rattle.sd_rounds.specs.Dump.{kind_of_bytes}
use Rattle.sd_rounds.specs.Dumper.{Running, is_last}
use Rattle.sd_rounds.specs.LittleWork.{TakesAsItMust, TakesVisited, TookVisited}
use Rattle.sd_rounds.specs.Making.{Making, is_frozen_dump}
use Rattle.sd_writing.specs.Entries.{Place}
use Rattle.sd_rounds.specs.Visits as visits
use Rattle.sd_crash_safety.specs.View.{CoreView, history_of}
use Rattle.sd_core.specs.Images.{HasImage}
use Rattle.sd_core.specs.Visited.{IsClean, is_closing}

-- ---- the dump

-- How a dump is to have a page that is mapped at the freeze: where it has no parent, or where something since the
-- page's last visit touched it or it had no visit, as zeros or data, by its bytes; and else in its parent. No other
-- page.
abbrev pub right_way : Bool → Base → Marked → Place → Option RunKind
right_way whole base frozen at = option_map
    (λ (page : plain.Page). if whole || must_dump base frozen at.0 at.1 then kind_of_bytes page.bytes else Parent)
    (value_at (memory_at base frozen) at.0 at.1)

-- The dump's table has exactly the pages that were mapped at the freeze of this number, each in the right way by
-- what stood in the marked journal before.
pub record IsLittleDump (n : ℕ) (old new : CoreView) : Type 0 where
  pub running : Running
  pub was : old.dumper.running ≡ Some running
  pub last : is_last running ≡ true
  pub dump : Opened
  pub has : HasImage running new.catalog dump
  pub frozen : Marked
  pub before : before_freeze old.items n ≡ Some frozen
  -- what that makes is the memory at the freeze
  pub freeze : at_freeze old.base (history_of old) n ≡ Some (memory_at old.base frozen)
  pub ways : (kind : RunKind) (at : Place)
      → Contains (pages_of kind dump.spaces) at ↔ right_way (dump.header.parent == 0) old.base frozen at ≡ Some kind

-- ---- a pre-dump

-- The visits of an image, in their order, each with whether something since the page's visit before touched it, or it
-- had none.
abbrev pub visits_of : Base → Marked → ℕ → List visits.Visit
visits_of base [] serial = []
visits_of base (Noted (Visit s space page) ∷ earlier) serial =
    if s == serial then visits_of base earlier serial ++
    (record { place = (space, page); soft_dirty = must_dump base earlier space page }) ∷ []
    else visits_of base earlier serial
visits_of base (_ ∷ earlier) serial = visits_of base earlier serial

-- The pre-dump that was open last has as its parent's exactly the visited pages that weren't touched since their visit
-- before, and as data and zeros none but those that were; without a parent all visited pages are taken.
pub record IsLittlePreDump (running : Running) (old new : CoreView) : Type 0 where
  pub image : Opened
  pub has : HasImage running new.catalog image
  pub took : TookVisited (image.header.parent == 0) (visits_of old.base old.items image.header.serial) image.spaces

-- one pre-dump more of a checkpoint is open
pub record OpensPreDump (running : Running) (old new : CoreView) : Type 0 where
  pub was : old.dumper.running ≡ Some running
  pub next : Running
  pub is : new.dumper.running ≡ Some next
  pub one : next.opened ≡ running.opened + 1

-- ---- what holds of the image in the making

-- the memory was frozen for it, and of that it has so far the pages that must be dumped
pub record IsFrozenFor (base : Base) (items : Marked) (memory : Contents) (number : ℕ) (image : Making) : Type 0 where
  pub frozen : Marked
  pub before : before_freeze items number ≡ Some frozen
  pub cut : Contents
  pub tracked : IsTracked base frozen cut
  pub takes : TakesAsItMust cut image memory

pub record TakesLittle (base : Base) (items : Marked) (memory : Contents) (number : ℕ) (image : Making) : Type 0 where
  pub round : image.order.kind ≡ PreDump → TakesVisited (visits_of base items image.order.serial) image
  pub dump : is_frozen_dump image ≡ true → IsFrozenFor base items memory number image
  -- each page was visited by the time its table is written
  pub closed : is_frozen_dump image ≡ true → is_closing image.stage ≡ true → IsClean memory

abbrev pub HasLittle : Base → Marked → Contents → Running → Type 0
HasLittle base items memory running = IfSome running.image (TakesLittle base items memory running.number)

-- What an image in the making gives of a memory, with the images below it.
use Rattle.std.specs.Prelude.{◌≡◌, ℕ, ◌*◌, ◌<◌, true, false, List, length, take, Contains, slice_get, Some}
use Rattle.std.specs.Prelude.{None}
use Rattle.sd_image.specs.declared.run.RunKind.TheVariants.{Data, Parent, Zero}
use Rattle.sd_image.specs.Image.{Image}
use Rattle.sd_image.specs.Shows.{Holds, IsNamed}
use Rattle.sd_pagetable.specs.Page.{PageState, zeros}
use Rattle.sd_pagetable.specs.Contents.{Contents, IsSound, page_at}
use Rattle.sd_pagetable.specs.Order.{IsNextPage}
use Rattle.sd_pagetable.specs.PageLaw.{clean_at}
use Rattle.sd_pagetable.specs.Tracking.{MemoryEvent, Step, Cleared, clears}
use Rattle.sd_writing.specs.Entries.{Place, ImageEntry, pages_by, data_pages}
use Rattle.sd_rounds.specs.Pass.{Taking, Pass, IsTaken, has_passed, opened}
use Rattle.sd_rounds.specs.Pass.{visited}
use Rattle.sd_rounds.specs.Pass.{sector_of, copied_more, dropped, taken_as_zero, taken_as_data}
use Rattle.sd_writing.specs.Files.{Stored}

-- what the images below give at a page
abbrev pub Below : Type 1
Below = Place → List ℕ → Type 0

-- the open images of a store, and the number that an image in the making has as its parent (0 for none)
pub record Chain : Type 0 where
  pub images : List Image
  pub number : ℕ

-- what the image that the number names holds
abbrev pub below_of : Chain → Below
below_of chain at bytes = (i : Image) × IsNamed chain.images chain.number i × Holds chain.images at.0 at.1 bytes i

-- the entries give these bytes at a page
pub data EntriesGive (stored : Stored) (chain : Chain) (entries : List ImageEntry) (at : Place)
    (bytes : List ℕ) : Type 0 where
  by_data : (place : ℕ) → slice_get (pages_by Data entries) place ≡ Some at → stored place ≡ Some bytes
      → EntriesGive stored chain entries at bytes
  by_zero : Contains (pages_by Zero entries) at → bytes ≡ zeros → EntriesGive stored chain entries at bytes
  by_parent : Contains (pages_by Parent entries) at → below_of chain at bytes
      → EntriesGive stored chain entries at bytes

-- Of a page that is being taken the copied sectors are the front of its bytes, of any other that is passed the entries
-- give them, and of a page ahead the images below.
pub record PageIsHeld (stored : Stored) (chain : Chain) (pass : Pass) (at : Place) (bytes : List ℕ) : Type 0 where
  pub copied : (taking : Taking) → IsTaken pass at taking → taking.copied ≡ take (length taking.copied) bytes
  pub full : (taking : Taking) → IsTaken pass at taking → length taking.copied ≡ 4096 → taking.copied ≡ bytes
  pub passed : has_passed pass.after at ≡ true → ((taking : Taking) → IsTaken pass at taking → ⊥)
      → EntriesGive stored chain pass.entries at bytes
  pub ahead : has_passed pass.after at ≡ false → below_of chain at bytes

-- Each clean page is held; where the whole memory is taken, from its visit on.
abbrev pub Keeps : Stored → Chain → Pass → Contents → Type 0
Keeps stored chain pass memory = (space number : ℕ) (bytes : List ℕ) → clean_at memory space number ≡ Some bytes
    → (pass.takes_all ≡ true → has_passed pass.after (space, number) ≡ true)
    → PageIsHeld stored chain pass (space, number) bytes

-- Between the images of a checkpoint, and while none runs and none has to be whole: the chain gives each clean page.
abbrev pub Rests : Chain → Contents → Type 0
Rests chain memory = (space number : ℕ) (bytes : List ℕ) → clean_at memory space number ≡ Some bytes
    → below_of chain (space, number) bytes

-- once the pass is over: the entries give each clean page
abbrev pub Gave : Stored → Chain → List ImageEntry → Contents → Type 0
Gave stored chain entries memory = (space number : ℕ) (bytes : List ℕ) → clean_at memory space number ≡ Some bytes
    → EntriesGive stored chain entries (space, number) bytes

-- the data pages that entries name are the same
abbrev pub AgreeAt : List ImageEntry → Stored → Stored → Type 0
AgreeAt entries old new = (place : ℕ) → place < data_pages entries → new place ≡ old place

-- what one chain gives the other gives too
abbrev pub ChainWithin : Chain → Chain → Type 0
ChainWithin old new = (at : Place) (bytes : List ℕ) → below_of old at bytes → below_of new at bytes

-- the event clears no page
abbrev pub IsCall : MemoryEvent → Type 0
IsCall event = (space number : ℕ) → clears space number event ≡ false

-- What every step keeps.
pub record KeepsLaws : Type 0 where
  -- whatever is called on the memory
  pub calls : (stored : Stored) (chain : Chain) (pass : Pass) (old new : Contents) (event : MemoryEvent) → IsSound old
      → Step old event new → IsCall event
      → Keeps stored chain pass old → Keeps stored chain pass new
  pub opens : (stored : Stored) (chain : Chain) (memory : Contents) → Rests chain memory
      → Keeps stored chain (opened false) memory
  pub opens_whole : (stored : Stored) (chain : Chain) (memory : Contents) → Keeps stored chain (opened true) memory
  pub visits : (stored : Stored) (chain : Chain) (pass : Pass) (old new : Contents) (at : Place) (page : PageState)
      → pass.taking ≡ None
      → IsNextPage old.spaces pass.after (Some at) → page_at old at.0 at.1 ≡ Some page
      → Step old (Cleared at.0 at.1) new
      → Keeps stored chain pass old → Keeps stored chain (visited pass at page.soft_dirty) new
  pub copies : (stored : Stored) (chain : Chain) (pass : Pass) (memory : Contents) (taking : Taking) (page : PageState)
      (sector : ℕ) → pass.taking ≡ Some taking
      → page_at memory taking.place.0 taking.place.1 ≡ Some page → length page.bytes ≡ 4096 → sector < 8
      → length taking.copied ≡ 512 * sector
      → Keeps stored chain pass memory
      → Keeps stored chain (copied_more pass taking (sector_of page.bytes sector)) memory
  pub drops : (stored : Stored) (chain : Chain) (pass : Pass) (memory : Contents) (taking : Taking)
      → pass.taking ≡ Some taking
      → page_at memory taking.place.0 taking.place.1 ≡ None → Keeps stored chain pass memory
      → Keeps stored chain (dropped pass) memory
  pub zero : (stored : Stored) (chain : Chain) (pass : Pass) (memory : Contents) (taking : Taking)
      → pass.taking ≡ Some taking
      → taking.copied ≡ zeros → Keeps stored chain pass memory → Keeps stored chain (taken_as_zero pass taking) memory
  -- a page write is taken up: its bytes go to the next place
  pub writes : (old new : Stored) (chain : Chain) (pass : Pass) (memory : Contents) (taking : Taking)
      → pass.taking ≡ Some taking
      → length taking.copied ≡ 4096 → AgreeAt pass.entries old new → new (data_pages pass.entries) ≡ Some taking.copied
      → Keeps old chain pass memory → Keeps new chain (taken_as_data pass taking) memory
  -- other files change, and images below are merged or closed
  pub agrees : (old new : Stored) (one other : Chain) (pass : Pass) (memory : Contents) → AgreeAt pass.entries old new
      → ChainWithin one other
      → Keeps old one pass memory → Keeps new other pass memory
  pub ends : (stored : Stored) (chain : Chain) (pass : Pass) (memory : Contents) → pass.taking ≡ None
      → IsNextPage memory.spaces pass.after None
      → Keeps stored chain pass memory → Gave stored chain pass.entries memory
  -- from then on until the image is open, calls and other images leave that
  pub still_gave : (old new : Stored) (one other : Chain) (entries : List ImageEntry) (before after : Contents)
      (event : MemoryEvent) → IsSound before → Step before event after → IsCall event
      → AgreeAt entries old new → ChainWithin one other → Gave old one entries before → Gave new other entries after
  pub still_rests : (one other : Chain) (before after : Contents) (event : MemoryEvent) → IsSound before
      → Step before event after → IsCall event
      → ChainWithin one other → Rests one before → Rests other after

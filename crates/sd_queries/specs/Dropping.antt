-- What becomes of an image that is to be closed, and what is printed of it.
use Rattle.std.specs.Prelude.{◌≡◌, ◌≢◌, ◌⊎◌, ℕ, Bool, false, List, [], ◌∷◌, ◌++◌, codes, slice_set, Option, Result}
use Rattle.std.specs.Prelude.{Ok, Err}
use Rattle.sd_areas.specs.PlainMemory.{PlainMemory}
use Rattle.sd_disk.specs.Contents.{file_at}
use Rattle.sd_disk.specs.Crash.{Within}
use Rattle.sd_disk.specs.Reads.{OnlyReads}
use Rattle.sd_disk.specs.Spans.{LeavesOnly}
use Rattle.sd_disk.specs.declared.disk.Disk.{Ghosts}
use Rattle.sd_drop.specs.Closing.{closed_at}
use Rattle.sd_drop.specs.Needed.{IsNeeded, IsUnneeded}
use Rattle.sd_drop.specs.declared.drop_error.DropError.{DropError}
use Rattle.sd_drop.specs.declared.drop_error.DropError.TheVariants as drop
use Rattle.sd_exit.specs.Ending.{Exits}
use Rattle.sd_exit.specs.Texts.{slot_text}
use Rattle.sd_image.specs.Shows.{Shows}
use Rattle.sd_queries.specs.declared.drop.Kept.{Kept}
use Rattle.sd_queries.specs.declared.drop.Kept.TheVariants as kept

-- it was closed
abbrev pub dropped_text : ℕ → List ℕ
dropped_text slot = codes "dropped" ++ codes " " ++ slot_text slot ++ [] ++ 10 ∷ []

-- it stays as it is, for this reason
abbrev pub kept_text : ℕ → List ℕ → List ℕ
kept_text slot why = codes "kept" ++ codes " " ++ slot_text slot ++ why ++ 10 ∷ []

-- A slot of a disk with these files is being closed. What the disk shows it shows at a crash at each moment, where it
-- would at a crash before; so it is, also where that is forced, of what it shows with the slot counted as closed.
pub record ClosesSlot {D : Type 0} (g : Ghosts D) (files : List (List ℕ)) (slot : ℕ) (force : Bool) : Type 0 where
  pub old : D
  pub new : D
  pub opened : g.contents old ≡ files
  pub kept : g.is_honest new → force ≡ false → (shown : Option (ℕ × PlainMemory)) → Shows files shown
      → Within (g.may_leave old) (λ c. Shows c shown) → LeavesOnly g old new (λ c. Shows c shown)
  pub counted : (shown : Option (ℕ × PlainMemory)) → Within (g.may_leave old) (λ c. Shows (closed_at c slot) shown)
      → LeavesOnly g old new (λ c. Shows (closed_at c slot) shown)
  pub others : (other : ℕ) → other ≢ slot → file_at (g.contents new) other ≡ file_at files other

-- It was closed. Where it isn't forced, the newest checkpoint doesn't need its image, and the disk shows by itself what
-- it did, also with the slot counted as closed.
pub record DropsSlot {D : Type 0} (g : Ghosts D) (files : List (List ℕ)) (slot : ℕ) (force : Bool) : Type 0 where
  pub closes : ClosesSlot g files slot force
  pub dropped : g.contents closes.new ≡ slice_set files slot (0 ∷ [])
  pub shown : g.is_honest closes.new → force ≡ false → (shown : Option (ℕ × PlainMemory))
      → Shows files shown ⊎ Shows (closed_at files slot) shown
      → Within (g.may_leave closes.new) (λ c. Shows c shown)
  pub unneeded : g.is_honest closes.new → force ≡ false → IsUnneeded files slot

-- a disk with these files was only read
pub record KeepsFiles {D : Type 0} (g : Ghosts D) (files : List (List ℕ)) : Type 0 where
  pub old : D
  pub new : D
  pub opened : g.contents old ≡ files
  pub reads : OnlyReads g old new

-- and the newest checkpoint needs the image of the slot, or may need it
pub record KeepsNeeded {D : Type 0} (g : Ghosts D) (files : List (List ℕ)) (slot : ℕ) : Type 0 where
  pub keeps : KeepsFiles g files
  pub needed : g.is_honest keeps.new → IsNeeded files slot

-- what came of it
abbrev pub CameOfDrop : {D : Type 0} → Ghosts D → List (List ℕ) → ℕ → Bool → Result Unit DropError → Type 0
CameOfDrop g files slot force (Ok _) = DropsSlot g files slot force
CameOfDrop g files slot force (Err drop.Needed) = KeepsNeeded g files slot
CameOfDrop g files slot force (Err drop.Device) = ClosesSlot g files slot force
CameOfDrop g files slot force (Err _) = KeepsFiles g files

-- why an image stays, as an error
abbrev pub kept_as : Kept → DropError
kept_as (kept.Needed slot) = drop.Needed
kept_as (kept.Closed slot) = drop.Closed

-- what is printed of that, to the exit; a fault is printed later
abbrev pub SaysDrop : ℕ → Option (List ℕ) → Option (List ℕ) → Bool → Result Unit DropError → ℕ → Type 0
SaysDrop slot before after refused (Ok _) status = Exits before after refused (dropped_text slot) 0 status
SaysDrop slot before after refused (Err drop.Needed) status =
    Exits before after refused (kept_text slot (codes " needed")) 1 status
SaysDrop slot before after refused (Err drop.Closed) status =
    Exits before after refused (kept_text slot (codes " closed")) 1 status
SaysDrop slot before after refused (Err _) status = ⊥

-- An image was closed, or stays; and one line says so, to the exit.
pub record EndsDropping {D : Type 0} (g : Ghosts D) (files : List (List ℕ)) (slot : ℕ) (force : Bool)
    (before after : Option (List ℕ)) (refused : Bool) (status : ℕ) : Type 0 where
  pub ended : Result Unit DropError
  pub came : CameOfDrop g files slot force ended
  pub says : SaysDrop slot before after refused ended status

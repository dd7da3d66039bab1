-- How the printing of a store ends.
use Rattle.std.specs.Prelude.{◌≡◌, ℕ, ◌<◌, Bool, true, false, List, Option, Some, Result, Err, IfErr}
use Rattle.std.specs.Io.KnownBytes.{Keeps}
use Rattle.sd_areas.specs.PlainMemory.{PlainMemory}
use Rattle.sd_image.specs.Image.{Image}
use Rattle.sd_image.specs.Shows.{IsStore, Shows}
use Rattle.sd_restore.specs.declared.fault.Fault.TheVariants.{EmptyChain, Damaged, Device, OutOfMemory}
use Rattle.sd_exit.specs.declared.stop.Stop.{Stop}
use Rattle.sd_exit.specs.declared.stop.Stop.TheVariants as stop
use Rattle.sd_exit.specs.Ending.{status_of}

-- a stop that says what is wrong with a store, or that nothing was saved in it
abbrev pub is_of_store : Stop → Bool
is_of_store (stop.Fault EmptyChain) = true
is_of_store (stop.Fault (Damaged _ _)) = true
is_of_store _ = false

-- what is wrong with a store is reported alone: nothing was printed before
abbrev pub StandsAlone : Option (List ℕ) → Option (List ℕ) → Stop → Type 0
StandsAlone before after why = is_of_store why ≡ true → Keeps before after

-- a stop that says nothing against the store: of its device, of the memory or of the writer
abbrev pub IsOutsideStore : Stop → Type 0
IsOutsideStore why = is_of_store why ≡ false

-- a stop that names no slot
abbrev pub NamesNoSlot : Stop → Type 0
NamesNoSlot (stop.Fault (Damaged slot reason)) = ⊥
NamesNoSlot _ = Unit {0}

-- Why printing was broken off: a call of the device failed, which had failed so often before and so often now; memory
-- was refused; or the writer failed.
abbrev pub IsBreak : ℕ → ℕ → Stop → Type 0
IsBreak failed now (stop.Fault Device) = failed < now
IsBreak failed now (stop.Fault OutOfMemory) = Unit {0}
IsBreak failed now (stop.Writer _) = Unit {0}
IsBreak failed now _ = ⊥

-- nothing more can be printed
abbrev pub writer_failed : Result Unit Stop → Bool
writer_failed (Err (stop.Writer _)) = true
writer_failed _ = false

-- a program that is stopped ends with status 1
abbrev pub EndsWithOne : {T : Type 0} → Result T Stop → Type 0
EndsWithOne result = IfErr result (λ why. status_of why ≡ 1)

-- contents show a checkpoint's memory
abbrev pub ShowsMemory : List (List ℕ) → Type 0
ShowsMemory contents = (moment : ℕ × PlainMemory) × Shows contents (Some moment)

-- every open slot is an image, with a serial of its own
pub record IsReadable (contents : List (List ℕ)) : Type 0 where
  pub images : List Image
  pub store : IsStore contents images

-- contents show a checkpoint's memory, or that nothing was saved
abbrev pub IsShowing : List (List ℕ) → Type 0
IsShowing contents = (shown : Option (ℕ × PlainMemory)) × Shows contents shown

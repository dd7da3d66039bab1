-- How a store is opened.
use Rattle.std.specs.Prelude.{◌≡◌, ◌⊎◌, ℕ, ◌<◌, List, Some}
use Rattle.std.specs.FinMap as finmap
use Rattle.sd_areas.specs.PlainMemory.{PlainMemory}
use Rattle.sd_pagetable.specs.declared.access_error.AccessError.{AccessError}
use Rattle.sd_pagetable.specs.Loaded.{nonzero_pages, snapshot_refusal}
use Rattle.sd_disk.specs.Contents.{file_at}
use Rattle.sd_disk.specs.Crash.{OnlyAt}
use Rattle.sd_image.specs.Shows.{Shows}
use Rattle.sd_restore.specs.Faulty.{IsBrokenChain, IsDamage}
use Rattle.sd_world.specs.declared.open_fault.OpenFault.{OpenFault}
use Rattle.sd_world.specs.declared.open_fault.OpenFault.TheVariants.{NoFrame, Damaged, Device, OutOfMemory}

-- a crash leaves the first slots as they read
abbrev pub AreSynced : ℕ → List (List ℕ) → (List (List ℕ) → Type 0) → Type 0
AreSynced count contents may_leave = (slot : ℕ) → slot < count → OnlyAt slot (file_at contents slot) may_leave

-- space 1 alone, without areas
abbrev pub bare_memory : PlainMemory
bare_memory = finmap.insert finmap.empty 1 finmap.empty

-- why a memory isn't taken over: frames are wanting, or memory
abbrev pub IsLackOf : ℕ → PlainMemory → OpenFault → Type 0
IsLackOf frames memory NoFrame = (why : AccessError) × (snapshot_refusal frames memory ≡ Some why)
IsLackOf frames memory (Damaged slot reason) = ⊥
IsLackOf frames memory Device = ⊥
IsLackOf frames memory OutOfMemory = Unit {0}

-- more pages of the memory that is shown than there are frames aren't all zeros
pub record HasNoFrame (contents : List (List ℕ)) (frames : ℕ) : Type 0 where
  pub number : ℕ
  pub memory : PlainMemory
  pub shows : Shows contents (Some (number, memory))
  pub few : frames < nonzero_pages memory

-- why these contents weren't read: the slot that is named is damaged, or breaks a chain; or the device failed
abbrev pub IsFaultOf : List (List ℕ) → ℕ → ℕ → OpenFault → Type 0
IsFaultOf contents before now NoFrame = Unit {0}
IsFaultOf contents before now (Damaged slot reason) = IsDamage contents slot reason ⊎ IsBrokenChain contents slot reason
IsFaultOf contents before now Device = before < now
IsFaultOf contents before now OutOfMemory = Unit {0}

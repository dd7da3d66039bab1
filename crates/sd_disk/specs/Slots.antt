-- What one slot of a disk in memory holds.
use Rattle.std.specs.Prelude.{◌≡◌, ℕ, ◌<◌, true, false, List, take, length, slice_index_or}
use Rattle.sd_disk.specs.Events.{Outside, DiskEvent}
use Rattle.sd_disk.specs.Outcomes.{Unsynced, is_touched, at_rest, unsynced_after, was_synced}
use Rattle.sd_disk.specs.declared.shadow.Shadow.{Shadow}
use Rattle.sd_disk.specs.declared.slot_file.SlotFile.{SlotFile}

-- the file in a slot
abbrev pub held : SlotFile → List ℕ
held slot = take slot.len slot.room.items

-- how many bytes it has room for
abbrev pub room_of : SlotFile → ℕ
room_of slot = length slot.room.items

-- how many bytes a shadow has room for
abbrev pub shadow_room : Shadow → ℕ
shadow_room shadow = length shadow.touched.items

-- a shadow has what befell its file since its last sync
pub record ShadowTracks (shadow : Shadow) (known : Unsynced) : Type 0 where
  pub synced : take shadow.synced_len shadow.synced.items ≡ known.synced
  pub touched : (place : ℕ) → slice_index_or shadow.touched.items place false ≡ is_touched known.touched place
  pub least : shadow.least ≡ known.least
  pub greatest : shadow.greatest ≡ known.greatest

-- each slot was synced, and its shadow has what befell it since
pub record AreTracked (slots : List SlotFile) (outside : Outside) (events : List DiskEvent) : Type 0 where
  pub synced : (number : ℕ) → number < length slots → was_synced events number ≡ true
  pub shadows : (number : ℕ) (slot : SlotFile) → number < length slots → slot ≡ slice_index_or slots number slot
      → ShadowTracks slot.shadow (unsynced_after outside events number)

-- each slot is as right after a sync
abbrev pub AreAtRest : List SlotFile → Type 0
AreAtRest slots = (number : ℕ) (slot : SlotFile) → number < length slots → slot ≡ slice_index_or slots number slot
    → ShadowTracks slot.shadow (at_rest (held slot))

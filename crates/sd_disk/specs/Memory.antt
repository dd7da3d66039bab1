-- What a disk in memory holds, and what each call does to it.
use Rattle.std.specs.Prelude.{◌≡◌, ℕ, ◌+◌, ◌-◌, ◌<◌, ◌≤◌, ◌^◌, min, List, length, map, slice_index}
use Rattle.sd_disk.specs.Events.{DiskEvent, failures_in}
use Rattle.sd_disk.specs.Outcomes.{MayLeave}
use Rattle.sd_disk.specs.Moments.{LeftSince}
use Rattle.sd_disk.specs.Slots.{held, room_of}
use Rattle.sd_disk.specs.declared.mem_disk.MemDisk.{MemDisk}

-- its files
abbrev pub memory_files : MemDisk → List (List ℕ)
memory_files disk = map held disk.slots.items

-- how many bytes each slot has room for
abbrev pub memory_rooms : MemDisk → List ℕ
memory_rooms disk = map room_of disk.slots.items

-- how many more writes, cuts and syncs it has room for
abbrev pub memory_calls : MemDisk → ℕ
memory_calls disk = disk.budget.calls_left

-- how often it has failed
abbrev pub memory_failures : MemDisk → ℕ
memory_failures disk = failures_in disk.budget.log.trace.events

-- how often it was read
abbrev pub memory_reads : MemDisk → ℕ
memory_reads disk = disk.reads

-- the writes, cuts and syncs on it, the last first
abbrev pub memory_events : MemDisk → List DiskEvent
memory_events disk = disk.budget.log.trace.events

-- how many calls were made on it: these, and the questions for a length and the reads
abbrev pub memory_called : MemDisk → ℕ
memory_called disk = length (memory_events disk) + length disk.asked.events

-- what a crash now may leave
abbrev pub memory_may_leave : MemDisk → List (List ℕ) → Type 0
memory_may_leave disk = MayLeave disk.budget.log.trace.outside (memory_events disk)

-- the moment, by the number of calls
abbrev pub memory_moment : MemDisk → ℕ
memory_moment disk = length (memory_events disk)

-- what a crash since a moment might have left
abbrev pub memory_left_since : MemDisk → ℕ → List (List ℕ) → Type 0
memory_left_since disk = LeftSince disk.budget.log.trace.outside (memory_events disk)

-- there is room for a write of n bytes
abbrev pub HasRoomForWrite : MemDisk → ℕ → ℕ → ℕ → Type 0
HasRoomForWrite disk slot at n = (0 < memory_calls disk) × (at + n ≤ slice_index (memory_rooms disk) slot)

-- a call that was done
pub record UsesCall (old new : MemDisk) : Type 0 where
  pub calls : memory_calls old ≡ memory_calls new + 1
  pub failures : memory_failures new ≡ memory_failures old
  pub rooms : memory_rooms new ≡ memory_rooms old
  pub reads : memory_reads new ≡ memory_reads old

-- a call that there was no room for
pub record RefusesForRoom (old new : MemDisk) : Type 0 where
  pub calls : memory_calls new ≡ memory_calls old
  pub failures : memory_failures new ≡ memory_failures old + 1
  pub rooms : memory_rooms new ≡ memory_rooms old
  pub reads : memory_reads new ≡ memory_reads old
  pub files : memory_files new ≡ memory_files old

-- a read, done or failed
pub record CountsRead (old new : MemDisk) : Type 0 where
  pub calls : memory_calls new ≡ memory_calls old
  pub rooms : memory_rooms new ≡ memory_rooms old
  pub reads : memory_reads new ≡ min (memory_reads old + 1) (2 ^ 64 - 1)

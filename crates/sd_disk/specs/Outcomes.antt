-- What a crash may leave, by a record of calls. Slots are independent.
--
-- After a successful sync of a slot a crash leaves what a read gave. Between two of them it leaves any bytes in
-- each range that was written or cut off since and past the end of the file as synced, a length between the least
-- and the greatest since, and all other bytes as synced. A failed write may have changed its range, and a failed
-- cut may have cut: they count as done. A failed sync promises nothing new. Before its first successful sync
-- nothing is known of a slot.
use Rattle.std.specs.Prelude.{◌≡◌, ℕ, ◌+◌, ◌<◌, ◌≤◌, max, min, Bool, true, false, if◌then◌else◌, ◌==◌, ◌&&◌, ◌||◌}
use Rattle.std.specs.Prelude.{nat_lt, nat_le, List, [], ◌∷◌, length, slice_index}
use Rattle.std.proofs.Common.{subst, ap, ◌∙◌}
use Rattle.sd_disk.specs.Contents.{file_at}
use Rattle.sd_disk.specs.Events.{Outside, DiskEvent, files_after, failures_in}
use Rattle.sd_disk.specs.declared.call.Call.{Call}
use Rattle.sd_disk.specs.declared.call.Call.TheVariants.{Measured, Read, Written, Cut, Synced, Failed, WriteFailed}
use Rattle.sd_disk.specs.declared.call.Call.TheVariants.{CutFailed}

-- the places from one on and below another
pub record Range : Type 0 where
  pub from : ℕ
  pub to : ℕ

-- the place is in one of the ranges
abbrev pub is_touched : List Range → ℕ → Bool
is_touched [] place = false
is_touched (range ∷ ranges) place = (nat_le range.from place && nat_lt place range.to) || is_touched ranges place

-- what befell a slot's file since its last successful sync
pub record Unsynced : Type 0 where
  -- the file at that sync
  pub synced : List ℕ
  -- the ranges that were written or cut off since
  pub touched : List Range
  -- the least and the greatest length since
  pub least : ℕ
  pub greatest : ℕ

-- what a crash may leave of the file
pub record Leaves (slot : Unsynced) (file : List ℕ) : Type 0 where
  pub no_shorter : slot.least ≤ length file
  pub no_longer : length file ≤ slot.greatest
  pub untouched : (place : ℕ) → place < length file → place < length slot.synced → is_touched slot.touched place ≡ false
      → slice_index file place ≡ slice_index slot.synced place

-- right after a sync
abbrev pub at_rest : List ℕ → Unsynced
at_rest file = record { synced = file; touched = []; least = length file; greatest = length file }

-- n bytes were written at a place
abbrev pub with_write : ℕ → ℕ → Unsynced → Unsynced
with_write at n slot = record {
  synced = slot.synced;
  touched = record { from = at; to = at + n } ∷ slot.touched;
  least = slot.least;
  greatest = max slot.greatest (at + n);
}

-- a file of so many bytes was cut to n
abbrev pub with_cut : ℕ → ℕ → Unsynced → Unsynced
with_cut count n slot = record {
  synced = slot.synced;
  touched = record { from = n; to = count } ∷ slot.touched;
  least = min slot.least n;
  greatest = slot.greatest;
}

-- a slot after a call, where `file` is what a read of it gave before
abbrev pub with_call : Call → List ℕ → ℕ → List ℕ → Unsynced → Unsynced
with_call (Measured at_slot len) bytes slot file before = before
with_call (Read at_slot at) bytes slot file before = before
with_call (Written at_slot at) bytes slot file before =
    if at_slot == slot then with_write at (length bytes) before else before
with_call (Cut at_slot len) bytes slot file before =
    if at_slot == slot then with_cut (length file) len before else before
with_call (Synced at_slot) bytes slot file before = if at_slot == slot then at_rest file else before
with_call Failed bytes slot file before = before
with_call (WriteFailed at_slot at) bytes slot file before =
    if at_slot == slot then with_write at (length bytes) before else before
with_call (CutFailed at_slot len) bytes slot file before =
    if at_slot == slot then with_cut (length file) len before else before

-- a slot after all calls, the last of which stands first
abbrev pub unsynced_after : Outside → List DiskEvent → ℕ → Unsynced
unsynced_after outside [] slot = at_rest (file_at outside.found slot)
unsynced_after outside (event ∷ earlier) slot =
    with_call event.0 event.1 slot (file_at (files_after outside earlier) slot) (unsynced_after outside earlier slot)

-- the call is a successful sync of the slot
abbrev pub is_sync_of : Call → ℕ → Bool
is_sync_of (Measured at_slot len) slot = false
is_sync_of (Read at_slot at) slot = false
is_sync_of (Written at_slot at) slot = false
is_sync_of (Cut at_slot len) slot = false
is_sync_of (Synced at_slot) slot = at_slot == slot
is_sync_of Failed slot = false
is_sync_of (WriteFailed at_slot at) slot = false
is_sync_of (CutFailed at_slot len) slot = false

-- the slot was synced
abbrev pub was_synced : List DiskEvent → ℕ → Bool
was_synced [] slot = false
was_synced (event ∷ earlier) slot = is_sync_of event.0 slot || was_synced earlier slot

-- what a crash after these calls may leave
pub record MayLeave (outside : Outside) (events : List DiskEvent) (contents : List (List ℕ)) : Type 0 where
  pub count : length contents ≡ length (files_after outside events)
  pub each : (slot : ℕ) → slot < length contents → was_synced events slot ≡ true
      → Leaves (unsynced_after outside events slot) (file_at contents slot)

-- the slots below a number are synced with these files, and nothing befell them since
pub record AreSettled (files : List (List ℕ)) (count : ℕ) (outside : Outside) (events : List DiskEvent) : Type 0 where
  pub replayed : files_after outside events ≡ files
  pub synced : (slot : ℕ) → slot < count → was_synced events slot ≡ true
  pub resting : (slot : ℕ) → unsynced_after outside events slot ≡ at_rest (file_at files slot)
  pub failures : failures_in events ≡ 0

-- where the files as read are named otherwise
pub read_as : (outside : Outside) (events : List DiskEvent) (files : List (List ℕ)) → files_after outside events ≡ files
    → MayLeave outside events (files_after outside events) → MayLeave outside events files
read_as outside events files same left = subst (MayLeave outside events) same left

pub count_as : (outside : Outside) (events : List DiskEvent) (files contents : List (List ℕ))
    → files_after outside events ≡ files
    → MayLeave outside events contents → length contents ≡ length files
count_as outside events files contents same left = left.count ∙ ap length same

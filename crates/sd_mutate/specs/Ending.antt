-- What a run of threads leaves of a store.
use Rattle.std.specs.Prelude.{◌≡◌, ℕ, Bool, true, false, not, List, length, filter, Option, Some, None, Result}
use Rattle.std.specs.Prelude.{Ok, Err, ◌-◌, slice_get}
use Rattle.std.specs.Int.{to_le_bytes, w64}
use Rattle.sd_command.specs.declared.refusal.Refusal.TheVariants.{Idle, OutOfMemory, StoreDown}
use Rattle.sd_command.specs.declared.reply.Reply.{Reply}
use Rattle.sd_command.specs.declared.reply.Reply.TheVariants as reply
use Rattle.sd_disk.specs.declared.disk.Disk.{Ghosts}
use Rattle.sd_disk.specs.Reads.{OnlyReads}
use Rattle.sd_image.specs.Image.{is_open}
use Rattle.sd_journal.specs.declared.receipt.Receipt.{Receipt}
use Rattle.sd_mutate.specs.declared.fault.MutateFault.{MutateFault}
use Rattle.sd_mutate.specs.declared.fault.MutateFault.TheVariants.{Store, NotEmpty, Open, Refused}
use Rattle.sd_mutate.specs.declared.saving.Ended.{Ended}
use Rattle.sd_mutate.specs.declared.saving.Ended.TheVariants.{LetGo, LeftStanding}
use Rattle.sd_mutate.specs.declared.tally.Tally.{Tally}

-- the fault was found before a thread began
abbrev pub is_early : MutateFault → Bool
is_early (Store fault) = true
is_early NotEmpty = true
is_early (Open fault) = true
is_early (Refused why) = false

-- after such a fault the disk is handed back, and was only read
abbrev pub LeavesStore : {D : Type 0} → Ghosts D → D → Option D → Result Tally MutateFault → Type 0
LeavesStore g old (Some new) (Err fault) = is_early fault ≡ true → OnlyReads g old new
LeavesStore g old None (Err fault) = is_early fault ≡ false
LeavesStore g old left (Ok tally) = Unit {0}

-- a job may stand after this reply, and all be frozen for it: memory was refused
abbrev pub may_stand : Reply → Bool
may_stand (reply.Refused OutOfMemory) = true
may_stand _ = false

-- nothing is frozen for a checkpoint of the thread that was answered so, or the store is down
abbrev pub lets_go : Reply → Bool
lets_go (reply.Acked n) = true
lets_go (reply.Cancelled n) = true
lets_go (reply.Refused Idle) = true
lets_go (reply.Refused StoreDown) = true
lets_go _ = false

-- nobody waits in vain for the thaw of a checkpoint that ended so
abbrev pub lets_all_go : Ended → Bool
lets_all_go (LetGo answer) = not (may_stand answer)
lets_all_go (LeftStanding token) = true

-- the last receipt is that of a load which read a number's bytes
abbrev pub LoadedLast : List Receipt → ℕ → Type 0
LoadedLast receipts number =
    (receipt : Receipt) × (slice_get receipts (length receipts - 1) ≡ Some receipt)
    × (receipt.reply ≡ reply.Bytes (to_le_bytes w64 number))

-- how many images are open
abbrev pub open_images : List (List ℕ) → ℕ
open_images contents = length (filter is_open contents)

-- The refusals.
use Rattle.std.specs.Prelude.{ℕ, List, codes}
use Rattle.sd_areas.specs.Refusals.{numbered_text}
use Rattle.sd_command.specs.declared.refusal.Refusal.{Refusal}
use Rattle.sd_command.specs.declared.refusal.Refusal.TheVariants.{Einval, Enomem, NoSuchSpace, TooManySpaces, NoFrame}
use Rattle.sd_command.specs.declared.refusal.Refusal.TheVariants.{Frozen, JournalFull, OutOfMemory, UnsupportedValue}
use Rattle.sd_command.specs.declared.refusal.Refusal.TheVariants.{NotOpen, Busy, NoSlot, StoreDown, Idle, LastSpace}
use Rattle.sd_command.specs.declared.refusal.Refusal.TheVariants.{LockBusy, NumbersUsed, Damaged, Device}

-- each refusal with its number and its name
abbrev pub refusal_row : Refusal → ℕ × List ℕ
refusal_row Einval = (1, codes "EINVAL")
refusal_row Enomem = (2, codes "ENOMEM")
refusal_row NoSuchSpace = (3, codes "no-such-space")
refusal_row TooManySpaces = (4, codes "too-many-spaces")
refusal_row NoFrame = (5, codes "no-frame")
refusal_row Frozen = (6, codes "frozen")
refusal_row JournalFull = (7, codes "journal-full")
refusal_row OutOfMemory = (8, codes "out-of-memory")
refusal_row UnsupportedValue = (9, codes "unsupported-value")
refusal_row NotOpen = (10, codes "not-open")
refusal_row Busy = (11, codes "busy")
refusal_row NoSlot = (12, codes "no-slot")
refusal_row StoreDown = (13, codes "store-down")
refusal_row Idle = (14, codes "idle")
refusal_row LastSpace = (15, codes "last-space")
refusal_row LockBusy = (16, codes "lock-busy")
refusal_row NumbersUsed = (17, codes "numbers-used")
refusal_row Damaged = (21, codes "damaged")
refusal_row Device = (22, codes "device")

-- how a refusal is printed
abbrev pub refusal_text : Refusal → List ℕ
refusal_text refusal = numbered_text (refusal_row refusal).0 (refusal_row refusal).1

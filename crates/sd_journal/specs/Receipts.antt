-- When a journal accounts for what the seats and the worker were answered. Its entries stand here in order of time.
use Rattle.std.specs.Prelude.{◌≡◌, ◌≢◌, ℕ, ◌+◌, ◌<◌, ◌≤◌, Bool, true, false, List, length, take, count_by, slice_get}
use Rattle.std.specs.Prelude.{Option, Some, None}
use Rattle.std.specs.List.{filter_map}
use Rattle.sd_command.specs.declared.command.Command.{Command}
use Rattle.sd_command.specs.declared.reply.Reply.{Reply}
use Rattle.sd_journal.specs.declared.close_fault.CloseFault.{CloseFault}
use Rattle.sd_journal.specs.declared.close_fault.CloseFault.TheVariants.{NotThere, Differs, OutOfOrder, Count, Acks}
use Rattle.sd_journal.specs.declared.entry.Entry.{Entry}
use Rattle.sd_journal.specs.declared.entry.Entry.TheVariants.{Applied, Freeze, Acked, Cancelled, Reopened}
use Rattle.sd_journal.specs.declared.receipt.Receipt.{Receipt}

-- the entries whose numbers begin at first have this one at the number
abbrev pub IsEntryAt : ℕ → List Entry → ℕ → Entry → Type 0
IsEntryAt first journal number entry = (place : ℕ) × (number ≡ first + place) × (slice_get journal place ≡ Some entry)

-- the journal has at the receipt's number its seat, command and reply
abbrev pub Stands : ℕ → List Entry → Receipt → Type 0
Stands first journal receipt =
    IsEntryAt first journal receipt.number (Applied receipt.seat receipt.command receipt.reply)

-- the journal has a command at this number
abbrev pub HasCommand : ℕ → List Entry → ℕ → Type 0
HasCommand first journal number =
    (seat : ℕ) × (command : Command) × (reply : Reply) × IsEntryAt first journal number (Applied seat command reply)

-- each of the receipts stands in the journal
abbrev pub AllStand : ℕ → List Entry → List Receipt → Type 0
AllStand first journal receipts =
    (k : ℕ) (receipt : Receipt) → slice_get receipts k ≡ Some receipt → Stands first journal receipt

-- the receipts of each seat stand at rising numbers in the order given
abbrev pub AreRising : List Receipt → Type 0
AreRising receipts = (j k : ℕ) (earlier later : Receipt) → j < k
    → slice_get receipts j ≡ Some earlier → slice_get receipts k ≡ Some later
    → earlier.seat ≡ later.seat → earlier.number < later.number

-- the entry is a command, and no mark of a checkpoint
abbrev pub is_command : Entry → Bool
is_command (Applied seat command reply) = true
is_command (Freeze n) = false
is_command (Acked n) = false
is_command (Cancelled n) = false
is_command (Reopened m) = false

-- how many commands the journal has
abbrev pub command_count : List Entry → ℕ
command_count journal = count_by is_command journal

abbrev pub acked_number : Entry → Option ℕ
acked_number (Applied seat command reply) = None
acked_number (Freeze n) = None
acked_number (Acked n) = Some n
acked_number (Cancelled n) = None
acked_number (Reopened m) = None

-- the numbers that the journal acknowledges, in order
abbrev pub acked_numbers : List Entry → List ℕ
acked_numbers journal = filter_map acked_number journal

-- The journal has each receipt's command, each seat's in its order, and no other command; and it acknowledges these
-- numbers.
pub record Accounts (first : ℕ) (journal : List Entry) (receipts : List Receipt) (acks : List ℕ) : Type 0 where
  pub stand : AllStand first journal receipts
  pub rising : AreRising receipts
  pub count : command_count journal ≡ length receipts
  pub acked : acked_numbers journal ≡ acks

-- the fault of one receipt after those before it
abbrev pub IsFaultAfter : ℕ → List Entry → List Receipt → Receipt → CloseFault → Type 0
IsFaultAfter first journal before receipt (NotThere n) = (n ≡ receipt.number) × (HasCommand first journal n → ⊥)
IsFaultAfter first journal before receipt (Differs n) =
    (n ≡ receipt.number) × HasCommand first journal n × (Stands first journal receipt → ⊥)
IsFaultAfter first journal before receipt (OutOfOrder seat) =
    (seat ≡ receipt.seat) × Stands first journal receipt
    × ((j : ℕ) × (earlier : Receipt) × (slice_get before j ≡ Some earlier) × (earlier.seat ≡ receipt.seat)
    × (receipt.number ≤ earlier.number))
IsFaultAfter first journal before receipt Count = ⊥
IsFaultAfter first journal before receipt Acks = ⊥

-- the first receipt at fault
abbrev pub IsFaultAt : ℕ → List Entry → List Receipt → CloseFault → Type 0
IsFaultAt first journal receipts fault =
    (k : ℕ) × (receipt : Receipt) × (slice_get receipts k ≡ Some receipt)
    × AllStand first journal (take k receipts) × AreRising (take k receipts)
    × IsFaultAfter first journal (take k receipts) receipt fault

-- the first fault: of a receipt, else the count, else the acknowledgements
abbrev pub IsFault : ℕ → List Entry → List Receipt → List ℕ → CloseFault → Type 0
IsFault first journal receipts acks Count =
    AllStand first journal receipts × AreRising receipts × (command_count journal ≢ length receipts)
IsFault first journal receipts acks Acks =
    AllStand first journal receipts × AreRising receipts × (command_count journal ≡ length receipts)
    × (acked_numbers journal ≢ acks)
IsFault first journal receipts acks fault = IsFaultAt first journal receipts fault

-- What each call of a core does to the numbers that were used, to whether the next checkpoint goes on from the tip, and
-- to whether the opening of the gate of the pending checkpoint's dump was taken up.
use Rattle.std.specs.Prelude.{◌≡◌, ℕ, ◌+◌, ◌<◌, ◌≤◌, ◌%◌, ◌^◌, max, Bool, true, false, ◌&&◌, ◌||◌, is_some, Option}
use Rattle.std.specs.Prelude.{Some}
use Rattle.std.specs.Prelude.{None, IfSome, IsSome}
use Rattle.sd_chain.specs.Catalog.{IsGreatest, Opened, Places, checkpoint_number, images, place_of, serial_of}
use Rattle.sd_command.specs.declared.reply.Reply.{Reply}
use Rattle.sd_command.specs.declared.reply.Reply.TheVariants as reply
use Rattle.sd_gate.specs.declared.call.Call.{Call as DeviceCall}
use Rattle.sd_gate.specs.declared.worker.Worker.{Worker}
use Rattle.sd_gate.specs.declared.worker.Worker.TheVariants.{Dumper, Merger, Opener}
use Rattle.sd_gate.specs.Requests.{Asked}
use Rattle.sd_journal.specs.History.{pending}
use Rattle.sd_journal.specs.Legal.{IsAbove}
use Rattle.sd_merge.specs.Merger as merger
use Rattle.sd_merge.specs.Merger.{Doing, copying, due, opened, retiring, slot_before}
use Rattle.sd_rounds.specs.Dumper.{is_dumping, next_slot, serial_of_running}
use Rattle.sd_crash_safety.specs.DumperSteps.{opens_gate}
use Rattle.sd_crash_safety.specs.View.{CoreView, Numbers, history_of}
use Rattle.sd_core.specs.Grown.{has_grown}
use Rattle.sd_core.specs.declared.taken.Taken.{Taken}
use Rattle.sd_core.specs.declared.taken.Taken.TheVariants.{Step, Call}

-- whether the next checkpoint goes on from the tip, whether the opening of the dump's gate was taken up, and the
-- numbers that were used
pub record HasFlags (grows committing : Bool) (numbers : Numbers) (core : CoreView) : Type 0 where
  pub grows_is : core.grows ≡ grows
  pub committing_is : core.committing ≡ committing
  pub numbers_are : core.numbers ≡ numbers

-- all these are as before
abbrev pub KeepsFlags : CoreView → CoreView → Type 0
KeepsFlags old new = HasFlags old.grows old.committing old.numbers new

-- So they are by the journal and the catalog: the next checkpoint goes on from the tip exactly where there is an
-- acknowledgement since the latest reopening and the latest cancelling; a gate's opening was taken up only while a
-- checkpoint is pending; and the numbers that these speak of were used.
pub record AreByJournal (core : CoreView) : Type 0 where
  pub grows : core.grows ≡ has_grown core.base (history_of core)
  pub committing : core.committing ≡ true → IsSome (pending (history_of core))
  pub begun : core.numbers.begun ≤ core.numbers.checkpoint
  pub given : core.numbers.given ≤ core.numbers.serial
  pub used : (n : ℕ) → core.numbers.begun < n → IsAbove core.base (history_of core) n
  pub pends : IfSome (pending (history_of core)) (λ n. n ≡ core.numbers.begun)
  pub counted : (serial : ℕ) (image : Opened) → place_of core.catalog serial ≡ Some (Some image)
      → image.header.checkpoint ≤ core.numbers.checkpoint

-- ---- a start

abbrev pub number_or_zero : Option ℕ → ℕ
number_or_zero None = 0
number_or_zero (Some n) = n

-- the numbers of a run that starts from this checkpoint
abbrev pub numbers_from : Option ℕ → Numbers
numbers_from base =
    record { checkpoint = number_or_zero base; serial = 0; begun = number_or_zero base; given = 0; ticket = 0 }

-- ---- orders

-- a checkpoint of this number begins
abbrev pub numbers_begun : Numbers → ℕ → Numbers
numbers_begun numbers n = record numbers { checkpoint = n; begun = n }

abbrev pub FlagsByBegin : CoreView → Reply → CoreView → Type 0
FlagsByBegin old (reply.Begun n) new = HasFlags old.grows old.committing (numbers_begun old.numbers n) new
FlagsByBegin old _ new = KeepsFlags old new

-- the next checkpoint takes every page; nothing was committed
abbrev pub FlagsByCancel : CoreView → Reply → CoreView → Type 0
FlagsByCancel old (reply.Cancelled n) new = HasFlags false false old.numbers new
FlagsByCancel old _ new = KeepsFlags old new

-- ---- steps

-- the greater of a number and the greatest of a catalog's images
pub record IsGreatestFound (number : Opened → ℕ) (own : ℕ) (places : Places) (found : ℕ) : Type 0 where
  pub greatest : ℕ
  pub is_greatest : IsGreatest number greatest (images places)
  pub is : found ≡ max own greatest

-- A store was opened, whose images are these. What was found at an earlier opening counts no more.
pub record FindsNumbers (old : Numbers) (places : Places) (new : Numbers) : Type 0 where
  pub checkpoint : IsGreatestFound checkpoint_number old.begun places new.checkpoint
  pub serial : IsGreatestFound serial_of old.given places new.serial
  pub begun : new.begun ≡ old.begun
  pub given : new.given ≡ old.given
  pub ticket : new.ticket ≡ old.ticket

-- the store is open: the next checkpoint takes every page, and nothing is committed
pub record OpensFlags (old new : CoreView) : Type 0 where
  pub grows_is : new.grows ≡ false
  pub committing_is : new.committing ≡ false
  pub finds : FindsNumbers old.numbers new.catalog new.numbers

-- the ticket after this one; it has 64 bits
abbrev pub ticket_after : ℕ → ℕ
ticket_after ticket = (ticket + 1) % 2 ^ 64

-- the next call of a worker is the first of an image
abbrev pub begins_image : CoreView → Worker → Bool
begins_image core Dumper = is_some (next_slot core.dumper.running)
begins_image core Merger = is_some (slot_before core.merger)
begins_image core Opener = false

-- the serial of the image that a worker makes
abbrev pub serial_copied : Doing → Option ℕ
serial_copied due = None
serial_copied (copying copy) = Some copy.order.serial
serial_copied (opened serial) = None
serial_copied (retiring r) = None

abbrev pub serial_of_merge : Option merger.Running → Option ℕ
serial_of_merge None = None
serial_of_merge (Some merge) = serial_copied merge.doing

abbrev pub serial_made : CoreView → Worker → Option ℕ
serial_made core Dumper = serial_of_running core.dumper.running
serial_made core Merger = serial_of_merge core.merger
serial_made core Opener = None

-- a request was handed out; where it is the first of an image, that got the next serial
abbrev pub numbers_asked : Bool → Numbers → Numbers
numbers_asked false numbers = record numbers { ticket = ticket_after numbers.ticket }
numbers_asked true numbers =
    record numbers { serial = numbers.serial + 1; given = numbers.serial + 1; ticket = ticket_after numbers.ticket }

-- the call opens the gate of a checkpoint's dump
abbrev pub commits : CoreView → Worker → DeviceCall → Bool
commits core Dumper call = is_dumping core.dumper.running && opens_gate call
commits core Merger call = false
commits core Opener call = false

-- A request has the next ticket, and an image that begins has the serial that was given out with it.
pub record AsksFlags (old : CoreView) (worker : Worker) (request : Asked) (new : CoreView) : Type 0 where
  pub ticket : request.id.ticket ≡ old.numbers.ticket
  pub flags : HasFlags old.grows (old.committing || commits new worker request.id.call)
      (numbers_asked (begins_image old worker) old.numbers) new
  pub image : begins_image old worker ≡ true → serial_made new worker ≡ Some new.numbers.serial

abbrev pub FlagsByReply : CoreView → Reply → CoreView → Type 0
FlagsByReply old (reply.Reopened m) new = OpensFlags old new
FlagsByReply old _ new = KeepsFlags old new

abbrev pub FlagsByStep : CoreView → Worker → Taken → CoreView → Type 0
FlagsByStep old worker (Step answer) new = FlagsByReply old answer new
FlagsByStep old worker (Call request) new = AsksFlags old worker request new

-- ---- outcomes

-- the next checkpoint goes on from the one that was acknowledged
abbrev pub FlagsByOutcome : CoreView → Reply → CoreView → Type 0
FlagsByOutcome old (reply.Acked n) new = HasFlags true false old.numbers new
FlagsByOutcome old _ new = KeepsFlags old new

-- How the steps of a core keep what is believed of its store.
use Rattle.std.specs.Prelude.{◌≡◌, ◌≢◌, ◌⊎◌, ℕ, ◌∷◌, List, Option, Some, None, length, slice_get, slice_set}
use Rattle.sd_gate.specs.declared.call.Call.{Call}
use Rattle.sd_gate.specs.declared.call.Call.TheVariants.{Open, Close}
use Rattle.sd_gate.specs.declared.phase.Phase.{Phase}
use Rattle.sd_gate.specs.declared.phase.Phase.TheVariants.{Whole, Shut}
use Rattle.sd_gate.specs.Calls.{is_done}
use Rattle.sd_gate.specs.Phases.{Waits, bodies_after, given_up, phases_after}
use Rattle.sd_gate.specs.Requests.{Asked, Made}
use Rattle.sd_command.specs.declared.command.Command.{Command}
use Rattle.sd_command.specs.declared.reply.Reply.{Reply}
use Rattle.sd_disk.specs.Contents.{file_at}
use Rattle.sd_image.specs.Image.{Image, IsImage, gate}
use Rattle.sd_journal.specs.declared.entry.Entry.TheVariants.{Applied, Freeze, Cancelled}
use Rattle.sd_journal.specs.History.{Base, History}
use Rattle.sd_journal.specs.Legal.{IsLegal}
use Rattle.sd_store_laws.specs.Beliefs.{Belief, Closed, Opening, image_at}
use Rattle.sd_store_laws.specs.Store.{Store}
use Rattle.sd_crash_safety.specs.Believes.{HasStore}
use Rattle.sd_crash_safety.specs.Calls.{WritesDataPage}
use Rattle.sd_crash_safety.specs.LiveImages.{NoneAt}

-- a call may be asked for in a lane: none is out in it, and the slot is ready for the call
pub record MayAsk (phases : List Phase) (asked : List (Option Asked)) (lane : ℕ) (request : Asked) : Type 0 where
  pub free : slice_get asked lane ≡ Some None
  pub phase : Phase
  pub waits : Waits phases request.id phase

-- a call that changes no belief: it opens no gate, and closes none after which an image stands for sure
pub record IsQuiet (phase : Phase) (call : Call) : Type 0 where
  pub opens : call ≢ Open
  pub closes : call ≡ Close → phase ≢ Whole

-- an outcome of the request that is out in a lane; any other on its slot writes a data page, as it does
pub record IsOutcomeOf (phases : List Phase) (asked : List (Option Asked)) (lane : ℕ) (made : Made) : Type 0 where
  pub out : slice_get asked lane ≡ Some (Some made.request)
  pub others : (other : ℕ) (request : Asked) → other ≢ lane → slice_get asked other ≡ Some (Some request)
      → request.id.slot ≡ made.request.id.slot → WritesDataPage made.request.id × WritesDataPage request.id
  pub phase : Phase
  pub waits : Waits phases made.request.id phase

-- the slot is ready for its gate to be opened, with the body of an image whose serial no other slot has
pub record MayOpen (phases : List Phase) (asked : List (Option Asked)) (bodies : List (List ℕ)) (beliefs : List Belief)
    (worker : ℕ) (request : Asked) (i : Image) : Type 0 where
  pub may : MayAsk phases asked worker request
  pub none : NoneAt asked request.id.slot
  pub call : request.id.call ≡ Open
  pub image : IsImage (gate ∷ file_at bodies request.id.slot) i
  pub belief : slice_get beliefs request.id.slot ≡ Some Closed
  pub alone : (other : ℕ) (j : Image) → image_at beliefs other ≡ Some j → j.header.serial ≢ i.header.serial

-- the slot's gate was opened and synced, and no request is out on it
pub record SlotIsOpened (phases : List Phase) (asked : List (Option Asked)) (beliefs : List Belief) (slot : ℕ)
    (i : Image) : Type 0 where
  pub belief : slice_get beliefs slot ≡ Some (Opening i)
  pub phase : slice_get phases slot ≡ Some Whole
  pub none : NoneAt asked slot

-- the slot's gate was closed and synced, and no request is out on it
pub record IsShut (phases : List Phase) (asked : List (Option Asked)) (slot : ℕ) : Type 0 where
  pub phase : slice_get phases slot ≡ Some Shut
  pub none : NoneAt asked slot

-- each slot's phase is as it was, or, where no request is out on it, that of a slot whose job was given up
pub record AreGivenUp (asked : List (Option Asked)) (phases new : List Phase) : Type 0 where
  pub count : length new ≡ length phases
  pub each : (slot : ℕ) (phase : Phase) → slice_get new slot ≡ Some phase
      → (was : Phase) × (slice_get phases slot ≡ Some was)
      × ((phase ≡ was) ⊎ ((phase ≡ given_up was) × NoneAt asked slot))

-- ---- steps that leave the store and the beliefs

-- What is believed stays while requests are handed out and outcomes handed in that open and close nothing, jobs are
-- given up, and the journal gets an entry that leaves what is shown.
pub record QuietSteps : Type 0 where
  pub asks : (base : Base) (history : History) (phases : List Phase) (asked : List (Option Asked))
      (bodies : List (List ℕ))
      (store : Store) (dump : Option Image) (beliefs : List Belief) (worker : ℕ) (request : Asked)
      → (may : MayAsk phases asked worker request) → IsQuiet may.phase request.id.call
      → HasStore base history phases asked bodies store dump beliefs
      → HasStore base history phases (slice_set asked worker (Some request)) bodies store dump beliefs
  pub handed : (base : Base) (history : History) (phases : List Phase) (asked : List (Option Asked))
      (bodies : List (List ℕ))
      (store : Store) (dump : Option Image) (beliefs : List Belief) (worker : ℕ) (made : Made)
      → (o : IsOutcomeOf phases asked worker made)
      → HasStore base history phases asked bodies store dump beliefs
      → HasStore base history (phases_after phases made.request.id o.phase (is_done made.answer))
      (slice_set asked worker None)
      (bodies_after bodies made.request.id made.request.bytes) store dump beliefs
  pub given_up : (base : Base) (history : History) (phases new : List Phase) (asked : List (Option Asked))
      (bodies : List (List ℕ))
      (store : Store) (dump : Option Image) (beliefs : List Belief) → AreGivenUp asked phases new
      → HasStore base history phases asked bodies store dump beliefs
      → HasStore base history new asked bodies store dump beliefs
  pub applied : (base : Base) (history : History) (phases : List Phase) (asked : List (Option Asked))
      (bodies : List (List ℕ))
      (store : Store) (dump : Option Image) (beliefs : List Belief) (seat : ℕ) (command : Command) (told : Reply)
      → HasStore base history phases asked bodies store dump beliefs
      → HasStore base (Applied seat command told ∷ history) phases asked bodies store dump beliefs
  pub froze : (base : Base) (history : History) (phases : List Phase) (asked : List (Option Asked))
      (bodies : List (List ℕ))
      (store : Store) (dump : Option Image) (beliefs : List Belief) (n : ℕ) → IsLegal base (Freeze n ∷ history)
      → HasStore base history phases asked bodies store dump beliefs
      → HasStore base (Freeze n ∷ history) phases asked bodies store dump beliefs
  pub cancelled : (base : Base) (history : History) (phases : List Phase) (asked : List (Option Asked))
      (bodies : List (List ℕ))
      (store : Store) (beliefs : List Belief) (n : ℕ) → HasStore base history phases asked bodies store None beliefs
      → HasStore base (Cancelled n ∷ history) phases asked bodies store None beliefs

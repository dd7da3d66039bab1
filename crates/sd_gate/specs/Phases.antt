-- The phases of a slot: which calls each waits for, and which phase follows.
use Rattle.std.specs.Prelude.{◌≡◌, ℕ, ◌-◌, Bool, true, false, if◌then◌else◌, List, [], Some, slice_get, slice_set}
use Rattle.sd_disk.specs.Contents.{file_at, file_after_write}
use Rattle.sd_gate.specs.declared.call.Call.{Call}
use Rattle.sd_gate.specs.declared.call.Call.TheVariants.{Len, Read, Write, WriteHeader, Close, Open, Cut, Sync}
use Rattle.sd_gate.specs.declared.request_id.RequestId.{RequestId}
use Rattle.sd_gate.specs.declared.slot_state.SlotState.{SlotState}
use Rattle.sd_gate.specs.declared.slot_state.SlotState.TheVariants.{Raw as RawSlot, Closed, Open as OpenSlot}
use Rattle.sd_gate.specs.declared.slot_state.SlotState.TheVariants.{Writing as WritingSlot}
use Rattle.sd_gate.specs.declared.phase.Phase.{Phase}
use Rattle.sd_gate.specs.declared.phase.Phase.TheVariants.{Raw, RawClosing, Whole, Closing, Shut, ShutSynced, Bare}
use Rattle.sd_gate.specs.declared.phase.Phase.TheVariants.{Writing, Ready, Opening, Doubt, DoubtSynced}

-- what is known of a slot in this phase
abbrev pub state_of : Phase → SlotState
state_of Raw = RawSlot
state_of RawClosing = RawSlot
state_of Whole = OpenSlot
state_of Closing = OpenSlot
state_of Shut = Closed
state_of ShutSynced = Closed
state_of Bare = Closed
state_of Writing = WritingSlot
state_of Ready = WritingSlot
state_of Opening = OpenSlot
state_of Doubt = OpenSlot
state_of DoubtSynced = OpenSlot

-- a 0 may be written over the gate: nobody needs what stands after it
abbrev pub may_close : Phase → Bool
may_close Raw = true
may_close RawClosing = true
may_close Whole = true
may_close Closing = true
may_close Shut = false
may_close ShutSynced = false
may_close Bare = false
may_close Writing = false
may_close Ready = false
may_close Opening = true
may_close Doubt = true
may_close DoubtSynced = true

-- it may be written and cut after the gate, which is closed
abbrev pub may_write : Phase → Bool
may_write Raw = false
may_write RawClosing = false
may_write Whole = false
may_write Closing = false
may_write Shut = true
may_write ShutSynced = true
may_write Bare = true
may_write Writing = true
may_write Ready = true
may_write Opening = false
may_write Doubt = false
may_write DoubtSynced = false

-- the gate may be opened: the body was synced
abbrev pub may_open : Phase → Bool
may_open Raw = false
may_open RawClosing = false
may_open Whole = false
may_open Closing = false
may_open Shut = false
may_open ShutSynced = false
may_open Bare = false
may_open Writing = false
may_open Ready = true
may_open Opening = false
may_open Doubt = false
may_open DoubtSynced = false

-- the calls that a slot in this phase takes
abbrev pub is_ready : Phase → Call → Bool
is_ready phase Len = true
is_ready phase (Read at) = true
is_ready phase (Write at) = may_write phase
is_ready phase WriteHeader = may_write phase
is_ready phase Close = may_close phase
is_ready phase Open = may_open phase
is_ready phase Cut = may_write phase
is_ready phase Sync = true

-- the phase of a slot whose job is given up, or failed
abbrev pub given_up : Phase → Phase
given_up Raw = Raw
given_up RawClosing = Raw
given_up Whole = Whole
given_up Closing = Doubt
given_up Shut = Shut
given_up ShutSynced = Shut
given_up Bare = Bare
given_up Writing = Shut
given_up Ready = Shut
given_up Opening = Doubt
given_up Doubt = Doubt
given_up DoubtSynced = Doubt

-- after a sync
abbrev pub synced : Phase → Phase
synced Raw = Raw
synced RawClosing = Shut
synced Whole = Whole
synced Closing = Shut
synced Shut = ShutSynced
synced ShutSynced = ShutSynced
synced Bare = ShutSynced
synced Writing = Ready
synced Ready = Ready
synced Opening = Whole
synced Doubt = DoubtSynced
synced DoubtSynced = DoubtSynced

-- after a 0 was written over the gate
abbrev pub closing : Phase → Phase
closing Raw = RawClosing
closing RawClosing = RawClosing
closing Whole = Closing
closing Closing = Closing
closing Shut = Shut
closing ShutSynced = Shut
closing Bare = Shut
closing Writing = Shut
closing Ready = Shut
closing Opening = Closing
closing Doubt = Closing
closing DoubtSynced = Closing

-- after a write after the gate
abbrev pub filled : Phase → Phase
filled Raw = Raw
filled RawClosing = RawClosing
filled Whole = Whole
filled Closing = Closing
filled Shut = Shut
filled ShutSynced = Shut
filled Bare = Writing
filled Writing = Writing
filled Ready = Writing
filled Opening = Opening
filled Doubt = Doubt
filled DoubtSynced = DoubtSynced

-- the phase that follows a call: the first where it was done, the second where it failed
abbrev pub after : Phase → Call → Bool → Phase
after phase Len done = phase
after phase (Read at) done = phase
after phase (Write at) done = if done then filled phase else Shut
after phase WriteHeader done = if done then filled phase else Shut
after phase Close done = if done then closing phase else given_up (closing phase)
after phase Open done = if done then Opening else Doubt
after phase Cut done = if done then Bare else Shut
after phase Sync done = if done then synced phase else given_up phase

-- the body that follows a call with these bytes
abbrev pub body_after : List ℕ → Call → List ℕ → List ℕ
body_after body Len bytes = body
body_after body (Read at) bytes = body
body_after body (Write at) bytes = file_after_write body (at - 1) bytes
body_after body WriteHeader bytes = file_after_write body 0 bytes
body_after body Close bytes = body
body_after body Open bytes = body
body_after body Cut bytes = []
body_after body Sync bytes = body

-- a slot is in this phase, and ready for the call of a request
pub record Waits (phases : List Phase) (id : RequestId) (phase : Phase) : Type 0 where
  pub is : slice_get phases id.slot ≡ Some phase
  pub ready : is_ready phase id.call ≡ true

-- the phases and the bodies of all slots after that call
abbrev pub phases_after : List Phase → RequestId → Phase → Bool → List Phase
phases_after phases id phase done = slice_set phases id.slot (after phase id.call done)

-- the bodies of all slots after a call that was carried out
abbrev pub bodies_after : List (List ℕ) → RequestId → List ℕ → List (List ℕ)
bodies_after bodies id bytes = slice_set bodies id.slot (body_after (file_at bodies id.slot) id.call bytes)

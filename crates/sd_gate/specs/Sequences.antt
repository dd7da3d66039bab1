-- The calls of each plan, in order.
use Rattle.std.specs.Prelude.{◌≡◌, ℕ, ◌+◌, ◌*◌, ◌<◌, ◌≤◌, ◌^◌, List, [], ◌∷◌, length}
use Rattle.sd_image.specs.declared.header.Header.{Header}
use Rattle.sd_image.specs.Header.{header_text}
use Rattle.sd_gate.specs.declared.call.Call.{Call}
use Rattle.sd_gate.specs.declared.call.Call.TheVariants.{Len, Read, Write, WriteHeader, Close, Open, Cut, Sync}
use Rattle.sd_gate.specs.declared.slot_state.SlotState.{SlotState}
use Rattle.sd_gate.specs.declared.slot_state.SlotState.TheVariants.{Raw, Closed, Open as OpenSlot, Writing}
use Rattle.sd_gate.specs.declared.call_sequence.CallSequence.{CallSequence}
use Rattle.sd_gate.specs.declared.call_sequence.CallSequence.TheVariants.{Close as CloseStep, SyncClosed}
use Rattle.sd_gate.specs.declared.call_sequence.CallSequence.TheVariants.{Cut as CutStep, ReadPage, WritePage, Table}
use Rattle.sd_gate.specs.declared.call_sequence.CallSequence.TheVariants.{Header as HeaderStep, SyncBody}
use Rattle.sd_gate.specs.declared.call_sequence.CallSequence.TheVariants.{Open as OpenStep, SyncOpen, Done}

-- calls with the bytes that they write or fill
abbrev pub Calls : Type 0
Calls = List (Call × List ℕ)

-- a 0 is written over the gate, and is on the device before the file is cut
abbrev pub closing_calls : Calls
closing_calls = (Close, []) ∷ (Sync, []) ∷ (Cut, []) ∷ []

-- the gate is closed on the device already, and isn't written again
abbrev pub cutting_calls : Calls
cutting_calls = (Cut, []) ∷ []

-- a slot is made ready for a new image
abbrev pub format_calls : SlotState → Calls
format_calls Raw = closing_calls
format_calls Closed = cutting_calls
format_calls OpenSlot = closing_calls
format_calls Writing = cutting_calls

-- where the data page with this number begins
abbrev pub data_place : ℕ → ℕ
data_place place = 4096 + 4096 * place

-- the number and the bytes of a data page
pub record IsPage (place : ℕ) (bytes : List ℕ) : Type 0 where
  pub few : place < 2 ^ 39
  pub whole : length bytes ≡ 4096

-- where the table goes: after the data pages
abbrev pub table_place : Header → ℕ
table_place header = data_place header.pages

-- a header and a table that an image may have
pub record IsBody (header : Header) (table : List ℕ) : Type 0 where
  pub few : header.pages ≤ 2 ^ 39
  pub some : 0 < length table

-- the body is on the device before the gate is opened, and the open gate before the plan ends
abbrev pub body_calls : Header → List ℕ → Calls
body_calls header table =
    (Write (table_place header), table) ∷ (WriteHeader, header_text header) ∷ (Sync, []) ∷ (Open, []) ∷ (Sync, []) ∷ []

-- an inspection begins so, and goes on with what it finds
abbrev pub first_looks : Calls
first_looks = (Sync, []) ∷ (Len, []) ∷ []

-- the calls that are left
abbrev pub calls_of_sequence : CallSequence → Calls
calls_of_sequence CloseStep = (Close, []) ∷ (Sync, []) ∷ (Cut, []) ∷ []
calls_of_sequence SyncClosed = (Sync, []) ∷ (Cut, []) ∷ []
calls_of_sequence CutStep = (Cut, []) ∷ []
calls_of_sequence (ReadPage at buffer) = (Read at, buffer.items) ∷ []
calls_of_sequence (WritePage at buffer) = (Write at, buffer.items) ∷ []
calls_of_sequence (Table at table header) =
    (Write at, table.items) ∷ (WriteHeader, header_text header) ∷ (Sync, []) ∷ (Open, []) ∷ (Sync, []) ∷ []
calls_of_sequence (HeaderStep header) = (WriteHeader, header_text header) ∷ (Sync, []) ∷ (Open, []) ∷ (Sync, []) ∷ []
calls_of_sequence SyncBody = (Sync, []) ∷ (Open, []) ∷ (Sync, []) ∷ []
calls_of_sequence OpenStep = (Open, []) ∷ (Sync, []) ∷ []
calls_of_sequence SyncOpen = (Sync, []) ∷ []
calls_of_sequence Done = []

-- a buffer that is to be written has bytes, and goes after the gate
abbrev pub AreSound : CallSequence → Type 0
AreSound CloseStep = Unit {0}
AreSound SyncClosed = Unit {0}
AreSound CutStep = Unit {0}
AreSound (ReadPage at buffer) = Unit {0}
AreSound (WritePage at buffer) = (0 < at) × (0 < length buffer.items)
AreSound (Table at table header) = (0 < at) × (0 < length table.items)
AreSound (HeaderStep header) = Unit {0}
AreSound SyncBody = Unit {0}
AreSound OpenStep = Unit {0}
AreSound SyncOpen = Unit {0}
AreSound Done = Unit {0}

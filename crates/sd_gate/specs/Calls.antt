-- What a device call makes of the contents of a disk.
use Rattle.std.specs.Prelude.{◌≡◌, ℕ, ◌+◌, ◌<◌, ◌≤◌, Bool, true, false, List, [], ◌∷◌, length, take, slice_range}
use Rattle.std.specs.Prelude.{slice_set, Option, Some, None}
use Rattle.sd_disk.specs.Contents.{file_at, file_after_write, Torn, AtSlot, Cut as CutTo}
use Rattle.sd_image.specs.Header.{header_text}
use Rattle.sd_image.specs.Image.{gate}
use Rattle.sd_gate.specs.declared.answer.Answer.{Answer}
use Rattle.sd_gate.specs.declared.answer.Answer.TheVariants.{Done, Len as LenIs, Failed}
use Rattle.sd_gate.specs.declared.call.Call.{Call}
use Rattle.sd_gate.specs.declared.call.Call.TheVariants.{Len, Read, Write, WriteHeader, Close, Open, Cut, Sync}
use Rattle.sd_gate.specs.declared.order.Order.{Order}
use Rattle.sd_gate.specs.declared.order.Order.TheVariants.{Len as LenOrder, Read as ReadOrder, Write as WriteOrder}
use Rattle.sd_gate.specs.declared.order.Order.TheVariants.{WriteHeader as HeaderOrder, Close as CloseOrder}
use Rattle.sd_gate.specs.declared.order.Order.TheVariants.{Open as OpenOrder, Cut as CutOrder, Sync as SyncOrder}

-- the call that an order is for
abbrev pub call_of : Order → Call
call_of LenOrder = Len
call_of (ReadOrder at buffer) = Read at
call_of (WriteOrder at buffer) = Write at
call_of (HeaderOrder header) = WriteHeader
call_of CloseOrder = Close
call_of OpenOrder = Open
call_of CutOrder = Cut
call_of SyncOrder = Sync

-- the bytes that stand beside it: those to be written, or to be filled
abbrev pub bytes_of : Order → List ℕ
bytes_of LenOrder = []
bytes_of (ReadOrder at buffer) = buffer.items
bytes_of (WriteOrder at buffer) = buffer.items
bytes_of (HeaderOrder header) = header_text header
bytes_of CloseOrder = []
bytes_of OpenOrder = []
bytes_of CutOrder = []
bytes_of SyncOrder = []

-- a write leaves the gate
abbrev pub IsBehindGate : Call → Type 0
IsBehindGate Len = Unit {0}
IsBehindGate (Read at) = Unit {0}
IsBehindGate (Write at) = 0 < at
IsBehindGate WriteHeader = Unit {0}
IsBehindGate Close = Unit {0}
IsBehindGate Open = Unit {0}
IsBehindGate Cut = Unit {0}
IsBehindGate Sync = Unit {0}

-- a write of a buffer has bytes, and leaves the gate
abbrev pub IsSoundOrder : Order → Type 0
IsSoundOrder LenOrder = Unit {0}
IsSoundOrder (ReadOrder at buffer) = Unit {0}
IsSoundOrder (WriteOrder at buffer) = (0 < at) × (0 < length buffer.items)
IsSoundOrder (HeaderOrder header) = Unit {0}
IsSoundOrder CloseOrder = Unit {0}
IsSoundOrder OpenOrder = Unit {0}
IsSoundOrder CutOrder = Unit {0}
IsSoundOrder SyncOrder = Unit {0}

-- a call that only looks: it asks for the length or for bytes, or waits for the device
abbrev pub IsLook : Call → Type 0
IsLook Len = Unit {0}
IsLook (Read at) = Unit {0}
IsLook (Write at) = ⊥
IsLook WriteHeader = ⊥
IsLook Close = ⊥
IsLook Open = ⊥
IsLook Cut = ⊥
IsLook Sync = Unit {0}

-- the bytes of a read stand in the file, and a cut doesn't lengthen it
abbrev pub IsInside : Call → List ℕ → List ℕ → Type 0
IsInside Len bytes file = Unit {0}
IsInside (Read at) bytes file = 0 < length bytes → at + length bytes ≤ length file
IsInside (Write at) bytes file = Unit {0}
IsInside WriteHeader bytes file = Unit {0}
IsInside Close bytes file = Unit {0}
IsInside Open bytes file = Unit {0}
IsInside Cut bytes file = 1 ≤ length file
IsInside Sync bytes file = Unit {0}

-- the contents after the call was done on a slot
abbrev pub contents_after : Call → List ℕ → ℕ → List (List ℕ) → List (List ℕ)
contents_after Len bytes slot contents = contents
contents_after (Read at) bytes slot contents = contents
contents_after (Write at) bytes slot contents =
    slice_set contents slot (file_after_write (file_at contents slot) at bytes)
contents_after WriteHeader bytes slot contents =
    slice_set contents slot (file_after_write (file_at contents slot) 1 bytes)
contents_after Close bytes slot contents = slice_set contents slot (file_after_write (file_at contents slot) 0 (0 ∷ []))
contents_after Open bytes slot contents =
    slice_set contents slot (file_after_write (file_at contents slot) 0 (gate ∷ []))
contents_after Cut bytes slot contents = slice_set contents slot (take 1 (file_at contents slot))
contents_after Sync bytes slot contents = contents

-- what the call may make of the contents, done in whole, in part or not at all
abbrev pub Makes : Call → List ℕ → ℕ → List (List ℕ) → List (List ℕ) → Type 0
Makes Len bytes slot old new = new ≡ old
Makes (Read at) bytes slot old new = new ≡ old
Makes (Write at) bytes slot old new = AtSlot slot (Torn at (length bytes)) old new
Makes WriteHeader bytes slot old new = AtSlot slot (Torn 1 (length bytes)) old new
Makes Close bytes slot old new = AtSlot slot (Torn 0 1) old new
Makes Open bytes slot old new = AtSlot slot (Torn 0 1) old new
Makes Cut bytes slot old new = AtSlot slot (CutTo 1) old new
Makes Sync bytes slot old new = new ≡ old

-- the call was done
abbrev pub is_done : Answer → Bool
is_done Done = true
is_done (LenIs len) = true
is_done Failed = false

-- what comes back of a call that is done: a length where it was asked for, and else nothing
abbrev pub IsAnswerTo : Call → Answer → Type 0
IsAnswerTo Len answer = (n : ℕ) × (answer ≡ LenIs n)
IsAnswerTo (Read at) answer = answer ≡ Done
IsAnswerTo (Write at) answer = answer ≡ Done
IsAnswerTo WriteHeader answer = answer ≡ Done
IsAnswerTo Close answer = answer ≡ Done
IsAnswerTo Open answer = answer ≡ Done
IsAnswerTo Cut answer = answer ≡ Done
IsAnswerTo Sync answer = answer ≡ Done

-- the bytes beside a call, before and after it: a read fills as many as there were
abbrev pub AreKept : Call → List ℕ → List ℕ → Type 0
AreKept Len old new = new ≡ old
AreKept (Read at) old new = length new ≡ length old
AreKept (Write at) old new = new ≡ old
AreKept WriteHeader old new = new ≡ old
AreKept Close old new = new ≡ old
AreKept Open old new = new ≡ old
AreKept Cut old new = new ≡ old
AreKept Sync old new = new ≡ old

-- the buffer that comes back after a call
abbrev pub buffer_back : Call → List ℕ → Option (List ℕ)
buffer_back Len bytes = None
buffer_back (Read at) bytes = Some bytes
buffer_back (Write at) bytes = Some bytes
buffer_back WriteHeader bytes = None
buffer_back Close bytes = None
buffer_back Open bytes = None
buffer_back Cut bytes = None
buffer_back Sync bytes = None

-- what a call says of a file, where it is done: its length, or its bytes
abbrev pub CallFinds : Call → List ℕ → Answer → List ℕ → Type 0
CallFinds Len file answer bytes = answer ≡ LenIs (length file)
CallFinds (Read at) file answer bytes = bytes ≡ slice_range file at (at + length bytes)
CallFinds (Write at) file answer bytes = Unit {0}
CallFinds WriteHeader file answer bytes = Unit {0}
CallFinds Close file answer bytes = Unit {0}
CallFinds Open file answer bytes = Unit {0}
CallFinds Cut file answer bytes = Unit {0}
CallFinds Sync file answer bytes = Unit {0}

-- the count of the device's failures rises in a call that failed, and in no other
pub record AnswerHasCause (before now : ℕ) (answer : Answer) : Type 0 where
  pub later : before ≤ now
  pub failed : is_done answer ≡ false → before < now
  pub done : is_done answer ≡ true → now ≡ before

-- The calls of an inspection: what is found decides what follows.
use Rattle.std.specs.Prelude.{ℕ, ◌==◌, ◌&&◌, nat_le, if◌then◌else◌, List, [], ◌∷◌, length, slice_index, Result, Ok, Err}
use Rattle.std.specs.Prelude.{Option, Some, None, IsSome}
use Rattle.sd_image.specs.declared.header.Header.{Header}
use Rattle.sd_image.specs.declared.reason.Reason.{Reason}
use Rattle.sd_image.specs.Image.{gate}
use Rattle.sd_image.specs.Reading.{header_in}
use Rattle.sd_image.specs.Words.{zero_bytes}
use Rattle.sd_gate.specs.declared.answer.Answer.{Answer}
use Rattle.sd_gate.specs.declared.answer.Answer.TheVariants.{Done as DoneAnswer, Len as LenIs, Failed}
use Rattle.sd_gate.specs.declared.call.Call.TheVariants.{Len, Read, Write, WriteHeader, Close, Open, Cut, Sync}
use Rattle.sd_gate.specs.declared.inspection_stage.InspectionStage.{InspectionStage}
use Rattle.sd_gate.specs.declared.inspection_stage.InspectionStage.TheVariants.{Sync as SyncStage, Len as LenStage}
use Rattle.sd_gate.specs.declared.inspection_stage.InspectionStage.TheVariants.{AwaitLen, First, AwaitFirst, Table}
use Rattle.sd_gate.specs.declared.inspection_stage.InspectionStage.TheVariants.{Done}
use Rattle.sd_gate.specs.Sequences.{Calls, table_place}

-- the outcome that decides what follows the calls that are known
pub data Awaits : Type 0 where
  nothing : Awaits
  the_length : Awaits
  -- of a file of so many bytes
  the_header : ℕ → Awaits

-- how many calls may follow those that are known
abbrev pub calls_awaited : Awaits → ℕ
calls_awaited nothing = 0
calls_awaited the_length = 2
calls_awaited (the_header len) = 1

-- the calls that are known
abbrev pub calls_of_stage : InspectionStage → Calls
calls_of_stage SyncStage = (Sync, []) ∷ (Len, []) ∷ []
calls_of_stage LenStage = (Len, []) ∷ []
calls_of_stage AwaitLen = []
calls_of_stage (First len) = (Read 0, zero_bytes 4096) ∷ []
calls_of_stage (AwaitFirst len) = []
calls_of_stage (Table at len) = (Read at, zero_bytes len) ∷ []
calls_of_stage Done = []

abbrev pub awaits_of : InspectionStage → Awaits
awaits_of SyncStage = the_length
awaits_of LenStage = the_length
awaits_of AwaitLen = the_length
awaits_of (First len) = the_header len
awaits_of (AwaitFirst len) = the_header len
awaits_of (Table at len) = nothing
awaits_of Done = nothing

-- the length is known where bytes are read
abbrev pub KnowsLength : InspectionStage → Option ℕ → Type 0
KnowsLength SyncStage len = Unit {0}
KnowsLength LenStage len = Unit {0}
KnowsLength AwaitLen len = Unit {0}
KnowsLength (First size) len = IsSome len
KnowsLength (AwaitFirst size) len = IsSome len
KnowsLength (Table at size) len = IsSome len
KnowsLength Done len = Unit {0}

-- the next call is a read
abbrev pub IsReadNext : Calls → Type 0
IsReadNext [] = ⊥
IsReadNext ((Read at, bytes) ∷ calls) = Unit {0}
IsReadNext ((Len, bytes) ∷ calls) = ⊥
IsReadNext ((Write at, bytes) ∷ calls) = ⊥
IsReadNext ((WriteHeader, bytes) ∷ calls) = ⊥
IsReadNext ((Close, bytes) ∷ calls) = ⊥
IsReadNext ((Open, bytes) ∷ calls) = ⊥
IsReadNext ((Cut, bytes) ∷ calls) = ⊥
IsReadNext ((Sync, bytes) ∷ calls) = ⊥

abbrev pub Following : Type 0
Following = Calls × Awaits

-- a file that has a header is read on
abbrev pub after_length : Answer → Following
after_length DoneAnswer = ([], nothing)
after_length (LenIs len) = if nat_le 4096 len then ((Read 0, zero_bytes 4096) ∷ [], the_header len) else ([], nothing)
after_length Failed = ([], nothing)

-- the table that a header describes
abbrev pub table_read : Result Header Reason → Following
table_read (Ok header) = ((Read (table_place header), zero_bytes header.table_len) ∷ [], nothing)
table_read (Err reason) = ([], nothing)

-- an open image is read on, if its header is one
abbrev pub after_first : List ℕ → ℕ → Following
after_first bytes len =
    if (length bytes == 4096) && (slice_index bytes 0 == gate) then table_read (header_in bytes len) else ([], nothing)

-- what follows an outcome that was awaited
abbrev pub following : Awaits → Answer → Option (List ℕ) → Following
following nothing answer buffer = ([], nothing)
following the_length answer buffer = after_length answer
following (the_header len) answer None = ([], nothing)
following (the_header len) answer (Some bytes) = after_first bytes len

-- what is left after an outcome: the calls that are known, and what they lead to only after them
abbrev pub calls_then : Calls → Awaits → Answer → Option (List ℕ) → Following
calls_then [] awaits answer buffer = following awaits answer buffer
calls_then (call ∷ calls) awaits answer buffer = (call ∷ calls, awaits)

-- How far the inspection of a slot has come, and what it has seen of the slot's file.
use Rattle.std.specs.Prelude.{◌≡◌, ◌≢◌, ℕ, ◌+◌, ◌<◌, ◌≤◌, true, List, [], ◌∷◌, length, slice_index, slice_range, Option}
use Rattle.std.specs.Prelude.{Some, None, Ok, Err}
use Rattle.sd_image.specs.declared.header.Header.{Header}
use Rattle.sd_image.specs.declared.reason.Reason.{Reason}
use Rattle.sd_image.specs.Image.{gate}
use Rattle.sd_image.specs.Reading.{header_in}
use Rattle.sd_image.specs.Words.{zero_bytes}
use Rattle.sd_gate.specs.declared.call.Call.{Call}
use Rattle.sd_gate.specs.declared.call.Call.TheVariants.{Len, Read, Sync}
use Rattle.sd_gate.specs.declared.request_id.RequestId.{RequestId}
use Rattle.sd_gate.specs.Calls.{CallFinds, IsAnswerTo, is_done}
use Rattle.sd_gate.specs.Inspections.{Awaits, nothing, the_length, the_header}
use Rattle.sd_gate.specs.Plans.{Back, Gives, Planned, begun, nothing_back, plan_after}
use Rattle.sd_gate.specs.Requests.{Asked, Made}
use Rattle.sd_gate.specs.Sequences.{Calls, first_looks, table_place}

-- the next call, or what was found
pub data Look : Type 0 where
  AtSync : Look
  AtLength : Look
  AtFirst : Look
  AtTable : Header → Look
  Short : Look
  Shut : Look
  Broken : Reason → Look
  Whole : Header → Look

abbrev pub front_of_file : List ℕ → List ℕ
front_of_file file = slice_range file 0 4096

abbrev pub table_of_file : Header → List ℕ → List ℕ
table_of_file h file = slice_range file (table_place h) (table_place h + h.table_len)

-- a file that begins with an open gate and this header
pub record ReadsHeader (file : List ℕ) (h : Header) : Type 0 where
  pub long : 4096 ≤ length file
  pub opens : slice_index (front_of_file file) 0 ≡ gate
  pub header : header_in (front_of_file file) (length file) ≡ Ok h

-- or with a header that is none, for this reason
pub record HasNoHeader (file : List ℕ) (why : Reason) : Type 0 where
  pub long : 4096 ≤ length file
  pub opens : slice_index (front_of_file file) 0 ≡ gate
  pub header : header_in (front_of_file file) (length file) ≡ Err why

-- the file is such that the inspection comes there
abbrev pub IsLookAt : List ℕ → Look → Type 0
IsLookAt file AtSync = Unit {0}
IsLookAt file AtLength = Unit {0}
IsLookAt file AtFirst = 4096 ≤ length file
IsLookAt file (AtTable h) = ReadsHeader file h
IsLookAt file Short = length file < 4096
IsLookAt file Shut = (4096 ≤ length file) × (slice_index (front_of_file file) 0 ≢ gate)
IsLookAt file (Broken why) = HasNoHeader file why
IsLookAt file (Whole h) = ReadsHeader file h

-- the calls that are known there, and those after the next
abbrev pub calls_at : Look → Calls
calls_at AtSync = first_looks
calls_at AtLength = (Len, []) ∷ []
calls_at AtFirst = (Read 0, zero_bytes 4096) ∷ []
calls_at (AtTable h) = (Read (table_place h), zero_bytes h.table_len) ∷ []
calls_at Short = []
calls_at Shut = []
calls_at (Broken why) = []
calls_at (Whole h) = []

abbrev pub calls_left_after : Look → Calls
calls_left_after AtSync = (Len, []) ∷ []
calls_left_after AtLength = []
calls_left_after AtFirst = []
calls_left_after (AtTable h) = []
calls_left_after Short = []
calls_left_after Shut = []
calls_left_after (Broken why) = []
calls_left_after (Whole h) = []

abbrev pub awaits_at : List ℕ → Look → Awaits
awaits_at file AtSync = the_length
awaits_at file AtLength = the_length
awaits_at file AtFirst = the_header (length file)
awaits_at file (AtTable h) = nothing
awaits_at file Short = nothing
awaits_at file Shut = nothing
awaits_at file (Broken why) = nothing
awaits_at file (Whole h) = nothing

-- what came back so far
abbrev pub back_at : List ℕ → Look → Back
back_at file AtSync = nothing_back
back_at file AtLength = nothing_back
back_at file AtFirst = record { len = Some (length file); first = None; second = None }
back_at file (AtTable h) = record { len = Some (length file); first = Some (front_of_file file); second = None }
back_at file Short = record { len = Some (length file); first = None; second = None }
back_at file Shut = record { len = Some (length file); first = Some (front_of_file file); second = None }
back_at file (Broken why) = record { len = Some (length file); first = Some (front_of_file file); second = None }
back_at file (Whole h) =
    record { len = Some (length file); first = Some (front_of_file file); second = Some (table_of_file h file) }

-- the next call there, and how many bytes it brings back
abbrev pub IsCallAt : Look → Call → ℕ → Type 0
IsCallAt AtSync call count = call ≡ Sync
IsCallAt AtLength call count = call ≡ Len
IsCallAt AtFirst call count = (call ≡ Read 0) × (count ≡ 4096)
IsCallAt (AtTable h) call count = (call ≡ Read (table_place h)) × (count ≡ h.table_len)
IsCallAt Short call count = ⊥
IsCallAt Shut call count = ⊥
IsCallAt (Broken why) call count = ⊥
IsCallAt (Whole h) call count = ⊥

-- a plan that has come there, and one whose next request is out
abbrev pub rests : ℕ → List ℕ → Look → Planned
rests slot file look =
    record { slot = slot; calls = calls_at look; awaits = awaits_at file look; out = None; found = back_at file look }

abbrev pub asks : ℕ → List ℕ → Look → RequestId → Planned
asks slot file look id = record {
  slot = slot;
  calls = calls_left_after look;
  awaits = awaits_at file look;
  out = Some id;
  found = back_at file look;
}

-- a plan looks at this file, with this request out
abbrev pub LooksAt : ℕ → List ℕ → Option Asked → Planned → Type 0
LooksAt slot file None plan = (look : Look) × IsLookAt file look × (plan ≡ rests slot file look)
LooksAt slot file (Some request) plan = (look : Look) × IsLookAt file look × (plan ≡ asks slot file look request.id)
    × (request.id.slot ≡ slot) × IsCallAt look request.id.call (length request.bytes)

-- what an outcome that is done says of a file
pub record IsLookedUpAs (file : List ℕ) (made : Made) : Type 0 where
  pub answers : IsAnswerTo made.request.id.call made.answer
  pub tells : CallFinds made.request.id.call file made.answer made.request.bytes

-- what an inspection found that came to its end: the file's length, its first 4,096 bytes, and its table
pub record IsFound (file : List ℕ) (found : Back) : Type 0 where
  pub len : found.len ≡ Some (length file)
  pub first : 4096 ≤ length file → found.first ≡ Some (front_of_file file)
  pub table : (h : Header) → ReadsHeader file h → found.second ≡ Some (table_of_file h file)

-- Where each outcome gave the file as it is, an inspection finds the file.
pub record InspectionFinds : Type 0 where
  pub begins : (slot : ℕ) (file : List ℕ) → LooksAt slot file None (begun slot first_looks the_length)
  pub takes : (slot : ℕ) (file : List ℕ) (old new : Planned) (request : Asked) → LooksAt slot file None old
      → Gives old new request
      → LooksAt slot file (Some request) new
  pub settles : (slot : ℕ) (file : List ℕ) (plan : Planned) (request : Asked) (made : Made)
      → LooksAt slot file (Some request) plan
      → made.request.id ≡ request.id → length made.request.bytes ≡ length request.bytes → is_done made.answer ≡ true
      → IsLookedUpAs file made
      → LooksAt slot file None (plan_after plan made)
  pub ends : (slot : ℕ) (file : List ℕ) (plan : Planned) → LooksAt slot file None plan → plan.calls ≡ []
      → IsFound file plan.found

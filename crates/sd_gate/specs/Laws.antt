-- What the phases promise the layers above.
use Rattle.std.specs.Prelude.{◌≡◌, ◌≢◌, ◌⊎◌, ℕ, ◌==◌, ◌+◌, ◌<◌, ◌≤◌, nat_lt, map, true, false, if◌then◌else◌, List, []}
use Rattle.std.specs.Prelude.{◌∷◌, ◌++◌, length, drop, slice_index, slice_range, Option, Some, None}
use Rattle.std.specs.List.{concat, AllByRecursion}
use Rattle.sd_disk.specs.Contents.{file_at}
use Rattle.sd_disk.specs.Crash.{OnlyAt}
use Rattle.sd_image.specs.declared.header.Header.{Header}
use Rattle.sd_image.specs.Header.{HasWords, header_text}
use Rattle.sd_image.specs.Image.{gate, is_open}
use Rattle.sd_image.specs.Words.{zero_bytes}
use Rattle.sd_gate.specs.declared.call.Call.{Call}
use Rattle.sd_gate.specs.declared.call.Call.TheVariants.{Write, WriteHeader, Cut}
use Rattle.sd_gate.specs.declared.phase.Phase.{Phase}
use Rattle.sd_gate.specs.declared.phase.Phase.TheVariants.{Raw, RawClosing, Whole, Closing, Shut, ShutSynced, Bare}
use Rattle.sd_gate.specs.declared.phase.Phase.TheVariants.{Writing, Ready, Opening, Doubt, DoubtSynced}
use Rattle.sd_gate.specs.Fits.{PhaseLeaves, SlotFits, DiskFits}
use Rattle.sd_gate.specs.Phases.{is_ready, may_close, may_write, filled, given_up, after, body_after, state_of}
use Rattle.sd_gate.specs.Sequences.{Calls, format_calls, closing_calls, body_calls, data_place, table_place}

-- the slot holds no image, or this one
abbrev pub IsClosedOrWhole : List ℕ → List ℕ → Type 0
IsClosedOrWhole body file = (is_open file ≡ false) ⊎ (file ≡ gate ∷ body)

-- what a crash leaves: no image before the gate is opened; none or the whole one while it is opened or closed; the
-- image once it is synced
abbrev pub CrashLeaves : Phase → List ℕ → List ℕ → Type 0
CrashLeaves Raw body file = is_open file ≡ false
CrashLeaves RawClosing body file = is_open file ≡ false
CrashLeaves Whole body file = file ≡ gate ∷ body
CrashLeaves Closing body file = IsClosedOrWhole body file
CrashLeaves Shut body file = is_open file ≡ false
CrashLeaves ShutSynced body file = is_open file ≡ false
CrashLeaves Bare body file = is_open file ≡ false
CrashLeaves Writing body file = is_open file ≡ false
CrashLeaves Ready body file = is_open file ≡ false
CrashLeaves Opening body file = IsClosedOrWhole body file
CrashLeaves Doubt body file = IsClosedOrWhole body file
CrashLeaves DoubtSynced body file = IsClosedOrWhole body file

abbrev pub ImageWholeOrClosed : Type 0
ImageWholeOrClosed = (phase : Phase) (body file : List ℕ) → PhaseLeaves phase body file → CrashLeaves phase body file

-- giving up a slot's job changes no disk, and keeps the fit
abbrev pub GivenUpFits : List (List ℕ) → (List (List ℕ) → Type 0) → Type 0
GivenUpFits contents may_leave =
    (phase : Phase) (body : List ℕ) (slot : ℕ) → SlotFits phase body slot contents may_leave
    → SlotFits (given_up phase) body slot contents may_leave

-- the phase of a synced file, by its length and its first byte
abbrev pub found_phase : List ℕ → Phase
found_phase file = if nat_lt (length file) 4096 then Raw else (if slice_index file 0 == gate then Whole else Shut)

-- a slot that was synced is in the phase that its file shows
abbrev pub FoundFits : List (List ℕ) → (List (List ℕ) → Type 0) → Type 0
FoundFits contents may_leave = (slot : ℕ) → OnlyAt slot (file_at contents slot) may_leave
    → SlotFits (found_phase (file_at contents slot)) (drop 1 (file_at contents slot)) slot contents may_leave

-- where every slot was synced, so is the disk, with the bodies that its files have
abbrev pub AllFoundFit : List (List ℕ) → (List (List ℕ) → Type 0) → Type 0
AllFoundFit contents may_leave = ((slot : ℕ) → slot < length contents → OnlyAt slot (file_at contents slot) may_leave)
    → DiskFits (map found_phase contents) (map (drop 1) contents) contents may_leave

-- the phase that an inspection finds, by the length and the first bytes that came back
abbrev pub phase_looked_up : ℕ → List ℕ → Phase
phase_looked_up len first = if nat_lt len 4096 then Raw else (if slice_index first 0 == gate then Whole else Shut)

-- the phase that follows from what came back of an inspection, as far as it came
abbrev pub phase_found : Option ℕ → Option (List ℕ) → Option Phase
phase_found None first = None
phase_found (Some len) None = if nat_lt len 4096 then Some Raw else None
phase_found (Some len) (Some first) = Some (phase_looked_up len first)

-- it is the phase of the file that was inspected
abbrev pub InspectionFindsPhase : Type 0
InspectionFindsPhase = (file first : List ℕ) → (4096 ≤ length file → first ≡ slice_range file 0 (0 + 4096))
    → phase_looked_up (length file) first ≡ found_phase file

-- a slot in the first phase takes these calls, one after the other, and is then in the last, with that body
pub data Leads : Phase → List ℕ → Calls → Phase → List ℕ → Type 0 where
  no_call : (phase : Phase) (body : List ℕ) → Leads phase body [] phase body
  one_call : (phase last : Phase) (body final : List ℕ) (call : Call) (bytes : List ℕ) (calls : Calls)
      → is_ready phase call ≡ true
      → Leads (after phase call true) (body_after body call bytes) calls last final
      → Leads phase body ((call, bytes) ∷ calls) last final

-- each plan that writes takes its slot from each phase that is ready for it to the next
pub record PlansLead : Type 0 where
  pub format : (phase : Phase) (body : List ℕ) → Leads phase body (format_calls (state_of phase)) Bare []
  pub retire : (phase : Phase) (body : List ℕ) → may_close phase ≡ true → Leads phase body closing_calls Bare []
  pub page : (phase : Phase) (body : List ℕ) (place : ℕ) (page : List ℕ) → may_write phase ≡ true
      → Leads phase body ((Write place, page) ∷ []) (filled phase) (body_after body (Write place) page)
  -- of a slot that is one closed byte, or that a job fills
  pub close_body : (phase : Phase) (body : List ℕ) (header : Header) (table : List ℕ) → may_write phase ≡ true
      → filled phase ≡ Writing
      → Leads phase body (body_calls header table) Whole
      (body_after (body_after body (Write (table_place header)) table) WriteHeader (header_text header))

-- each has the bytes of a page
abbrev pub AreWholePages : List (List ℕ) → Type 0
AreWholePages = AllByRecursion (λ page. length page ≡ 4096)

-- the body with these data pages after the room for a header, which is made with the first of them
abbrev pub pages_body : List (List ℕ) → List ℕ
pages_body [] = []
pages_body (page ∷ pages) = zero_bytes 4095 ++ concat (page ∷ pages)

-- where the next data page goes
abbrev pub page_place : List (List ℕ) → ℕ
page_place pages = data_place (length pages)

-- data pages are written one after the other, and the table and the header complete the body of the image
pub record BodiesFill : Type 0 where
  pub page : (pages : List (List ℕ)) (page : List ℕ) → AreWholePages pages
      → body_after (pages_body pages) (Write (page_place pages)) page ≡ pages_body (pages ++ page ∷ [])
  pub image : (pages : List (List ℕ)) (header : Header) (table : List ℕ) → AreWholePages pages
      → header.pages ≡ length pages
      → HasWords header
      → body_after (body_after (pages_body pages) (Write (table_place header)) table) WriteHeader (header_text header)
      ≡ header_text header ++ concat pages ++ table

-- a slot that is ready for a cut has the byte that the cut leaves
abbrev pub CutsFit : List (List ℕ) → (List (List ℕ) → Type 0) → Type 0
CutsFit contents may_leave =
    (phase : Phase) (body : List ℕ) (slot : ℕ) → is_ready phase Cut ≡ true → SlotFits phase body slot contents may_leave
    → 1 ≤ length (file_at contents slot)

-- the bytes of two writes, at these places, don't overlap
abbrev pub AreApart : ℕ → List ℕ → ℕ → List ℕ → Type 0
AreApart i first j second = (i + length first ≤ j) ⊎ (j + length second ≤ i)

-- two writes after the gate that don't overlap leave one body in either order, and those of two data pages don't
-- overlap
pub record WritesCommute : Type 0 where
  pub apart : (body : List ℕ) (i j : ℕ) (first second : List ℕ) → 0 < i → 0 < j → AreApart i first j second
      → body_after (body_after body (Write i) first) (Write j) second
      ≡ body_after (body_after body (Write j) second) (Write i) first
  pub pages : (i j : ℕ) (first second : List ℕ) → i ≢ j → length first ≡ 4096 → length second ≡ 4096
      → AreApart (data_place i) first (data_place j) second

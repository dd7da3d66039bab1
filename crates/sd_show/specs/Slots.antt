-- The state of a slot, what is wrong with it, and what is read of it.
use Rattle.std.specs.Prelude.{◌≡◌, ◌⊎◌, ◌<◌, All, ℕ, ◌+◌, ◌*◌, ◌==◌, ◌&&◌, nat_le, Bool, true, false, if◌then◌else◌}
use Rattle.std.specs.Prelude.{◌≤◌, min, take}
use Rattle.std.specs.Prelude.{List, [], codes, length, drop, slice_index, slice_range, Option, None, Some, MatchOption}
use Rattle.std.specs.Prelude.{Result, Ok, Err, is_some}
use Rattle.sd_image.specs.declared.reason.Reason.{Reason}
use Rattle.sd_image.specs.declared.reason.Reason.TheVariants.{Digest}
use Rattle.sd_image.specs.Image.{Image, IsImage, is_open, gate}
use Rattle.sd_image.specs.Reading.{digest_of_file, file_in, header_in, number_at, table_in}
use Rattle.sd_image.specs.declared.header.Header.{Header}
use Rattle.sd_show.specs.declared.judged.Judged.{Judged}
use Rattle.sd_show.specs.declared.opened.Opened.{Opened}
use Rattle.sd_show.specs.declared.seen.Seen.{Seen}
use Rattle.sd_show.specs.declared.state.State.{State}
use Rattle.sd_show.specs.declared.state.State.TheVariants.{Raw, Closed, Open}

-- by the gate byte and the length of a file
abbrev pub state_by : ℕ → ℕ → State
state_by first len = if first == 0 then Raw else if nat_le 4096 len && first == gate then Open else Closed

-- an empty file, and one that begins with 0, is raw
abbrev pub state_in : List ℕ → State
state_in file = state_by (slice_index file 0) (length file)

abbrev pub state_word : State → List ℕ
state_word Raw = codes "raw"
state_word Closed = codes "closed"
state_word Open = codes "open"

-- the reason why nothing is read, if nothing is
abbrev pub reason_of : {X : Type 0} → Result X Reason → Option Reason
reason_of (Ok x) = None
reason_of (Err reason) = Some reason

-- the fault of a table, or else of the digest after it
abbrev pub or_digest : Option Reason → Bool → Option Reason
or_digest (Some reason) is_other = Some reason
or_digest None true = Some Digest
or_digest None false = None

-- why a slot is damaged, if it is: it is open, and its file no image
abbrev pub fault_in : List ℕ → Option Reason
fault_in file = if is_open file then reason_of (file_in file) else None

abbrev pub is_damaged : List ℕ → Bool
is_damaged file = is_some (fault_in file)

-- An open slot is damaged, and its file no image, or it is not damaged, and its file is one.
abbrev pub DamagedOrImage : Type 0
DamagedOrImage = (file : List ℕ) → All (λ byte. byte < 256) file → is_open file ≡ true
    → ((is_damaged file ≡ true) × ((i : Image) → IsImage file i → ⊥))
    ⊎ ((is_damaged file ≡ false) × ((i : Image) × IsImage file i))

-- where the table begins, if header, pages and table are as long as the file
abbrev pub table_at : List ℕ → ℕ → Option ℕ
table_at front len = if 4096 + 4096 * number_at 8 48 front + number_at 8 56 front == len
    then Some (4096 + 4096 * number_at 8 48 front) else None

-- the bytes of the table; none where header, pages and table are not as long as the file
abbrev pub bytes_from : Option ℕ → List ℕ → List ℕ
bytes_from None file = []
bytes_from (Some at) file = drop at file

abbrev pub table_bytes : List ℕ → List ℕ
table_bytes file = bytes_from (table_at (slice_range file 0 4096) (length file)) file

-- what is shown of a table: all of an image's, and the first 2 MiB of another file's
abbrev pub shown_table : Option Reason → List ℕ → List ℕ
shown_table None table = table
shown_table (Some reason) table = take 2097152 table

-- bytes are the first of a table: all of them, or 2 MiB or more
pub record BeginsTable (table bytes : List ℕ) : Type 0 where
  pub beginning : bytes ≡ take (length bytes) table
  pub long : min 2097152 (length table) ≤ length bytes

-- what is read of a table after a header: all of it where it is one, and why it is none, if it is none
pub record IsJudged (header : Header) (table : List ℕ) (judged : Judged) : Type 0 where
  pub begins : BeginsTable table judged.bytes.items
  pub whole : judged.fault ≡ None → judged.bytes.items ≡ table
  pub fault : judged.fault ≡ reason_of (table_in header table)

-- what is read of the table of a file: so, where its header is one
pub record IsTableOf (file : List ℕ) (judged : Judged) : Type 0 where
  pub begins : BeginsTable (table_bytes file) judged.bytes.items
  pub whole : judged.fault ≡ None → judged.bytes.items ≡ table_bytes file
  pub fault : (header : Header) → header_in (slice_range file 0 4096) (length file) ≡ Ok header
      → judged.fault ≡ reason_of (table_in header (table_bytes file))

-- what is read of an open slot
pub record OpenSlotIsRead (file : List ℕ) (opened : Opened) : Type 0 where
  pub front : opened.front ≡ slice_range file 0 4096
  pub table : opened.table.items ≡ shown_table (reason_of (file_in file)) (table_bytes file)
  pub digest : opened.digest ≡ digest_of_file file
  pub fault : opened.fault ≡ reason_of (file_in file)

-- what is read of a slot
pub record IsSeen (file : List ℕ) (seen : Seen) : Type 0 where
  pub state : seen.state ≡ state_in file
  pub opened : MatchOption seen.opened (is_open file ≡ false)
      (λ opened. (is_open file ≡ true) × OpenSlotIsRead file opened)

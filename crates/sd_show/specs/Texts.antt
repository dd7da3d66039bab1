-- The text of a slot.
use Rattle.std.specs.Prelude.{ℕ, ◌+◌, ◌*◌, ◌-◌, ◌^◌, ◌==◌, ◌&&◌, not, nat_lt, nat_le, false, if◌then◌else◌}
use Rattle.std.specs.Prelude.{List, [], ◌∷◌, ◌++◌, codes, length, replicate, slice_range, Option, None, Some}
use Rattle.std.specs.List.{enumerate_from, flat_map}
use Rattle.std.specs.Fmt.{decimal, digits}
use Rattle.std.specs.Str.{bytes_eq}
use Rattle.hex.specs.Hex.{encode_lower}
use Rattle.sd_areas.specs.Prot.{prot_text}
use Rattle.sd_image.specs.declared.reason.Reason.{Reason}
use Rattle.sd_image.specs.Image.{is_open}
use Rattle.sd_image.specs.Reading.{digest_of_file, number_at, prot_of_number}
use Rattle.sd_image.specs.ReasonLaws.{reason_number}
use Rattle.sd_show.specs.declared.state.State.{State}
use Rattle.sd_show.specs.Items.{areas_in, place_after_run, place_after_runs, runs_in, table_spaces}
use Rattle.sd_show.specs.Phrases.{reason_phrase}
use Rattle.sd_show.specs.Slots.{fault_in, shown_table, state_in, state_word, table_bytes}

-- the end of a line
abbrev pub newline : List ℕ
newline = 10 ∷ []

-- ---- the header

-- a field: its name and its number
unfoldable pub field_line : List ℕ → ℕ → List ℕ
field_line name number = name ++ (codes " " ++ (decimal number ++ newline))

abbrev pub kind_word : ℕ → List ℕ
kind_word number = if number == 1 then codes "pre-dump" else if number == 2 then codes "dump" else codes "merged"

-- its word, or its number where it has none
unfoldable pub kind_line : ℕ → List ℕ
kind_line number = if nat_lt 0 number && nat_le number 3 then codes "kind " ++ (kind_word number ++ newline)
    else field_line (codes "kind") number

-- whether the digest in a header is the file's; version 2 alone has one
unfoldable pub digest_word : List ℕ → List ℕ → List ℕ
digest_word front digest =
    if not (number_at 2 8 front == 2) then codes "none"
    else if bytes_eq (slice_range front 64 96) digest then codes "right" else codes "wrong"

unfoldable pub digest_line : List ℕ → List ℕ → List ℕ
digest_line front digest =
    codes "digest " ++ (digest_word front digest ++ codes " ") ++ encode_lower (slice_range front 64 96) ++ newline

-- the fields, in the order in which they stand
unfoldable pub form_lines : List ℕ → List ℕ
form_lines front = field_line (codes "version") (number_at 2 8 front) ++ kind_line (number_at 2 10 front)

unfoldable pub place_lines : List ℕ → List ℕ
place_lines front =
    field_line (codes "serial") (number_at 8 16 front) ++ field_line (codes "stands_for") (number_at 8 24 front)
    ++ field_line (codes "parent") (number_at 8 32 front)

unfoldable pub size_lines : List ℕ → List ℕ
size_lines front =
    field_line (codes "checkpoint") (number_at 8 40 front) ++ field_line (codes "pages") (number_at 8 48 front)
    ++ field_line (codes "table_len") (number_at 8 56 front)

unfoldable pub header_lines : List ℕ → List ℕ → List ℕ
header_lines front digest = form_lines front ++ place_lines front ++ size_lines front ++ digest_line front digest

-- ---- the table

-- `0x` and lower case hexadecimal digits without leading zeros
abbrev pub address_text : ℕ → List ℕ
address_text address = codes "0x" ++ digits 16 false address

-- the letters of permissions, or their number where it is over 7
unfoldable pub permissions_text : ℕ → List ℕ
permissions_text number = (if nat_le number 7 then prot_text (prot_of_number number) else decimal number) ++ newline

-- the first address of pages and the first after them, or their numbers where they go past page 2^35
unfoldable pub range_text : ℕ → ℕ → List ℕ
range_text first count = if nat_le (first + count) (2 ^ 35)
    then codes "area " ++
    (address_text (4096 * first) ++ (codes " " ++ (address_text (4096 * (first + count)) ++ codes " ")))
    else codes "area page " ++ (decimal first ++ (codes " pages " ++ (decimal count ++ codes " ")))

-- its pages, and its permissions
unfoldable pub area_item_line : List ℕ → List ℕ
area_item_line area = range_text (number_at 8 0 area) (number_at 8 8 area) ++ permissions_text (number_at 4 16 area)

abbrev pub run_kind_word : ℕ → List ℕ
run_kind_word number = if number == 1 then codes "data" else if number == 2 then codes "parent" else codes "zero"

-- its word, or its number where it has none
unfoldable pub run_kind_text : ℕ → List ℕ
run_kind_text number =
    codes "run " ++ (if nat_lt 0 number && nat_le number 3 then run_kind_word number else decimal number)

-- where the bytes of data begin in the file
unfoldable pub offset_text : ℕ → Option ℕ → List ℕ
offset_text kind None = newline
offset_text kind (Some at) = if kind == 1 then codes " offset " ++ (decimal at ++ newline) else newline

-- its kind, its first page, its number of pages, and where its bytes begin in the file if it is of data
unfoldable pub run_line : Option ℕ → List ℕ → List ℕ
run_line at run = run_kind_text (number_at 4 16 run) ++
    (codes " first " ++ (decimal (number_at 8 0 run) ++ (codes " pages " ++ decimal (number_at 8 8 run))))
    ++ offset_text (number_at 4 16 run) at

abbrev pub runs_text : Option ℕ → List (List ℕ) → List ℕ
runs_text at [] = []
runs_text at (run ∷ runs) = run_line at run ++ runs_text (place_after_run at run) runs

-- the space that bytes begin with: its number, its areas and its runs
unfoldable pub space_lines : Option ℕ → List ℕ → List ℕ
space_lines at bytes = field_line (codes "space") (number_at 4 0 bytes) ++ flat_map area_item_line
    (areas_in bytes) ++ runs_text at (runs_in bytes)

-- spaces, the data pages of each after those of the one before
abbrev pub spaces_text : Option ℕ → List (List ℕ) → List ℕ
spaces_text at [] = []
spaces_text at (space ∷ spaces) = space_lines at space ++ spaces_text (place_after_runs at (runs_in space)) spaces

unfoldable pub table_lines : List ℕ → List ℕ
table_lines table = spaces_text (Some 4096) (table_spaces table)

-- ---- the slot

-- its number, with zeros before it up to three digits, and its state
unfoldable pub slot_line : ℕ → State → List ℕ
slot_line slot state = codes "slot " ++
    ((replicate (3 - length (decimal slot)) 48 ++ decimal slot) ++ (codes " " ++ (state_word state ++ newline)))

-- why it is damaged, if it is: the reason's number, and what it says
unfoldable pub fault_text : Option Reason → List ℕ
fault_text None = []
fault_text (Some reason) =
    codes "damaged " ++ (decimal (reason_number reason) ++ (codes " " ++ (reason_phrase reason ++ newline)))

-- an open slot: why it is damaged, if it is, its header and its table
unfoldable pub opened_text : Option Reason → List ℕ → List ℕ → List ℕ → List ℕ
opened_text fault front digest table = fault_text fault ++ header_lines front digest ++ table_lines table

-- a slot's file, whatever is in it
unfoldable pub slot_lines : ℕ → List ℕ → List ℕ
slot_lines slot file = slot_line slot (state_in file)
    ++ (if is_open file then opened_text (fault_in file) (slice_range file 0 4096) (digest_of_file file)
    (shown_table (fault_in file) (table_bytes file)) else [])

-- all slots, rising
abbrev pub slots_text : List (List ℕ) → List ℕ
slots_text contents = flat_map (λ (slot : ℕ × List ℕ). slot_lines slot.0 slot.1) (enumerate_from 0 contents)

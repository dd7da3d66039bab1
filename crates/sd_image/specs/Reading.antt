-- Reading the bytes of an image: what each rule of the format says, in the order of the reasons, and the first that is
-- broken.
use Rattle.std.specs.Prelude.{◌≡◌, nat_eq, ℕ, zero, suc, ◌+◌, ◌*◌, ◌%◌, ◌/◌, Bool, true, false, not, ◌&&◌, ◌==◌, nat_lt}
use Rattle.std.specs.Prelude.{nat_le, if◌then◌else◌, List, [], ◌∷◌, ◌++◌, length, take, drop, slice_range, Option, Some}
use Rattle.std.specs.Prelude.{None, Result, Ok, Err}
use Rattle.std.specs.List.{flat_map, list_all}
use Rattle.std.specs.Cmp.Lexicographic.{pointwise}
use Rattle.std.specs.Str.{bytes_eq}
use Rattle.byteorder.specs.Endian.{little_number}
use Rattle.sha2.specs.Sha256.{sha256}
use Rattle.sd_areas.specs.declared.area.Area.{Area}
use Rattle.sd_areas.specs.declared.prot.Prot.{Prot}
use Rattle.sd_areas.specs.Areas.{is_area_after, area_pages}
use Rattle.sd_image.specs.declared.header.Header.{Header}
use Rattle.sd_image.specs.declared.header.Version.{Version}
use Rattle.sd_image.specs.declared.header.Version.TheVariants.{One, Two}
use Rattle.sd_image.specs.declared.header.Kind.{Kind}
use Rattle.sd_image.specs.declared.header.Kind.TheVariants.{PreDump, Dump, Merged}
use Rattle.sd_image.specs.declared.reason.Reason.{Reason}
use Rattle.sd_image.specs.declared.reason.Reason.TheVariants as reason
use Rattle.sd_image.specs.declared.run.Run.{Run}
use Rattle.sd_image.specs.declared.run.RunKind.{RunKind}
use Rattle.sd_image.specs.declared.run.RunKind.TheVariants.{Data, Parent, Zero}
use Rattle.sd_image.specs.declared.space_head.SpaceHead.{SpaceHead}
use Rattle.sd_image.specs.declared.table_error.TableError.{TableError}
use Rattle.sd_image.specs.declared.table_error.TableError.TheVariants as errors
use Rattle.sd_image.specs.Words.{version_number}
use Rattle.sd_image.specs.Header.{magic}
use Rattle.sd_image.specs.Table.{Listed, is_run_after, run_pages, data_count, mapped_count}

infixl 10 ◌>>=◌
abbrev pub ◌>>=◌ : {A B : Type 0} → Result A Reason → (A → Result B Reason) → Result B Reason
(Ok x) >>= f = f x
(Err e) >>= f = Err e

-- What a function returned, seen by view, is what reading gives.
abbrev pub Reads : {X Y : Type 0} → (X → Y) → Result X Reason → Result Y Reason → Type 0
Reads view (Ok x) read = read ≡ Ok (view x)
Reads view (Err e) read = read ≡ Err e

-- A table is read as reading says, unless memory ran out.
abbrev pub FailsToRead : {Y : Type 0} → TableError → Result Y Reason → Type 0
FailsToRead errors.OutOfMemory read = Unit {0}
FailsToRead (errors.Damaged e) read = read ≡ Err e

abbrev pub ReadsTable : {X Y : Type 0} → (X → Y) → Result X TableError → Result Y Reason → Type 0
ReadsTable view (Ok x) read = read ≡ Ok (view x)
ReadsTable view (Err e) read = FailsToRead e read

-- the first of these rules that is broken
abbrev pub rules_kept : (Reason → Bool) → List Reason → Result (Unit {0}) Reason
rules_kept breaks [] = Ok tt
rules_kept breaks (rule ∷ rules) = if breaks rule then Err rule else rules_kept breaks rules

-- the number in the n bytes from a place on
unfoldable pub number_at : ℕ → ℕ → List ℕ → ℕ
number_at n place bytes = little_number n (drop place bytes)

-- all of the bytes are zero
unfoldable pub are_zero : List ℕ → Bool
are_zero bytes = list_all (λ b. b == 0) bytes

-- The header: the first 4,096 bytes of a file, and the file's length.

abbrev pub version_of : ℕ → Version
version_of n = if n == 1 then One else Two

abbrev pub kind_of_number : ℕ → Kind
kind_of_number n = if n == 1 then PreDump else if n == 2 then Dump else Merged

-- version 1 has zeros in the place of a digest
abbrev pub has_no_digest : Version → List ℕ → Bool
has_no_digest One bytes = are_zero bytes
has_no_digest Two bytes = true

abbrev pub breaks_bytes : List ℕ → Reason → Bool
breaks_bytes bytes reason.Magic = not (bytes_eq (slice_range bytes 1 8) magic)
breaks_bytes bytes reason.Version = not (nat_le 1 (number_at 2 8 bytes) && nat_le (number_at 2 8 bytes) 2)
breaks_bytes bytes reason.Kind = not (nat_le 1 (number_at 2 10 bytes) && nat_le (number_at 2 10 bytes) 3)
breaks_bytes bytes reason.Reserved = not
    (are_zero (slice_range bytes 12 16) && has_no_digest (version_of (number_at 2 8 bytes))
    (slice_range bytes 64 96) && are_zero (slice_range bytes 96 4096))
breaks_bytes bytes _ = false

unfoldable pub bytes_kept : List ℕ → Result (Unit {0}) Reason
bytes_kept bytes = rules_kept (breaks_bytes bytes) (reason.Magic ∷ reason.Version ∷ reason.Kind ∷ reason.Reserved ∷ [])

-- the version and the kind
abbrev pub form_of : List ℕ → Version × Kind
form_of bytes = (version_of (number_at 2 8 bytes), kind_of_number (number_at 2 10 bytes))

-- these, where the bytes are what they have to be
unfoldable pub form_in : List ℕ → Result (Version × Kind) Reason
form_in bytes = do
  _ ← bytes_kept bytes
  Ok (form_of bytes)

unfoldable pub fields_of : Version × Kind → List ℕ → Header
fields_of form bytes = record {
  version = form.0;
  kind = form.1;
  serial = number_at 8 16 bytes;
  stands_for = number_at 8 24 bytes;
  parent = number_at 8 32 bytes;
  checkpoint = number_at 8 40 bytes;
  pages = number_at 8 48 bytes;
  table_len = number_at 8 56 bytes;
  digest = slice_range bytes 64 96;
}

abbrev pub stands_rightly : Kind → ℕ → ℕ → Bool
stands_rightly PreDump serial stands_for = stands_for == serial
stands_rightly Dump serial stands_for = stands_for == serial
stands_rightly Merged serial stands_for = nat_lt 0 stands_for && nat_lt stands_for serial

abbrev pub parent_rightly : Kind → ℕ → ℕ → Bool
parent_rightly PreDump serial parent = nat_lt parent serial
parent_rightly Dump serial parent = nat_lt parent serial
parent_rightly Merged serial parent = parent == 0

abbrev pub breaks_fields : Header → ℕ → Reason → Bool
breaks_fields h len reason.Serial = h.serial == 0
breaks_fields h len reason.StandsFor = not (stands_rightly h.kind h.serial h.stands_for)
breaks_fields h len reason.Parent = not (parent_rightly h.kind h.serial h.parent)
breaks_fields h len reason.Checkpoint = h.checkpoint == 0
breaks_fields h len reason.Length = not (4096 + 4096 * h.pages + h.table_len == len)
breaks_fields h len _ = false

unfoldable pub fields_kept : Header → ℕ → Result (Unit {0}) Reason
fields_kept h len = rules_kept (breaks_fields h len)
    (reason.Serial ∷ reason.StandsFor ∷ reason.Parent ∷ reason.Checkpoint ∷ reason.Length ∷ [])

-- the header that the bytes spell, or the least reason why they spell none
unfoldable pub header_in : List ℕ → ℕ → Result Header Reason
header_in bytes len = do
  form ← form_in bytes
  _ ← fields_kept (fields_of form bytes) len
  Ok (fields_of form bytes)

-- The table: items one after the other. Each is a value and the bytes after it, or the least reason why it is none.

-- the n bytes of an item
abbrev pub item_at : ℕ → List ℕ → Result (List ℕ × List ℕ) Reason
item_at n bytes = if nat_lt (length bytes) n then Err reason.PastEnd else Ok (take n bytes, drop n bytes)

-- the value of an item, where two rules hold: the item's own, and that the number that has to be zero is
abbrev pub item_value : {X : Type 0} → Bool → Reason → ℕ → X → Result X Reason
item_value holds rule reserved x = if not holds then Err rule else if not (reserved == 0) then Err reason.Zero else Ok x

-- n items one after the other; of each, what the next one is read by
unfoldable pub many : {X S : Type 0} → (S → List ℕ → Result (X × List ℕ) Reason) → (X → S) → ℕ → S → List ℕ
    → Result (List X × List ℕ) Reason
many read after zero state bytes = Ok ([], bytes)
many read after (suc n) state bytes = do
  first ← read state bytes
  others ← many read after n (after first.0) first.1
  Ok (first.0 ∷ others.0, others.1)

-- how many spaces
unfoldable pub head_at : List ℕ → Result (ℕ × List ℕ) Reason
head_at bytes = do
  item ← item_at 8 bytes
  spaces ← item_value (nat_le (number_at 4 0 item.0) 16) reason.Space (number_at 4 4 item.0) (number_at 4 0 item.0)
  Ok (spaces, item.1)

-- permissions from their number
unfoldable pub prot_of_number : ℕ → Prot
prot_of_number n = record { read = n % 2 == 1; write = n / 2 % 2 == 1; execute = n / 4 == 1 }

unfoldable pub area_of : List ℕ → Area
area_of item =
    record { first = number_at 8 0 item; count = number_at 8 8 item; prot = prot_of_number (number_at 4 16 item) }

-- whether an item is an area that may stand after the one before
unfoldable pub area_holds : Option Area → List ℕ → Bool
area_holds before item = nat_le (number_at 4 16 item) 7 && is_area_after before (area_of item)

unfoldable pub area_from : Option Area → List ℕ → Result Area Reason
area_from before item = item_value (area_holds before item) reason.Area (number_at 4 20 item) (area_of item)

unfoldable pub area_at : Option Area → List ℕ → Result (Area × List ℕ) Reason
area_at before bytes = do
  item ← item_at 24 bytes
  area ← area_from before item.0
  Ok (area, item.1)

abbrev pub run_kind_of : ℕ → RunKind
run_kind_of n = if n == 1 then Data else if n == 2 then Parent else Zero

unfoldable pub run_of : List ℕ → Run
run_of item =
    record { first = number_at 8 0 item; count = number_at 8 8 item; kind = run_kind_of (number_at 4 16 item) }

-- whether an item is a run that may stand after the one before
unfoldable pub run_holds : ℕ → Option Run → List ℕ → Bool
run_holds parent before item =
    nat_le 1 (number_at 4 16 item) && nat_le (number_at 4 16 item) 3 && is_run_after parent before (run_of item)

unfoldable pub run_from : ℕ → Option Run → List ℕ → Result Run Reason
run_from parent before item = item_value (run_holds parent before item) reason.Run (number_at 4 20 item) (run_of item)

unfoldable pub run_at : ℕ → Option Run → List ℕ → Result (Run × List ℕ) Reason
run_at parent before bytes = do
  item ← item_at 24 bytes
  run ← run_from parent before item.0
  Ok (run, item.1)

-- how many areas a space of this kind of image may have
abbrev pub area_limit : Kind → ℕ
area_limit PreDump = 0
area_limit Dump = 1024
area_limit Merged = 1024

unfoldable pub space_head_of : List ℕ → SpaceHead
space_head_of item = record { space = number_at 4 0 item; areas = number_at 4 4 item; runs = number_at 8 8 item }

unfoldable pub space_head_at : Kind → ℕ → List ℕ → Result (SpaceHead × List ℕ) Reason
space_head_at kind before bytes = do
  item ← item_at 16 bytes
  if not (nat_lt before (space_head_of item.0).space && nat_le (space_head_of item.0).space 16) then Err reason.Space
      else if not (nat_le (space_head_of item.0).areas (area_limit kind)) then Err reason.Area
      else Ok (space_head_of item.0, item.1)

-- whether two lists of pages are one
abbrev pub pages_eq : List ℕ → List ℕ → Bool
pages_eq = pointwise nat_eq

-- whether the runs' pages are what they have to be
unfoldable pub covers : Kind → List Area → List Run → Bool
covers PreDump areas runs = not (length runs == 0)
covers Dump areas runs = pages_eq (flat_map area_pages areas) (flat_map run_pages runs)
covers Merged areas runs = pages_eq (flat_map area_pages areas) (flat_map run_pages runs)

unfoldable pub space_at : Header → ℕ → List ℕ → Result (Listed × List ℕ) Reason
space_at h before bytes = do
  head ← space_head_at h.kind before bytes
  areas ← many area_at Some head.0.areas None head.1
  runs ← many (run_at h.parent) Some head.0.runs None areas.1
  if covers h.kind areas.0 runs.0 then Ok (record { space = head.0.space; areas = areas.0; runs = runs.0 }, runs.1)
      else Err reason.Coverage

-- what has to hold at the end: nothing is left, and the pages are as many as they have to be
unfoldable pub ends_rightly : Header → List Listed → List ℕ → Bool
ends_rightly h spaces rest = length rest == 0 && data_count spaces == h.pages && nat_le (mapped_count spaces) 65536

-- the spaces that the bytes spell, all of the bytes, or the least reason at the first item at which a rule breaks
unfoldable pub table_in : Header → List ℕ → Result (List Listed) Reason
table_in h bytes = do
  head ← head_at bytes
  spaces ← many (space_at h) (λ s. s.space) head.0 0 head.1
  if ends_rightly h spaces.0 spaces.1 then Ok spaces.0 else Err reason.Total

-- the digest of a file: of all that stands after the header, and of bytes 1 to 63
abbrev pub digest_of_file : List ℕ → List ℕ
digest_of_file file = sha256 (drop 4096 file ++ slice_range file 1 64)

-- whether an image of version 2 has another digest in its header than its file
unfoldable pub breaks_digest : Header → List ℕ → Bool
breaks_digest h file = version_number h.version == 2 && not (bytes_eq h.digest (digest_of_file file))

-- The header and the spaces that a whole file spells, whatever its gate; or the reason why it spells none: the header's
-- before the table's, and the digest's last.
abbrev pub file_in : List ℕ → Result (Header × List Listed) Reason
file_in file = do
  header ← header_in (slice_range file 0 4096) (length file)
  spaces ← table_in header (drop (4096 + 4096 * header.pages) file)
  if breaks_digest header file then Err reason.Digest else Ok (header, spaces)

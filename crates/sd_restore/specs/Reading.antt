-- What was read of a slot.
use Rattle.std.specs.Prelude.{◌≡◌, ℕ, ◌<◌, ◌+◌, ◌*◌, true, false, List, length, map, drop, Option, MatchOption}
use Rattle.std.specs.Prelude.{slice_range}
use Rattle.sd_disk.specs.Contents.{file_at}
use Rattle.sd_image.specs.declared.header.Header.{Header}
use Rattle.sd_image.specs.declared.header.Version.TheVariants.{Two}
use Rattle.sd_image.specs.Header.{header_text, IsHeader}
use Rattle.sd_image.specs.Reading.{digest_of_file}
use Rattle.sd_image.specs.Table.{listing_of, IsTable}
use Rattle.sd_image.specs.Image.{Image, IsImage, is_open}
use Rattle.sd_restore.specs.declared.decoded.Decoded.{Decoded}

-- an open file begins with this header
pub record HasHeader (file : List ℕ) (h : Header) : Type 0 where
  pub opens : is_open file ≡ true
  pub spelled : drop 1 (slice_range file 0 4096) ≡ header_text h
  pub is : IsHeader h (length file)

-- the bytes of a file's table, after a header and its data pages
abbrev pub table_bytes : Header → List ℕ → List ℕ
table_bytes h file = slice_range file (4096 + 4096 * h.pages) (4096 + 4096 * h.pages + h.table_len)

-- in version 2 a header has the digest of its file
abbrev pub HasDigestOf : List ℕ → Header → Type 0
HasDigestOf file h = h.version ≡ Two → h.digest ≡ digest_of_file file

-- a file that begins with a header of version 2 has its digest there
abbrev pub IsRightlyDigested : List ℕ → Type 0
IsRightlyDigested file = (h : Header) → HasHeader file h → HasDigestOf file h

-- so has each of these files
abbrev pub AreRightlyDigested : List (List ℕ) → Type 0
AreRightlyDigested files = (slot : ℕ) → IsRightlyDigested (file_at files slot)

-- a file is an image with this header and this table
pub record IsDecodedAs (file : List ℕ) (decoded : Decoded) : Type 0 where
  pub opens : is_open file ≡ true
  pub image : Image
  pub spelled : IsImage file image
  pub header : image.header ≡ decoded.header
  pub spaces : image.spaces ≡ map listing_of decoded.table.spaces.items

-- a slot is closed, or what was read is what its file says
abbrev pub IsReading : List ℕ → Option Decoded → Type 0
IsReading file opened = MatchOption opened (is_open file ≡ false) (IsDecodedAs file)

-- its table is a table, and its parent number is below the number that it stands for
pub record IsSoundTable (decoded : Decoded) : Type 0 where
  pub table : IsTable decoded.header (map listing_of decoded.table.spaces.items)
  pub falls : decoded.header.parent < decoded.header.stands_for

-- The end of an image's file: its table and its header.
use Rattle.std.specs.Prelude.{◌≡◌, ℕ, List, ◌++◌, length}
use Rattle.sha2.specs.Sha256.{sha256}
use Rattle.sd_image.specs.declared.digester.Digester.{Digester}
use Rattle.sd_image.specs.declared.header.Header.{Header}
use Rattle.sd_image.specs.declared.header.Version.TheVariants.{Two}
use Rattle.sd_image.specs.Digests.{HasFed}
use Rattle.sd_image.specs.Header.{HasWords, header_front}
use Rattle.sd_image.specs.Table.{Listed, table_text}
use Rattle.sd_gate.specs.Inspections.{nothing}
use Rattle.sd_gate.specs.Plans.{begun}
use Rattle.sd_gate.specs.Sequences.{body_calls}
use Rattle.sd_writing.specs.declared.ending.Ending.{Ending}
use Rattle.sd_writing.specs.declared.ending.ImageNumbers.{ImageNumbers}

-- the header of an image with these numbers
abbrev pub header_with : ImageNumbers → ℕ → ℕ → List ℕ → Header
header_with numbers pages table_len digest = record {
  version = Two;
  kind = numbers.kind;
  serial = numbers.serial;
  stands_for = numbers.stands_for;
  parent = numbers.parent;
  checkpoint = numbers.checkpoint;
  pages = pages;
  table_len = table_len;
  digest = digest;
}

-- The header of an image has these numbers, and counts its data pages and its table. Its digest is that of the data
-- pages, which the digester was fed, of the table and of the header's front.
pub record IsHeaderOf (fixed : ImageNumbers) (pages : ℕ) (digester : Digester) (tables : List Listed)
    (header : Header) : Type 0 where
  pub numbers : header ≡ header_with fixed pages (length (table_text tables)) header.digest
  pub digest : (fed : List ℕ) → HasFed digester fed
      → header.digest ≡ sha256 (fed ++ table_text tables ++ header_front header)
  pub words : HasWords header

-- the end of the image's file has this table and its header, and a plan writes both
pub record EndsFile (slot : ℕ) (numbers : ImageNumbers) (pages : ℕ) (digester : Digester) (tables : List Listed)
    (end : Ending) : Type 0 where
  pub table : end.table ≡ tables
  pub header : IsHeaderOf numbers pages digester tables end.header
  pub plan : end.plan ≡ begun slot (body_calls end.header (table_text tables)) nothing

-- The file of a merged image: it is an image that repeats its source.
use Rattle.std.specs.Prelude.{◌≡◌, ℕ, ◌<◌, List, length, Contains, Some}
use Rattle.sd_image.specs.declared.header.Header.{Header}
use Rattle.sd_image.specs.Image.{Image, IsImage, image_text}
use Rattle.sd_image.specs.Laws.{HaveTables, SerialsDiffer}
use Rattle.sd_image.specs.Shows.{IsRestorable}
use Rattle.sd_image.specs.Table.{Listed, table_text}
use Rattle.sd_chain.specs.Catalog.{Places}
use Rattle.sd_gate.specs.Laws.{pages_body}
use Rattle.sd_gate.specs.PlanRuns.{body_closed}
use Rattle.sd_gate.specs.Plans.{Planned}
use Rattle.sd_gate.specs.Requests.{Asked, Made}
use Rattle.sd_writing.specs.Files.{file_of, Pages, image_of}
use Rattle.sd_writing.specs.Entries.{ImageEntry, data_pages}
use Rattle.sd_store_laws.specs.Makers.{IsMergedOf}
use Rattle.sd_store_laws.specs.Store.{IsMergedCopy}
use Rattle.sd_merge.specs.declared.copy_order.CopyOrder.{CopyOrder}
use Rattle.sd_writing.specs.declared.written.Written.TheVariants as progress
use Rattle.sd_merge.specs.declared.merge_step.MergeStep.TheVariants as step
use Rattle.sd_merge.specs.declared.stage.Stage.{Stage}
use Rattle.sd_merge.specs.declared.stage.Stage.TheVariants.{Format, Pass as PassStage, PageRead, PageWrite, Close}
use Rattle.sd_merge.specs.Copying.{Copying, HandsIn, Steps, copy_numbers}
use Rattle.sd_writing.specs.Endings.{header_with}
use Rattle.sd_merge.specs.Gathered.{RepeatsTable}
use Rattle.sd_merge.specs.Merging.{IsSourceAt, KeepsCopy}

-- numbers that a merged image may have
pub record AreItsNumbers (order : CopyOrder) : Type 0 where
  pub stands : 0 < order.source.stands_for
  pub below : order.source.stands_for < order.serial
  pub checkpoint : 0 < order.source.checkpoint

-- the numbers that the merge was begun with are the source's
pub record HasItsNumbers (order : CopyOrder) (source : Image) : Type 0 where
  pub stands : order.source.stands_for ≡ source.header.stands_for
  pub checkpoint : order.source.checkpoint ≡ source.header.checkpoint

-- The file of a merged image whose table is written: it is the image with these data pages, which has the order's
-- numbers, exactly the pages that were taken, and the areas of its source.
pub record IsFiled (order : CopyOrder) (source : Image) (entries : List ImageEntry) (pages : Pages) (header : Header)
    (tables : List Listed) : Type 0 where
  pub spelled : IsImage (file_of (image_of header pages tables)) (image_of header pages tables)
  pub numbers : header ≡ header_with (copy_numbers order) (data_pages entries)
      (length (table_text tables)) header.digest
  pub table : RepeatsTable source.spaces entries header tables

abbrev pub IsFiledIn : Stage → CopyOrder → Image → List ImageEntry → Pages → Type 0
IsFiledIn (Format plan) order source entries pages = Unit {0}
IsFiledIn PassStage order source entries pages = Unit {0}
IsFiledIn (PageRead plan) order source entries pages = Unit {0}
IsFiledIn (PageWrite plan) order source entries pages = Unit {0}
IsFiledIn (Close plan header tables) order source entries pages = IsFiled order source entries pages header tables

-- what the file of a merged image in the making will say of its source
abbrev pub FilesCopy : Image → Pages → Copying → Type 0
FilesCopy source pages copy = IsFiledIn copy.stage copy.order source copy.entries pages

pub record FileLaws : Type 0 where
  -- the table is written
  pub files : (ticket : ℕ) (places : Places) (catalog : List Image) (source : Image) (pages : Pages) (old new : Copying)
      (request : Asked)
      → Steps ticket places old (step.TableCall request) new → IsSourceAt places catalog old.order.source.serial source
      → IsRestorable source → AreItsNumbers old.order
      → KeepsCopy catalog source pages old → FilesCopy source pages new
  -- the calls that wrote the data pages, and those that write the table and the header, spell that file
  pub fills : (order : CopyOrder) (source : Image) (entries : List ImageEntry) (pages : Pages) (header : Header)
      (tables : List Listed) → IsFiled order source entries pages header tables
      → body_closed (pages_body pages) header (table_text tables) ≡ image_text (image_of header pages tables)
  -- it stays so until the image is open
  pub asks : (ticket : ℕ) (places : Places) (source : Image) (pages : Pages) (old new : Copying) (request : Asked)
      → Steps ticket places old (step.Call request) new
      → FilesCopy source pages old → FilesCopy source pages new
  pub hands : (source : Image) (pages : Pages) (old new : Copying) (made : Made) → HandsIn old made progress.More new
      → FilesCopy source pages old → FilesCopy source pages new
  -- from then on, so also where its gate is opened, it is an image with the source's numbers and areas that holds what
  -- the source holds
  pub closes : (source : Image) (pages : Pages) (copy : Copying) (plan : Planned) (header : Header)
      (tables : List Listed) → copy.stage ≡ Close plan header tables
      → FilesCopy source pages copy → IsFiled copy.order source copy.entries pages header tables
  pub merged : (catalog : List Image) (source : Image) (pages : Pages) (copy : Copying) (plan : Planned)
      (header : Header) (tables : List Listed) → copy.stage ≡ Close plan header tables
      → FilesCopy source pages copy → KeepsCopy catalog source pages copy → HasItsNumbers copy.order source
      → SerialsDiffer catalog → HaveTables catalog → Contains catalog source
      → IsMergedOf catalog source (image_of header pages tables)
  -- with a serial above all others it is the copy of the merge that runs
  pub twin : (catalog : List Image) (source : Image) (pages : Pages) (copy : Copying) (plan : Planned) (header : Header)
      (tables : List Listed) → copy.stage ≡ Close plan header tables
      → FilesCopy source pages copy → KeepsCopy catalog source pages copy → HasItsNumbers copy.order source
      → SerialsDiffer catalog → HaveTables catalog → Contains catalog source
      → AreItsNumbers copy.order → ((j : Image) → Contains catalog j → j.header.serial < copy.order.serial)
      → IsMergedCopy catalog (Some source) (image_of header pages tables)

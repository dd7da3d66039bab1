-- The file of an image: what its text is once its table is written, and what the image holds.
use Rattle.std.specs.Prelude.{◌≡◌, ◌↔◌, ℕ, List, length, Contains, Some}
use Rattle.sd_image.specs.declared.header.Header.{Header}
use Rattle.sd_image.specs.declared.header.Kind.TheVariants.{Dump, PreDump}
use Rattle.sd_image.specs.declared.run.RunKind.{RunKind}
use Rattle.sd_image.specs.Image.{IsImage, image_text}
use Rattle.sd_image.specs.Shows.{IsMemory, IsNamed, pages_of}
use Rattle.sd_image.specs.Table.{Listed, table_text}
use Rattle.sd_gate.specs.Laws.{pages_body}
use Rattle.sd_gate.specs.PlanRuns.{body_closed}
use Rattle.sd_gate.specs.Requests.{Asked, Made}
use Rattle.sd_pagetable.specs.Contents.{Contents, page_at, plain_of}
use Rattle.sd_rounds.specs.declared.image_order.ImageOrder.{ImageOrder}
use Rattle.sd_writing.specs.declared.written.Written.TheVariants.{More}
use Rattle.sd_rounds.specs.declared.image_step.ImageStep.TheVariants.{Call, TableCall}
use Rattle.sd_writing.specs.declared.new_image.NewImage.{NewImage}
use Rattle.sd_rounds.specs.declared.stage.Stage.{Stage}
use Rattle.sd_rounds.specs.declared.stage.Stage.TheVariants.{Format, Freeze, Pass as PassStage, Close}
use Rattle.sd_rounds.specs.Dump.{IsDumped, right_kind}
use Rattle.sd_rounds.specs.Keeps.{Chain, ChainWithin, Rests}
use Rattle.sd_writing.specs.Files.{Pages, Stored, file_of, image_of, listed_pages}
use Rattle.sd_rounds.specs.Made.{HasTheAreas, IsImageOf}
use Rattle.sd_writing.specs.Entries.{Lists, Place, data_pages}
use Rattle.sd_rounds.specs.Making.{AreThePages, HandsIn, Making, Opens, Steps, image_numbers}
use Rattle.sd_writing.specs.Endings.{header_with}
use Rattle.sd_rounds.specs.MakingLaws.{AreItsNumbers, DumpsImage, KeepsImage}
use Rattle.sd_rounds.specs.Pass.{Pass}
use Rattle.sd_rounds.specs.Rises.{IsRising}

-- The file of an image whose table is written: it is the image with these data pages, which has the order's numbers and
-- the pass's entries.
pub record IsFiled (order : ImageOrder) (pass : Pass) (pages : Pages) (header : Header)
    (tables : List Listed) : Type 0 where
  pub spelled : IsImage (file_of (image_of header pages tables)) (image_of header pages tables)
  pub numbers : header
      ≡ header_with (image_numbers order) (data_pages pass.entries) (length (table_text tables)) header.digest
  pub lists : Lists pass.entries tables

abbrev pub IsFiledIn : Stage → ImageOrder → Pass → Pages → Type 0
IsFiledIn (Format plan) order pass pages = Unit {0}
IsFiledIn Freeze order pass pages = Unit {0}
IsFiledIn PassStage order pass pages = Unit {0}
IsFiledIn (Close plan header tables) order pass pages = IsFiled order pass pages header tables

-- what the file of an image in the making will say
abbrev pub FilesImage : Pages → Making → Type 0
FilesImage pages image = IsFiledIn image.stage image.order image.pass pages

-- its table has the areas of the memory at the freeze
abbrev pub HasAreasIn : Stage → Contents → Type 0
HasAreasIn (Format plan) cut = Unit {0}
HasAreasIn Freeze cut = Unit {0}
HasAreasIn PassStage cut = Unit {0}
HasAreasIn (Close plan header tables) cut = HasTheAreas (plain_of cut) tables

-- the tables have the areas that the memory had at the freeze
abbrev pub HasAreasAtFreeze : Contents → Making → Type 0
HasAreasAtFreeze cut image = HasAreasIn image.stage cut

pub record FileLaws : Type 0 where
  -- the entries of a dump are exactly the mapped pages
  pub entries : (stored : Stored) (chain : Chain) (cut memory : Contents) (pass : Pass) → IsDumped stored chain cut pass
      → plain_of memory ≡ plain_of cut
      → AreThePages pass.entries memory
  -- the table of a pre-dump is written, and that of a dump
  pub pre_dump : (ticket : ℕ) (pages : Pages) (chain : Chain) (old new : Making) (before after : Contents)
      (request : Asked) → Steps ticket old before (TableCall request) new after
      → old.order.kind ≡ PreDump → AreItsNumbers old.order → KeepsImage pages chain old before → FilesImage pages new
  pub dump : (ticket : ℕ) (cut : Contents) (pages : Pages) (chain : Chain) (old new : Making) (before after : Contents)
      (request : Asked) → Steps ticket old before (TableCall request) new after
      → old.order.kind ≡ Dump → AreItsNumbers old.order → IsRising old.pass → KeepsImage pages chain old before
      → DumpsImage cut pages chain old before
      → FilesImage pages new × HasAreasAtFreeze cut new
  -- the calls that wrote the data pages, and those that write the table and the header, spell that file
  pub fills : (order : ImageOrder) (pass : Pass) (pages : Pages) (header : Header) (tables : List Listed)
      → IsFiled order pass pages header tables
      → body_closed (pages_body pages) header (table_text tables) ≡ image_text (image_of header pages tables)
  -- it stays so until the image is open
  pub asks : (ticket : ℕ) (cut : Contents) (pages : Pages) (old new : Making) (before after : Contents)
      (request : Asked) → Steps ticket old before (Call request) new after
      → FilesImage pages old × HasAreasAtFreeze cut old → FilesImage pages new × HasAreasAtFreeze cut new
  pub hands : (cut : Contents) (pages : Pages) (old new : Making) (made : Made) → HandsIn old made More new
      → FilesImage pages old × HasAreasAtFreeze cut old → FilesImage pages new × HasAreasAtFreeze cut new
  -- the image is open: its file has its entries, and that of a dump shows the memory at the freeze
  pub opens : (pages : Pages) (chain : Chain) (old : Making) (made : Made) (opened : NewImage) → Opens old made opened
      → chain.number ≡ old.order.parent
      → FilesImage pages old
      → IsFiled old.order old.pass pages opened.header opened.table
      × IsImageOf (listed_pages pages) chain old.pass.entries (image_of opened.header pages opened.table)
  pub shows : (cut : Contents) (pages : Pages) (chain : Chain) (old : Making) (made : Made) (opened : NewImage)
      (memory : Contents) → Opens old made opened → chain.number ≡ old.order.parent
      → FilesImage pages old → HasAreasAtFreeze cut old → DumpsImage cut pages chain old memory
      → IsMemory chain.images (image_of opened.header pages opened.table) (plain_of cut)
  -- the table of a dump has exactly the pages of the memory at the freeze, each in the right way
  pub ways : (cut : Contents) (pages : Pages) (chain : Chain) (old : Making) (made : Made) (opened : NewImage)
      (memory : Contents) → Opens old made opened
      → FilesImage pages old → IsRising old.pass → DumpsImage cut pages chain old memory
      → (kind : RunKind) (at : Place)
      → Contains (pages_of kind opened.table) at ↔ right_kind old.pass.takes_all (page_at cut at.0 at.1) ≡ Some kind
  -- once it is among the images its number gives each clean page, and the next image may name it
  pub commits : (pages : Pages) (before after : Chain) (old : Making) (made : Made) (opened : NewImage)
      (memory : Contents) → Opens old made opened → after.number ≡ old.order.parent
      → FilesImage pages old → IsNamed after.images old.order.serial (image_of opened.header pages opened.table)
      → ChainWithin before after → KeepsImage pages before old memory
      → Rests (record { images = after.images; number = old.order.serial }) memory

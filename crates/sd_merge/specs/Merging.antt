-- What a merged image in the making has of its source, through each of its steps.
use Rattle.std.specs.Prelude.{◌≡◌, ℕ, ◌+◌, List, [], ◌∷◌, ◌++◌, length, map, replicate, Contains, slice_get, Option}
use Rattle.std.specs.Prelude.{Some}
use Rattle.std.specs.List.{AllByRecursion, concat}
use Rattle.sd_image.specs.declared.run.RunKind.TheVariants.{Data, Parent, Zero}
use Rattle.sd_image.specs.Digests.{HasFed}
use Rattle.sd_image.specs.Image.{Image}
use Rattle.sd_image.specs.Laws.{SerialsDiffer}
use Rattle.sd_image.specs.Shows.{Holds, IsRestorable}
use Rattle.sd_image.specs.Table.{IsTable, Listed}
use Rattle.sd_chain.specs.Catalog.{IsSoundCatalog, Opened, Places, images, place_of}
use Rattle.sd_chain.specs.Recorded.{Agrees, HaveDataPages, IsRecordedAs}
use Rattle.sd_chain.specs.Ways.{AreImages}
use Rattle.sd_gate.specs.declared.call.Call.TheVariants.{Read}
use Rattle.sd_gate.specs.Requests.{Asked, Made}
use Rattle.sd_gate.specs.Sequences.{data_place}
use Rattle.sd_writing.specs.Files.{Stored, listed_pages, Pages}
use Rattle.sd_writing.specs.Entries.{entries_listed, ImageEntry, Place, data_pages, pages_by, place_of_entry}
use Rattle.sd_store_laws.specs.Cut.{IsCut, KeepsItsNumber}
use Rattle.sd_store_laws.specs.Needed.{IsCalled}
use Rattle.sd_store_laws.specs.Reached.{Reaches}
use Rattle.sd_merge.specs.declared.copy_order.CopyOrder.{CopyOrder}
use Rattle.sd_writing.specs.declared.written.Written.TheVariants as progress
use Rattle.sd_merge.specs.declared.merge_step.MergeStep.{MergeStep}
use Rattle.sd_merge.specs.declared.merge_step.MergeStep.TheVariants as step
use Rattle.sd_merge.specs.declared.stage.Stage.{Stage}
use Rattle.sd_merge.specs.declared.stage.Stage.TheVariants.{Format, Pass as PassStage, PageRead, PageWrite, Close}
use Rattle.sd_merge.specs.Copying.{Copying, HandsIn, IsLost, IsReadyFor, Steps, begun_copy, is_taking}
use Rattle.sd_merge.specs.Sources.{few_pages, listed_count}

-- the pages of an image, in its order
abbrev pub listed_places : List Listed → List Place
listed_places spaces = map place_of_entry (entries_listed spaces)

-- Each entry is zeros that the source holds there, or a data page whose bytes, once its write is done, are those that
-- the source holds there.
pub record IsCopy (catalog : List Image) (source : Image) (stored : Stored) (entries : List ImageEntry) : Type 0 where
  pub zero : (at : Place) → Contains (pages_by Zero entries) at → Holds catalog at.0 at.1 (replicate 4096 0) source
  pub pages : (place : ℕ) (at : Place) → slice_get (pages_by Data entries) place ≡ Some at
      → (bytes : List ℕ) × (stored place ≡ Some bytes) × Holds catalog at.0 at.1 bytes source
  pub none : pages_by Parent entries ≡ []

-- the entries so far are the source's first pages, and the rest are to come
pub record IsMerging (catalog : List Image) (source : Image) (stored : Stored) (entries : List ImageEntry)
    (rest : List Place) : Type 0 where
  pub all : map place_of_entry entries ++ rest ≡ listed_places source.spaces
  pub copy : IsCopy catalog source stored entries

-- a page is the first of these
pub record IsFirstOf (rest : List Place) (at : Place) : Type 0 where
  pub later : List Place
  pub is : rest ≡ at ∷ later

-- after the pass no page is to come
abbrev pub IsOverIn : Stage → List Place → Type 0
IsOverIn (Format plan) rest = Unit {0}
IsOverIn PassStage rest = Unit {0}
IsOverIn (PageRead plan) rest = Unit {0}
IsOverIn (PageWrite plan) rest = Unit {0}
IsOverIn (Close plan header tables) rest = rest ≡ []

-- A merged image with these data pages, once the writes that are out are done, is a copy of its source so far: the page
-- that is being taken is the next of those to come, and what was read is what the source holds there.
pub record KeepsCopy (catalog : List Image) (source : Image) (pages : Pages) (copy : Copying) : Type 0 where
  pub count : length pages ≡ data_pages copy.entries
  pub whole : AllByRecursion (λ page. length page ≡ 4096) pages
  pub digested : HasFed copy.digester (concat pages)
  pub rest : List Place
  pub merging : IsMerging catalog source (listed_pages pages) copy.entries rest
  pub ahead : length rest ≡ is_taking copy.taking + copy.ahead
  pub taking : (at : Place) → copy.taking ≡ Some at → IsFirstOf rest at
  pub read : (at : Place) (bytes : List ℕ) → copy.taking ≡ Some at → copy.read ≡ Some bytes
      → (length bytes ≡ 4096) × Holds catalog at.0 at.1 bytes source
  pub over : IsOverIn copy.stage rest

-- the page whose write a step asks for is one more
abbrev pub pages_after : MergeStep → Pages → Pages
pages_after (step.Call request) pages = pages
pages_after (step.ReadCall request) pages = pages
pages_after (step.PageCall request) pages = pages ++ request.bytes ∷ []
pages_after (step.TableCall request) pages = pages
pages_after step.Zero pages = pages

-- the source is the image of a serial in the catalog, which has these images
pub record IsSourceAt (places : Places) (catalog : List Image) (serial : ℕ) (source : Image) : Type 0 where
  pub sound : IsSoundCatalog places
  pub are : AreImages places
  pub agrees : Agrees places catalog
  pub pages : HaveDataPages catalog
  pub opened : Opened
  pub there : place_of places serial ≡ Some (Some opened)
  pub among : Contains (images places) opened
  pub member : Contains catalog source
  pub told : IsRecordedAs opened source

-- A read of a data page of an image of the catalog, which the source reaches: the page's bytes are those that the
-- source holds at the page that is being taken.
pub record IsReadOf (places : Places) (catalog : List Image) (source : Image) (request : Asked)
    (page : Option Place) : Type 0 where
  pub at : Place
  pub taking : page ≡ Some at
  pub opened : Opened
  pub image : Image
  pub among : Contains (images places) opened
  pub member : Contains catalog image
  pub told : IsRecordedAs opened image
  pub slot : opened.slot ≡ request.id.slot
  pub reached : Reaches catalog image source
  pub place : ℕ
  pub call : request.id.call ≡ Read (data_place place)
  pub bytes : List ℕ
  pub stored : slice_get image.pages place ≡ Some bytes
  pub holds : Holds catalog at.0 at.1 bytes source

-- an outcome that is done of a read brings what the source holds at the page that is being taken
abbrev pub ReadsSource : Stage → List Image → Image → Option Place → Made → Type 0
ReadsSource (Format plan) catalog source taking made = Unit {0}
ReadsSource PassStage catalog source taking made = Unit {0}
ReadsSource (PageRead plan) catalog source taking made = (at : Place) → taking ≡ Some at
    → (length made.request.bytes ≡ 4096) × Holds catalog at.0 at.1 made.request.bytes source
ReadsSource (PageWrite plan) catalog source taking made = Unit {0}
ReadsSource (Close plan header tables) catalog source taking made = Unit {0}

-- what holds of every merged image in the making, in its stage
abbrev pub IsSoundCopy : Copying → Type 0
IsSoundCopy copy = IsReadyFor copy.entries copy.taking copy.read copy.stage

pub record MergeLaws : Type 0 where
  pub begins : (catalog : List Image) (source : Image) (order : CopyOrder) → IsTable source.header source.spaces
      → IsRestorable source
      → order.source.pages ≡ few_pages (listed_count source.spaces) → KeepsCopy catalog source [] (begun_copy order)
  pub steps : (ticket : ℕ) (places : Places) (catalog : List Image) (source : Image) (pages : Pages) (old new : Copying)
      (made : MergeStep)
      → Steps ticket places old made new → IsSoundCopy old → IsSourceAt places catalog old.order.source.serial source
      → KeepsCopy catalog source pages old → KeepsCopy catalog source (pages_after made pages) new
  -- a read that is asked for is that of the bytes that the source holds, in the file of an image that the source
  -- reaches
  pub reads : (ticket : ℕ) (places : Places) (catalog : List Image) (source : Image) (old new : Copying)
      (request : Asked)
      → Steps ticket places old (step.ReadCall request) new → IsSourceAt places catalog old.order.source.serial source
      → IsReadOf places catalog source request new.taking
  pub hands : (catalog : List Image) (source : Image) (pages : Pages) (old new : Copying) (made : Made)
      → HandsIn old made progress.More new → IsSoundCopy old
      → ReadsSource old.stage catalog source old.taking made → KeepsCopy catalog source pages old
      → KeepsCopy catalog source pages new
  -- a step is never lost while the source is in the catalog and holds each of its pages
  pub finds : (places : Places) (catalog : List Image) (source : Image) (pages : Pages) (copy : Copying)
      → IsSourceAt places catalog copy.order.source.serial source
      → ((at : Place) → Contains (listed_places source.spaces) at
      → (bytes : List ℕ) × Holds catalog at.0 at.1 bytes source)
      → KeepsCopy catalog source pages copy → IsLost places copy → ⊥
  -- images are added and closed: what the source holds stays
  pub stays : (catalog other : List Image) (source : Image) (pages : Pages) (copy : Copying)
      → ((space page : ℕ) (bytes : List ℕ) → Holds catalog space page bytes source
      → Holds other space page bytes source)
      → KeepsCopy catalog source pages copy → KeepsCopy other source pages copy
  -- so where the catalog is cut to what is needed, if the source's parent number is referenced
  pub goes_on : (catalog adding left : List Image) (jobs : List ℕ) (source : Image) (pages : Pages) (copy : Copying)
      → SerialsDiffer catalog → IsCut catalog adding jobs left
      → ((added : Image) → Contains adding added → KeepsItsNumber catalog jobs added)
      → IsCalled catalog jobs source.header.parent → KeepsCopy catalog source pages copy
      → KeepsCopy left source pages copy

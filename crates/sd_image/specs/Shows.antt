-- What the images of a store hold, and the memory that contents show.
use Rattle.std.specs.Prelude.{◌≡◌, ◌≢◌, ◌⊎◌, ℕ, ◌<◌, ◌≤◌, ◌==◌, if◌then◌else◌, List, [], map, Option, Some, None}
use Rattle.std.specs.Prelude.{MatchOption, Contains, slice_get, replicate}
use Rattle.std.specs.List.{flat_map, list_any, IsDistinct}
use Rattle.std.specs.Option.{option_and_then}
use Rattle.std.specs.FinMap as finmap
use Rattle.sd_areas.specs.Areas.{prot_in}
use Rattle.sd_areas.specs.PlainMemory.{Page, PlainMemory}
use Rattle.sd_image.specs.declared.header.Kind.TheVariants.{PreDump}
use Rattle.sd_image.specs.declared.run.RunKind.{RunKind}
use Rattle.sd_image.specs.declared.run.RunKind.TheVariants.{Data, Parent, Zero}
use Rattle.sd_image.specs.Words.{run_kind_number}
use Rattle.sd_image.specs.Table.{Listed, run_pages}
use Rattle.sd_image.specs.Image.{Image, OpenImages}

-- the pages, with their spaces, that an image has in one way, in the order of its runs
abbrev pub pages_of : RunKind → List Listed → List (ℕ × ℕ)
pages_of kind = flat_map (λ (s : Listed).
    flat_map (λ r. if run_kind_number r.kind == run_kind_number kind then map (λ page. (s.space, page)) (run_pages r)
    else []) s.runs)

-- the image that a number names: of those that stand for it, the one with the greatest serial
pub record IsNamed (images : List Image) (number : ℕ) (i : Image) : Type 0 where
  pub member : Contains images i
  pub stands : i.header.stands_for ≡ number
  pub greatest : (j : Image) → Contains images j → j.header.stands_for ≡ number → j.header.serial ≤ i.header.serial

-- An image of these holds the bytes of a page: its data page at the place that the page has among those with data;
-- or zeros; or what the image holds that its parent number names.
pub data Holds (images : List Image) (space page : ℕ) (bytes : List ℕ) : Image → Type 0 where
  by_data : (i : Image) (place : ℕ) → slice_get (pages_of Data i.spaces) place ≡ Some (space, page)
      → slice_get i.pages place ≡ Some bytes → Holds images space page bytes i
  by_zero : (i : Image) → Contains (pages_of Zero i.spaces) (space, page) → bytes ≡ replicate 4096 0
      → Holds images space page bytes i
  by_parent : (i parent : Image) → Contains (pages_of Parent i.spaces) (space, page)
      → IsNamed images i.header.parent parent → Holds images space page bytes parent → Holds images space page bytes i

-- a page of a memory, where its space is alive and has it
abbrev pub page_in : PlainMemory → ℕ → ℕ → Option Page
page_in memory space page = option_and_then (λ pages. finmap.get pages page) (finmap.get memory space)

-- the memory that an image of these stands for: its spaces are alive, and each page of its areas has their permissions
-- and the bytes that it holds
pub record IsMemory (images : List Image) (i : Image) (memory : PlainMemory) : Type 0 where
  pub alive : (space : ℕ) → finmap.contains_key memory space ≡ list_any (λ (s : Listed). s.space == space) i.spaces
  pub pages : (s : Listed) → Contains i.spaces s → (page : ℕ) → MatchOption (page_in memory s.space page)
      (prot_in s.areas page ≡ None)
      (λ found. (prot_in s.areas page ≡ Some found.prot) × Holds images s.space page found.bytes i)

-- dumps and merged images are restored; a pre-dump alone never is
abbrev pub IsRestorable : Image → Type 0
IsRestorable i = i.header.kind ≢ PreDump

-- the order of the pairs (checkpoint, serial)
abbrev pub IsNotAfter : Image → Image → Type 0
IsNotAfter i j = (i.header.checkpoint < j.header.checkpoint)
    ⊎ ((i.header.checkpoint ≡ j.header.checkpoint) × (i.header.serial ≤ j.header.serial))

-- the image with the greatest pair of those that are restored
pub record IsTip (images : List Image) (i : Image) : Type 0 where
  pub member : Contains images i
  pub restorable : IsRestorable i
  pub greatest : (j : Image) → Contains images j → IsRestorable j → IsNotAfter j i

-- every open slot is an image, and no two have one serial
pub record IsStore (contents : List (List ℕ)) (images : List Image) : Type 0 where
  pub slots : OpenImages contents images
  pub serials : IsDistinct (λ a b. a == b) (map (λ (i : Image). i.header.serial) images)

-- images show nothing saved, or the checkpoint and the memory of their tip
abbrev pub ImagesShow : List Image → Option (ℕ × PlainMemory) → Type 0
ImagesShow images shown = MatchOption shown
    ((i : Image) → Contains images i → IsRestorable i → ⊥)
    (λ moment. (i : Image) × IsTip images i × (i.header.checkpoint ≡ moment.0) × IsMemory images i moment.1)

-- contents show nothing saved, or a checkpoint's number and memory
pub record Shows (contents : List (List ℕ)) (shown : Option (ℕ × PlainMemory)) : Type 0 where
  pub images : List Image
  pub store : IsStore contents images
  pub newest : ImagesShow images shown

-- What whoever makes an image has to show of it.
use Rattle.std.specs.Prelude.{◌≡◌, ◌↔◌, ◌⊎◌, ℕ, ◌<◌, ◌==◌, List, [], ◌∷◌, Some, None, IfSome, MatchOption, Contains}
use Rattle.std.specs.Prelude.{replicate, slice_get}
use Rattle.std.specs.List.{list_any}
use Rattle.std.specs.FinMap as finmap
use Rattle.sd_areas.specs.Areas.{prot_in}
use Rattle.sd_areas.specs.PlainMemory.{PlainMemory}
use Rattle.sd_image.specs.declared.run.RunKind.TheVariants.{Data, Parent, Zero}
use Rattle.sd_image.specs.Image.{Image}
use Rattle.sd_image.specs.Shows.{Holds, ImagesShow, page_in, pages_of}
use Rattle.sd_image.specs.Table.{Listed}
use Rattle.sd_store_laws.specs.Below.{GivesByNumber}
use Rattle.sd_store_laws.specs.Cut.{Repeats, areas_of_spaces}
use Rattle.sd_store_laws.specs.Store.{IsFresh, IsNextDump, IsSoundStore, Store, jobs}

-- an image has these bytes at a page: among its data pages, or as zeros
abbrev pub HasItself : Image → ℕ → ℕ → List ℕ → Type 0
HasItself i space page bytes =
    ((place : ℕ) × (slice_get (pages_of Data i.spaces) place ≡ Some (space, page))
    × (slice_get i.pages place ≡ Some bytes))
    ⊎ (Contains (pages_of Zero i.spaces) (space, page) × (bytes ≡ replicate 4096 0))

-- An image without a page in its parent, with the source's checkpoint, number and areas, that has at each page what the
-- source holds, repeats it.
pub record IsMergedOf (images : List Image) (source one : Image) : Type 0 where
  pub checkpoint : one.header.checkpoint ≡ source.header.checkpoint
  pub stands : one.header.stands_for ≡ source.header.stands_for
  pub areas : areas_of_spaces one ≡ areas_of_spaces source
  pub whole : pages_of Parent one.spaces ≡ []
  pub bytes : (space page : ℕ) (bytes : List ℕ) → HasItself one space page bytes ↔ Holds images space page bytes source

abbrev pub MergedRepeats : Type 0
MergedRepeats = (images : List Image) (source one : Image) → IsMergedOf images source one → Repeats images source one

-- an image has these bytes at a page itself, or its parent number gives them
abbrev pub HasOver : List Image → Image → ℕ → ℕ → List ℕ → Type 0
HasOver images i space page bytes =
    HasItself i space page bytes
    ⊎ (Contains (pages_of Parent i.spaces) (space, page) × GivesByNumber images i.header.parent space page bytes)

-- a dump has a memory: its spaces are alive, and it has the bytes of each page of its areas
pub record HasMemory (images : List Image) (i : Image) (memory : PlainMemory) : Type 0 where
  pub alive : (space : ℕ) → finmap.contains_key memory space ≡ list_any (λ (s : Listed). s.space == space) i.spaces
  pub pages : (s : Listed) → Contains i.spaces s → (page : ℕ) → MatchOption (page_in memory s.space page)
      (prot_in s.areas page ≡ None)
      (λ found. (prot_in s.areas page ≡ Some found.prot) × HasOver images i s.space page found.bytes)

-- With the running checkpoint's dump, that has a memory over the images of the store, the images show its checkpoint
-- and that memory.
abbrev pub DumpShows : Type 0
DumpShows =
    (s : Store) (dump : Image) (memory : PlainMemory) → IsSoundStore s → IsNextDump s dump
    → HasMemory s.catalog dump memory
    → ImagesShow (dump ∷ s.catalog) (Some (dump.header.checkpoint, memory))

-- a number above all serials, numbers and parents of a store's images, its jobs' numbers and its source's number
pub record IsAboveStore (s : Store) (number : ℕ) : Type 0 where
  pub serials : (i : Image) → Contains s.catalog i → i.header.serial < number
  pub stands : (i : Image) → Contains s.catalog i → i.header.stands_for < number
  pub parents : (i : Image) → Contains s.catalog i → i.header.parent < number
  pub jobs : (asked : ℕ) → Contains (jobs s) asked → asked < number
  pub source : IfSome s.source (λ source. source.header.stands_for < number)

-- An image with such a number is fresh.
abbrev pub AboveIsFresh : Type 0
AboveIsFresh = (s : Store) (i : Image) → i.header.stands_for ≡ i.header.serial → i.header.parent < i.header.stands_for
    → IsAboveStore s i.header.serial → IsFresh s i

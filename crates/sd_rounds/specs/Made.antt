-- The image that a pass made.
use Rattle.std.specs.Prelude.{◌≡◌, ℕ, ◌<◌, ◌==◌, List, [], ◌∷◌, ◌++◌, length, Contains, slice_get, Some}
use Rattle.std.specs.List.{list_any}
use Rattle.std.specs.Option.{option_map}
use Rattle.std.specs.FinMap as finmap
use Rattle.sd_areas.specs.Areas.{prot_in}
use Rattle.sd_areas.specs.PlainMemory.{PlainMemory}
use Rattle.sd_areas.specs.PlainMemory as plain
use Rattle.sd_image.specs.Image.{Image}
use Rattle.sd_image.specs.Shows.{Holds, IsMemory, IsNamed, page_in}
use Rattle.sd_image.specs.Table.{Listed}
use Rattle.sd_pagetable.specs.Contents.{Contents, plain_of}
use Rattle.sd_writing.specs.Entries.{ImageEntry, Lists, Place, data_pages}
use Rattle.sd_rounds.specs.Pass.{Taking, Pass, taken_as_data}
use Rattle.sd_writing.specs.Files.{Stored, listed_pages}
use Rattle.sd_rounds.specs.Keeps.{Chain, EntriesGive, Gave, Keeps, Rests, ChainWithin}
use Rattle.sd_rounds.specs.Dump.{IsDumped}

-- the image of these entries, above what its parent number names
pub record IsImageOf (stored : Stored) (chain : Chain) (entries : List ImageEntry) (i : Image) : Type 0 where
  pub parent : i.header.parent ≡ chain.number
  pub lists : Lists entries i.spaces
  pub pages : (place : ℕ) → place < data_pages entries → slice_get i.pages place ≡ stored place

-- the spaces and areas of a table are those of a memory
pub record HasTheAreas (memory : PlainMemory) (spaces : List Listed) : Type 0 where
  pub alive : (space : ℕ) → finmap.contains_key memory space ≡ list_any (λ (s : Listed). s.space == space) spaces
  pub areas : (s : Listed) → Contains spaces s → (page : ℕ)
      → prot_in s.areas page ≡ option_map (λ (found : plain.Page). found.prot) (page_in memory s.space page)

pub record MadeLaws : Type 0 where
  pub holds : (stored : Stored) (chain : Chain) (entries : List ImageEntry) (i : Image) (at : Place) (bytes : List ℕ)
      → IsImageOf stored chain entries i
      → EntriesGive stored chain entries at bytes → Holds chain.images at.0 at.1 bytes i
  -- the dump has the memory at the freeze
  pub dumps : (stored : Stored) (chain : Chain) (cut : Contents) (pass : Pass) (i : Image)
      → IsImageOf stored chain pass.entries i → HasTheAreas (plain_of cut) i.spaces
      → IsDumped stored chain cut pass → IsMemory chain.images i (plain_of cut)
  -- a page write is taken up: its bytes stand after the pages before it, once it is done
  pub takes_up : (pages : List (List ℕ)) (chain : Chain) (pass : Pass) (memory : Contents) (taking : Taking)
      → pass.taking ≡ Some taking → length taking.copied ≡ 4096
      → length pages ≡ data_pages pass.entries → Keeps (listed_pages pages) chain pass memory
      → Keeps (listed_pages (pages ++ taking.copied ∷ [])) chain (taken_as_data pass taking) memory
  -- the image enters the catalog: from then on the chain ends at it
  pub commits : (stored : Stored) (before after : Chain) (entries : List ImageEntry) (memory : Contents) (i : Image)
      → IsImageOf stored after entries i
      → IsNamed after.images i.header.stands_for i → ChainWithin before after
      → Gave stored before entries memory
      → Rests (record { images = after.images; number = i.header.stands_for }) memory

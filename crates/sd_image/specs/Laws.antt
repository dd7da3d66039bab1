-- What the layers above use of images and of what contents show, each a law that a function with an empty body carries.
use Rattle.std.specs.Prelude.{◌≡◌, ℕ, ◌+◌, ◌*◌, ◌<◌, ◌≤◌, ◌^◌, true, false, if◌then◌else◌, List, [], ◌∷◌, length, drop}
use Rattle.std.specs.Prelude.{take, All, Contains, replicate, slice_get, slice_index_or, slice_range, slice_set, Option}
use Rattle.std.specs.Prelude.{Some, None, Ok}
use Rattle.std.specs.List.{AllByRecursion}
use Rattle.std.specs.FinMap as finmap
use Rattle.sd_areas.specs.declared.prot.Prot.{Prot}
use Rattle.sd_areas.specs.Pages.{is_within}
use Rattle.sd_areas.specs.PlainMemory.{PlainMemory}
use Rattle.sd_image.specs.declared.header.Header.{Header}
use Rattle.sd_image.specs.declared.header.Version.TheVariants.{One, Two}
use Rattle.sd_image.specs.declared.header.Kind.TheVariants.{Dump}
use Rattle.sd_image.specs.declared.run.Run.{Run}
use Rattle.sd_image.specs.declared.run.RunKind.{RunKind}
use Rattle.sd_image.specs.declared.run.RunKind.TheVariants.{Data}
use Rattle.sd_image.specs.Header.{AreNumbers, HasWords, IsHeader, header_text}
use Rattle.sd_image.specs.Reading.{digest_of_file, header_in}
use Rattle.sd_image.specs.Table.{AreRuns, IsTable, Listed, table_text}
use Rattle.sd_image.specs.Image.{HasItsDigest, Image, IsImage, OpenImages, gate, image_text, is_open}
use Rattle.sd_image.specs.Shows.{Holds, IsMemory, IsNamed, IsRestorable, IsStore, IsTip, Shows, pages_of}

-- A file has at most one image.
abbrev pub OneImage : Type 0
OneImage = (file : List ℕ) (i j : Image) → IsImage file i → IsImage file j → i ≡ j

-- An image has one spelling.
abbrev pub OneSpelling : Type 0
OneSpelling = (one other : List ℕ) (i : Image) → IsImage one i → IsImage other i → one ≡ other

-- in which way a list of runs has a page
abbrev pub kind_in : List Run → ℕ → Option RunKind
kind_in [] page = None
kind_in (run ∷ runs) page = if is_within run.first run.count page then Some run.kind else kind_in runs page

-- There is one list of runs that has each page in its way.
abbrev pub OneListOfRuns : Type 0
OneListOfRuns = (parent : ℕ) (one other : List Run) → AreRuns parent None one → AreRuns parent None other
    → ((page : ℕ) → kind_in one page ≡ kind_in other page) → one ≡ other

-- Contents have at most one list of open images.
abbrev pub OneStore : Type 0
OneStore = (contents : List (List ℕ)) (images others : List Image) → OpenImages contents images
    → OpenImages contents others → images ≡ others

-- In a store a number names at most one image.
abbrev pub NamedOnce : Type 0
NamedOnce = (contents : List (List ℕ)) (images : List Image) (number : ℕ) (i j : Image)
    → IsStore contents images → IsNamed images number i → IsNamed images number j → i ≡ j

-- A store has at most one tip.
abbrev pub TipOnce : Type 0
TipOnce = (contents : List (List ℕ)) (images : List Image) (i j : Image)
    → IsStore contents images → IsTip images i → IsTip images j → i ≡ j

-- An image of a store holds at most one page's bytes at each page.
abbrev pub HeldOnce : Type 0
HeldOnce = (contents : List (List ℕ)) (images : List Image) (space page : ℕ) (one other : List ℕ) (i : Image)
    → IsStore contents images → Contains images i → Holds images space page one i → Holds images space page other i
    → one ≡ other

-- no two images have one serial
abbrev pub SerialsDiffer : List Image → Type 0
SerialsDiffer images = (i j : Image) → Contains images i → Contains images j → i.header.serial ≡ j.header.serial → i ≡ j

-- the tables of images are tables
abbrev pub HaveTables : List Image → Type 0
HaveTables images = (i : Image) → Contains images i → IsTable i.header i.spaces

-- Also without contents: where serials differ and tables are tables, an image holds at most one page's bytes at each
-- page.
abbrev pub HeldOnceAmong : Type 0
HeldOnceAmong = (images : List Image) (space page : ℕ) (one other : List ℕ) (i : Image)
    → SerialsDiffer images → HaveTables images → Contains images i → Holds images space page one i
    → Holds images space page other i → one ≡ other

-- Contents show at most one thing.
abbrev pub ShownOnce : Type 0
ShownOnce = (contents : List (List ℕ)) (one other : Option (ℕ × PlainMemory)) → Shows contents one
    → Shows contents other → one ≡ other

-- In a table a page has at most one place among the pages that the image has in one way.
abbrev pub OnePlace : Type 0
OnePlace = (h : Header) (spaces : List Listed) (kind : RunKind) (page : ℕ × ℕ) (place other : ℕ) → IsTable h spaces
    → slice_get (pages_of kind spaces) place ≡ Some page → slice_get (pages_of kind spaces) other ≡ Some page
    → place ≡ other

-- A table has a page in at most one way.
abbrev pub OneKind : Type 0
OneKind = (h : Header) (spaces : List Listed) (kind other : RunKind) (page : ℕ × ℕ) → IsTable h spaces
    → Contains (pages_of kind spaces) page → Contains (pages_of other spaces) page → kind ≡ other

-- A table has no more pages in one way than 16 spaces of 2^35 pages have.
abbrev pub FewPages : Type 0
FewPages =
    (h : Header) (spaces : List Listed) (kind : RunKind) → IsTable h spaces → length (pages_of kind spaces) ≤ 2 ^ 39

-- An open file whose header and table are image text, and whose digest is right in version 2, is an image with them.
abbrev pub FileIsImage : Type 0
FileIsImage = (file : List ℕ) (h : Header) (spaces : List Listed) → is_open file ≡ true
    → drop 1 (take 4096 file) ≡ header_text h → IsHeader h (length file)
    → drop (4096 + 4096 * h.pages) file ≡ table_text spaces → IsTable h spaces
    → (h.version ≡ Two → h.digest ≡ digest_of_file file)
    → (i : Image) × IsImage file i × (i.header ≡ h) × (i.spaces ≡ spaces)

-- what an image needs so that its text is its file: numbers that go together, a table, the data pages that it counts,
-- and its digest
pub record IsComplete (i : Image) : Type 0 where
  pub words : HasWords i.header
  pub serial : 0 < i.header.serial
  pub numbers : AreNumbers i.header.kind i.header.serial i.header.stands_for i.header.parent
  pub checkpoint : 0 < i.header.checkpoint
  pub table : IsTable i.header i.spaces
  pub stored : length i.pages ≡ i.header.pages
  pub whole : AllByRecursion (λ page. length page ≡ 4096) i.pages
  pub table_len : i.header.table_len ≡ length (table_text i.spaces)
  pub digest : HasItsDigest i

-- The text of a complete image, after an open gate, is an open file, and is that image.
abbrev pub TextIsImage : Type 0
TextIsImage = (i : Image) → IsComplete i → IsImage (gate ∷ image_text i) i × (is_open (gate ∷ image_text i) ≡ true)

-- A header that is read in the first 4,096 bytes of a file is spelled so, and its numbers fill the file.
abbrev pub HeaderFillsFile : Type 0
HeaderFillsFile = (bytes : List ℕ) (len : ℕ) (h : Header) → length bytes ≡ 4096 → All (λ byte. byte < 256) bytes
    → header_in bytes len ≡ Ok h
    → (drop 1 bytes ≡ header_text h) × IsHeader h len

-- A data page stands in its image's file after the header and the data pages before it.
abbrev pub PageInFile : Type 0
PageInFile = (file : List ℕ) (i : Image) (page : ℕ × ℕ) (place : ℕ) → IsImage file i
    → slice_get (pages_of Data i.spaces) place ≡ Some page
    → (4096 + 4096 * place + 4096 ≤ length file)
    × (slice_get i.pages place ≡ Some (slice_range file (4096 + 4096 * place) (4096 + 4096 * place + 4096)))

-- a dump of one page in version 1, the first image of its store
abbrev pub first_image : ℕ → ℕ → ℕ → Prot → List ℕ → Image
first_image n space page prot bytes = record {
  header = record {
    version = One;
    kind = Dump;
    serial = n;
    stands_for = n;
    parent = 0;
    checkpoint = n;
    pages = 1;
    table_len = 72;
    digest = replicate 32 0;
  };
  pages = bytes ∷ [];
  spaces = record {
    space = space;
    areas = record { first = page; count = 1; prot = prot } ∷ [];
    runs = record { first = page; count = 1; kind = Data } ∷ [];
  } ∷ [];
}

-- one space with one page
abbrev pub first_memory : ℕ → ℕ → Prot → List ℕ → PlainMemory
first_memory space page prot bytes =
    finmap.insert finmap.empty space (finmap.insert finmap.empty page (record { prot = prot; bytes = bytes }))

-- A file that spells a dump of one page, alone in its store, shows that page. So there are contents that show a memory.
abbrev pub FirstImageIsShown : Type 0
FirstImageIsShown = (n space page : ℕ) (prot : Prot) (bytes : List ℕ)
    → 0 < n → n < 2 ^ 64 → 0 < space → space ≤ 16 → page < 2 ^ 35 → length bytes ≡ 4096
    → Shows ((gate ∷ image_text (first_image n space page prot bytes)) ∷ [])
    (Some (n, first_memory space page prot bytes))

-- every number of these images is below n
abbrev pub AreBelow : ℕ → List Image → Type 0
AreBelow n = All (λ (i : Image). (i.header.serial < n) × (i.header.checkpoint < n))

-- The slots are a store, and every number in it is below n: an image with this number may be written.
pub record IsReady (contents : List (List ℕ)) (n : ℕ) : Type 0 where
  pub images : List Image
  pub store : IsStore contents images
  pub below : AreBelow n images

-- Once the image with this number stands in a slot that was closed, the store is ready for the next number.
abbrev pub ReadyAgain : Type 0
ReadyAgain = (contents : List (List ℕ)) (n slot : ℕ) (file : List ℕ) (i : Image)
    → IsReady contents n → slot < length contents → is_open (slice_index_or contents slot []) ≡ false
    → IsImage file i → i.header.serial ≡ n → i.header.checkpoint ≡ n
    → IsReady (slice_set contents slot file) (n + 1)

-- What is written after a closed gate leaves a store as ready as it was.
abbrev pub ReadyStill : Type 0
ReadyStill = (contents : List (List ℕ)) (n slot : ℕ) (file : List ℕ)
    → IsReady contents n → slot < length contents → is_open (slice_index_or contents slot []) ≡ false
    → is_open file ≡ false
    → IsReady (slice_set contents slot file) n

-- What is written after a closed gate leaves what contents show.
abbrev pub ShownStill : Type 0
ShownStill = (contents : List (List ℕ)) (shown : Option (ℕ × PlainMemory)) (slot : ℕ) (file : List ℕ)
    → Shows contents shown → slot < length contents → is_open (slice_index_or contents slot []) ≡ false
    → is_open file ≡ false
    → Shows (slice_set contents slot file) shown

-- A store that is ready for a number is ready for each higher one.
abbrev pub ReadyAbove : Type 0
ReadyAbove = (contents : List (List ℕ)) (m n : ℕ) → m ≤ n → IsReady contents m → IsReady contents n

-- the memory of an image that needs no other
abbrev pub IsWholeMemory : Image → PlainMemory → Type 0
IsWholeMemory i memory = (images : List Image) → IsMemory images i memory

-- A whole image, written into a closed slot with numbers above all others, is what contents then show.
abbrev pub NewestIsShown : Type 0
NewestIsShown =
    (contents : List (List ℕ)) (images : List Image) (slot : ℕ) (file : List ℕ) (i : Image) (memory : PlainMemory)
    → IsStore contents images → AreBelow i.header.checkpoint images → i.header.serial ≡ i.header.checkpoint
    → slot < length contents → is_open (slice_index_or contents slot []) ≡ false
    → is_open file ≡ true → IsImage file i → IsRestorable i → IsWholeMemory i memory
    → Shows (slice_set contents slot file) (Some (i.header.checkpoint, memory))

-- The documents of a store, each with its members in the order of their names.
use Rattle.std.specs.Prelude.{◌≡◌, ℕ, ◌==◌, ◌-◌, ◌^◌, List, [], ◌∷◌, codes, length, filter, map, min, sum_by, All}
use Rattle.std.specs.Prelude.{Option, None, Some}
use Rattle.std.specs.Option.{option_map}
use Rattle.hex.specs.Hex.{encode_lower}
use Rattle.serde_json.specs.Data.{Data, null, number, unsigned, string, array, object, member, no_members, put}
use Rattle.serde_json.specs.View.{items_of}
use Rattle.serde_json.specs.Written.{compact_text}
use Rattle.sd_areas.specs.declared.area.Area.{Area}
use Rattle.sd_areas.specs.PlainMemory.{PlainMemory}
use Rattle.sd_areas.specs.Prot.{prot_bits}
use Rattle.sd_image.specs.declared.header.Header.{Header}
use Rattle.sd_image.specs.Image.{is_open}
use Rattle.sd_image.specs.ReasonLaws.{reason_number}
use Rattle.sd_image.specs.Shows.{Shows}
use Rattle.sd_image.specs.Table.{Listed}
use Rattle.sd_image.specs.Words.{kind_number, version_number}
use Rattle.sd_restore.specs.At.{ShowsAt}
use Rattle.sd_chain.specs.declared.found.Found.{Found}
use Rattle.sd_chain.specs.declared.found.Found.TheVariants as found
use Rattle.sd_chain.specs.Catalog.{IsDumpOrMerged, IsTip, Opened, Places, images}
use Rattle.sd_chain.specs.Store.{IsCatalogOf}
use Rattle.sd_readers.specs.declared.steady.Reader.TheVariants as reader
use Rattle.sd_restore.specs.declared.placed_run.PlacedRun.{PlacedRun}
use Rattle.sd_restore.specs.Placed.{IsLaidOut, placed_pages}
use Rattle.sd_restore.specs.declared.fault.Fault.{Fault}
use Rattle.sd_restore.specs.declared.fault.Fault.TheVariants as fault
use Rattle.sd_readers.specs.declared.at.ReaderAt.TheVariants as at
use Rattle.sd_json.specs.declared.moment.Document.{Document}
use Rattle.sd_json.specs.declared.moment.Document.TheVariants as asked
use Rattle.sd_show.specs.Numbers.{number_members}
use Rattle.sd_show.specs.Phrases.{reason_phrase}

-- a count, a number, a serial
abbrev pub counted : ℕ → Data
counted n = number (unsigned n)

-- a number, or null where there is none
abbrev pub optional : Option ℕ → Data
optional None = null
optional (Some n) = counted n

-- the number of a checkpoint, or null, and how many images are open
abbrev pub verdict : Option ℕ → ℕ → Data
verdict checkpoint images =
    object (member (codes "checkpoint") (optional checkpoint) (member (codes "images") (counted images) no_members))

-- a document has the number of the checkpoint that contents show, or null where they show none, and how many of their
-- images are open
pub record IsVerdict (contents : List (List ℕ)) (document : Data) : Type 0 where
  pub shown : Option (ℕ × PlainMemory)
  pub shows : Shows contents shown
  pub is : document ≡ verdict (option_map (λ moment. moment.0) shown) (length (filter is_open contents))

-- the fields of a header
abbrev pub fields : Header → Data
fields header = object (put (codes "digest") (string (encode_lower header.digest)) (number_members (
    (codes "version", version_number header.version) ∷ (codes "kind", kind_number header.kind)
    ∷ (codes "serial", header.serial) ∷ (codes "stands_for", header.stands_for) ∷ (codes "parent", header.parent)
    ∷ (codes "checkpoint", header.checkpoint) ∷ (codes "pages", header.pages)
    ∷ (codes "table_len", header.table_len) ∷ [])))

-- the slot of an image, and its header
abbrev pub entry : Opened → Data
entry image = object (put (codes "header") (fields image.header) (number_members ((codes "slot", image.slot) ∷ [])))

-- images that are shown so, and the serial of the newest dump or merged one, or null
abbrev pub shown_with : List Data → Option ℕ → Data
shown_with shown tip =
    object (member (codes "images") (array (items_of shown)) (member (codes "tip") (optional tip) no_members))

-- the images in their order, with that serial
abbrev pub listing : List Opened → Option ℕ → Data
listing all = shown_with (map entry all)

-- it is the serial of the newest dump or merged image of a catalog, if there is one
abbrev pub IsTipSerial : Places → Option ℕ → Type 0
IsTipSerial places None = All (λ i. IsDumpOrMerged i → ⊥) (images places)
IsTipSerial places (Some serial) = (i : Opened) × IsTip places i × (serial ≡ i.header.serial)

-- a document has the images of contents, rising by serial
pub record IsListing (contents : List (List ℕ)) (document : Data) : Type 0 where
  pub places : Places
  pub catalog : IsCatalogOf contents places
  pub tip : Option ℕ
  pub newest : IsTipSerial places tip
  pub is : document ≡ listing (images places) tip

-- how many pages runs have, as far as 64 bits hold it
abbrev pub page_count : List PlacedRun → ℕ
page_count runs = min (sum_by (λ (r : PlacedRun). r.count) runs) (2 ^ 64 - 1)

-- how many pages of a run are zeros without bytes in a file
abbrev pub zeros_there : Found → ℕ → ℕ
zeros_there found.Zero count = count
zeros_there (found.Data slot offset) count = 0

-- how many pages of runs are, as far as 64 bits hold it
abbrev pub zero_count : List PlacedRun → ℕ
zero_count runs = min (sum_by (λ (r : PlacedRun). zeros_there r.there r.count) runs) (2 ^ 64 - 1)

-- the runs of a space
abbrev pub runs_of : ℕ → List PlacedRun → List PlacedRun
runs_of space = filter (λ (r : PlacedRun). r.space == space)

-- first page, page count and permissions of an area
abbrev pub area_fields : Area → Data
area_fields area = object (number_members ((codes "first", area.first) ∷ (codes "count", area.count)
    ∷ (codes "permissions", prot_bits area.prot) ∷ []))

-- a space with its areas, and how many of these pages are its
abbrev pub space_fields : List PlacedRun → Listed → Data
space_fields runs s = object (put (codes "areas") (array (items_of (map area_fields s.areas))) (number_members (
    (codes "space", s.space) ∷ (codes "pages", page_count (runs_of s.space runs))
    ∷ (codes "zeros", zero_count (runs_of s.space runs)) ∷ [])))

-- a memory: its checkpoint, its spaces, and how many pages there are
abbrev pub memory_fields : ℕ → List Listed → List PlacedRun → Data
memory_fields n spaces runs = object (put (codes "spaces") (array (items_of (map (space_fields runs) spaces)))
    (number_members ((codes "checkpoint", n) ∷ (codes "pages", page_count runs)
    ∷ (codes "zeros", zero_count runs) ∷ [])))

-- a document has the spaces and areas of the memory that contents show, and the counts of its pages
pub record IsMemory (contents : List (List ℕ)) (document : Data) : Type 0 where
  pub checkpoint : ℕ
  pub memory : PlainMemory
  pub shows : Shows contents (Some (checkpoint, memory))
  pub spaces : List Listed
  pub runs : List PlacedRun
  pub laid : IsLaidOut contents spaces (placed_pages runs) memory
  pub is : document ≡ memory_fields checkpoint spaces runs

-- the same of the memory that contents have at a checkpoint
pub record IsMemoryAt (contents : List (List ℕ)) (checkpoint : ℕ) (document : Data) : Type 0 where
  pub memory : PlainMemory
  pub shows : ShowsAt contents checkpoint memory
  pub spaces : List Listed
  pub runs : List PlacedRun
  pub laid : IsLaidOut contents spaces (placed_pages runs) memory
  pub is : document ≡ memory_fields checkpoint spaces runs

-- contents have a memory at a checkpoint, and a document has its number and how many images they have
pub record IsVerdictAt (contents : List (List ℕ)) (checkpoint : ℕ) (document : Data) : Type 0 where
  pub memory : PlainMemory
  pub shows : ShowsAt contents checkpoint memory
  pub places : Places
  pub catalog : IsCatalogOf contents places
  pub is : document ≡ verdict (Some checkpoint) (length (images places))

-- what a document has of the contents of which it is asked for
abbrev pub IsDocument : Document → List (List ℕ) → Data → Type 0
IsDocument (asked.Newest reader.Restore) contents document = IsMemory contents document
IsDocument (asked.Newest reader.List) contents document = IsListing contents document
IsDocument (asked.Newest reader.Verify) contents document = IsVerdict contents document
IsDocument (asked.At at.Restore n) contents document = IsMemoryAt contents n document
IsDocument (asked.At at.Verify n) contents document = IsVerdictAt contents n document

-- a text is a document of which this is so, on one line without its end
pub record IsTextOf (fact : Data → Type 0) (text : List ℕ) : Type 0 where
  pub document : Data
  pub exact : fact document
  pub is : text ≡ compact_text document

-- Why a store isn't read: the fault's name, and of a damaged slot its number and the reason, by number and in words.
abbrev pub faulty : Fault → Data
faulty fault.EmptyChain = object (member (codes "fault") (string (codes "empty chain")) no_members)
faulty (fault.Damaged slot reason) =
    object (member (codes "fault") (string (codes "damaged")) (member (codes "reason") (counted (reason_number reason))
    (member (codes "slot") (counted slot) (member (codes "why") (string (reason_phrase reason)) no_members))))
faulty fault.Device = object (member (codes "fault") (string (codes "device")) no_members)
faulty fault.OutOfMemory = object (member (codes "fault") (string (codes "out-of-memory")) no_members)

-- no image is of the checkpoint with this number
abbrev pub lacking : ℕ → Data
lacking n = object (member (codes "checkpoint") (counted n)
    (member (codes "fault") (string (codes "no checkpoint")) no_members))

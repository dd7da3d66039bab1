-- An image that is read from a stream into a slot, and a store that is ready for one.
use Rattle.std.specs.Prelude.{◌≡◌, ◌⊎◌, ℕ, List, [], ◌∷◌, ◌++◌, Option, Some, Result, IfOk, length, map}
use Rattle.std.specs.List.{concat}
use Rattle.sha2.specs.Sha256.{sha256}
use Rattle.sd_areas.specs.PlainMemory.{PlainMemory}
use Rattle.sd_disk.specs.Crash.{Within}
use Rattle.sd_disk.specs.Spans.{LeavesOnly}
use Rattle.sd_disk.specs.declared.disk.Disk.{Ghosts}
use Rattle.sd_image.specs.declared.digester.Digester.{Digester}
use Rattle.sd_image.specs.declared.header.Header.{Header}
use Rattle.sd_image.specs.declared.header.Kind.{Kind}
use Rattle.sd_image.specs.declared.header.Kind.TheVariants.{PreDump, Dump, Merged}
use Rattle.sd_image.specs.declared.header.Version.TheVariants.{Two}
use Rattle.sd_image.specs.Digests.{HasFed}
use Rattle.sd_image.specs.Header.{header_front}
use Rattle.sd_image.specs.Image.{Image}
use Rattle.sd_image.specs.Laws.{IsComplete}
use Rattle.sd_image.specs.Shows.{Shows}
use Rattle.sd_image.specs.Table.{IsTable, listing_of, table_text}
use Rattle.sd_chain.specs.Catalog.{Changes, Opened, Places, place_of}
use Rattle.sd_chain.specs.Store.{IsCatalogOf}
use Rattle.sd_stream.specs.declared.reader.StreamReader.{StreamReader}
use Rattle.sd_stream.specs.Progress.{Progress}
use Rattle.sd_stream.specs.Reading.{HasRead, HasReadAll}
use Rattle.sd_stream.specs.Stream.{Group}
use Rattle.sd_receive.specs.declared.arrived.Arrived.{Arrived}
use Rattle.sd_receive.specs.declared.receiver.Received.{Received}
use Rattle.sd_receive.specs.declared.receiver.Received.TheVariants as received
use Rattle.sd_receive.specs.Arriving.{IsFilled, IsSettled}

-- so many data pages stand in the slot, and the digester was fed them
pub record HasPages (contents : List (List ℕ)) (may_leave : List (List ℕ) → Type 0) (slot count : ℕ)
    (digester : Digester) : Type 0 where
  pub pages : List (List ℕ)
  pub fills : IsFilled contents may_leave slot pages
  pub counted : count ≡ length pages
  pub fed : HasFed digester (concat pages)

-- the image with this header, these data pages and the table that arrived
abbrev pub image_with : Header → List (List ℕ) → Arrived → Image
image_with header pages arrived =
    record { header = header; pages = pages; spaces = map listing_of arrived.table.spaces.items }

-- the bytes of a table are those of one after a header, and the header has the digest of these data pages and the table
pub record GoesWith (header : Header) (pages : List (List ℕ)) (arrived : Arrived) : Type 0 where
  pub long : length arrived.bytes.items ≡ header.table_len
  pub spelled : arrived.bytes.items ≡ table_text (map listing_of arrived.table.spaces.items)
  pub table : IsTable header (map listing_of arrived.table.spaces.items)
  pub digest : header.version ≡ Two
      → header.digest ≡ sha256 ((concat pages ++ arrived.bytes.items) ++ header_front header)

-- The data pages of an image stand in the slot, and its header, its table and its digest go together.
pub record HasArrived (contents : List (List ℕ)) (may_leave : List (List ℕ) → Type 0) (slot : ℕ) (header : Header)
    (arrived : Arrived) : Type 0 where
  pub pages : List (List ℕ)
  pub fills : IsFilled contents may_leave slot pages
  pub complete : IsComplete (image_with header pages arrived)
  pub spelled : arrived.bytes.items ≡ table_text (map listing_of arrived.table.spaces.items)

-- Each slot is closed or has its image, whatever a crash leaves, and this is the catalog of these images.
pub record IsReady (contents : List (List ℕ)) (may_leave : List (List ℕ) → Type 0) (places : Places) : Type 0 where
  pub rests : IsSettled contents may_leave
  pub catalog : IsCatalogOf contents places

-- the same as its catalog has it
abbrev pub opened_with : ℕ → Header → Arrived → Opened
opened_with slot header arrived =
    record { slot = slot; header = header; spaces = map listing_of arrived.table.spaces.items }

-- the image of a serial that none has is added to a catalog
pub record AddsImage (old new : Places) (i : Opened) : Type 0 where
  pub fresh : (other : Opened) → place_of old i.header.serial ≡ Some (Some other) → ⊥
  pub changes : Changes old new i.header.serial (Some (Some i))

-- What a crash leaves once something was received: with a pre-dump, or the end of a stream, at each moment what was
-- shown; with a checkpoint that, with this memory.
abbrev pub ShowsThen : {D : Type 0} → Ghosts D → D → D → Option (ℕ × PlainMemory) → ℕ → PlainMemory → Received → Type 0
ShowsThen g old new shown last memory received.PreDump = LeavesOnly g old new (λ c. Shows c shown)
ShowsThen g old new shown last memory (received.Checkpoint n) =
    (n ≡ last) × Within (g.may_leave new) (λ c. Shows c (Some (last, memory)))
ShowsThen g old new shown last memory received.End = LeavesOnly g old new (λ c. Shows c shown)

-- At each moment a crash leaves what was shown, or the checkpoint that was acknowledged last, with this memory.
pub record Receives {D E : Type 0} (g : Ghosts D) (old new : D) (shown : Option (ℕ × PlainMemory)) (last : ℕ)
    (memory : PlainMemory) (result : Result Received E) : Type 0 where
  pub any_moment : LeavesOnly g old new (λ c. Shows c shown ⊎ Shows c (Some (last, memory)))
  pub at_end : IfOk result (ShowsThen g old new shown last memory)

-- the numbers of the checkpoints so far
abbrev pub numbers_so_far : Progress → List ℕ
numbers_so_far p = map (λ (g : Group). g.number) p.groups

-- of a stream the checkpoints of these numbers came more
pub record HasMore {R : Type 0} (remaining : R → Option (List ℕ)) (before : Option (List ℕ)) (p : Progress)
    (numbers : List ℕ) (reader : StreamReader R) : Type 0 where
  pub now : Progress
  pub read : HasRead remaining before now reader
  pub base : now.base ≡ p.base
  pub more : numbers_so_far now ≡ numbers_so_far p ++ numbers

-- from one reader to another
abbrev pub GoesOn : {R : Type 0} → (R → Option (List ℕ)) → StreamReader R → List ℕ → StreamReader R → Type 0
GoesOn remaining old numbers new =
    (before : Option (List ℕ)) (p : Progress) → HasRead remaining before p old → HasMore remaining before p numbers new

-- to the end of a stream: no checkpoint came more
abbrev pub ReadsAll : {R : Type 0} → (R → Option (List ℕ)) → StreamReader R → StreamReader R → Type 0
ReadsAll remaining old new =
    (before : Option (List ℕ)) (p : Progress) → HasRead remaining before p old → HasReadAll remaining before p new

-- what was read with what was received: a pre-dump, a checkpoint that is acknowledged, or the end of the stream
abbrev pub ReadsNext : {R : Type 0} → (R → Option (List ℕ)) → StreamReader R → StreamReader R → Received → Type 0
ReadsNext remaining old new received.PreDump = GoesOn remaining old [] new
ReadsNext remaining old new (received.Checkpoint n) = GoesOn remaining old (n ∷ []) new
ReadsNext remaining old new received.End = ReadsAll remaining old new

-- the checkpoint that an image of this kind ends
abbrev pub number_with : Kind → ℕ → List ℕ
number_with PreDump number = []
number_with Dump number = number ∷ []
number_with Merged number = number ∷ []

-- the checkpoint that was received
abbrev pub numbers_received : Received → List ℕ
numbers_received received.PreDump = []
numbers_received (received.Checkpoint n) = n ∷ []
numbers_received received.End = []

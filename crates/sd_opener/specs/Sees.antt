-- What an opener knows of the files that it reads.
use Rattle.std.specs.Prelude.{◌≡◌, ℕ, ◌≤◌, true, false, List, length, map, slice_index, take, Option, Some, None}
use Rattle.std.specs.Prelude.{IsSome, Ok}
use Rattle.sd_disk.specs.Contents.{file_at}
use Rattle.sd_image.specs.declared.header.Header.{Header}
use Rattle.sd_image.specs.declared.reason.Reason.{Reason}
use Rattle.sd_image.specs.Image.{Image, gate, is_open}
use Rattle.sd_image.specs.Reading.{header_in}
use Rattle.sd_image.specs.Shows.{IsStore}
use Rattle.sd_chain.specs.Store.{IsCatalogOf}
use Rattle.sd_gate.specs.declared.phase.Phase.TheVariants.{Whole}
use Rattle.sd_gate.specs.Calls.{is_done}
use Rattle.sd_gate.specs.Laws.{found_phase}
use Rattle.sd_gate.specs.Looks.{HasNoHeader, IsLookedUpAs, LooksAt}
use Rattle.sd_gate.specs.Plans.{Back}
use Rattle.sd_gate.specs.Requests.{Asked, Made}
use Rattle.sd_restore.specs.Reading.{AreRightlyDigested, HasHeader, table_bytes}
use Rattle.sd_restore.specs.Scanned.{IsScanned}
use Rattle.sd_opener.specs.declared.opened.Opened.{Opened}
use Rattle.sd_opener.specs.declared.opener_step.OpenerStep.{OpenerStep}
use Rattle.sd_opener.specs.declared.opener_step.OpenerStep.TheVariants.{Call, Decoded, Damaged, AllRead}
use Rattle.sd_opener.specs.declared.slot_end.SlotEnd.{SlotEnd}
use Rattle.sd_opener.specs.declared.slot_end.SlotEnd.TheVariants.{Closed, Open}
use Rattle.sd_opener.specs.declared.stage.Stage.{Stage}
use Rattle.sd_opener.specs.declared.stage.Stage.TheVariants.{Asking, Read, Broken}
use Rattle.sd_opener.specs.Looking.{HasFirst, Looking}

-- what is known of the slot's file, with this request out
abbrev pub SeesSlot : ℕ → List ℕ → Option Asked → Stage → Type 0
SeesSlot slot file request (Asking plan) = LooksAt slot file request plan
SeesSlot slot file request (Read header table) =
    (request ≡ None) × HasHeader file header × (table.items ≡ table_bytes header file)
SeesSlot slot file request (Broken reason) = (request ≡ None) × HasNoHeader file reason

-- The phases of the first slots are those of the files, and so are the images, where digests are right, as they are in
-- a store: an opener sees no data page.
pub record Sees (files : List (List ℕ)) (request : Option Asked) (opener : Looking) : Type 0 where
  pub count : length files ≡ opener.slots
  pub told : opener.told ≡ map found_phase (take (length opener.told) files)
  pub scanned : AreRightlyDigested files → IsScanned files (length opener.told) opener.scanned
  pub slot : SeesSlot (length opener.told) (file_at files (length opener.told)) request opener.stage

-- a slot that is to be decoded: nothing is asked of it
abbrev pub IsOpenStage : Stage → Type 0
IsOpenStage (Asking plan) = ⊥
IsOpenStage (Read header table) = Unit {0}
IsOpenStage (Broken reason) = Unit {0}

-- what an inspection that came to its end brought back: the length of a file that is too short for a header, or its
-- first 4,096 bytes, and the table where these are an open image's
pub record InspectionHasEnded (found : Back) : Type 0 where
  pub len : ℕ
  pub told : found.len ≡ Some len
  pub first : 4096 ≤ len → HasFirst found.first
  pub table : (bytes : List ℕ) (header : Header) → found.first ≡ Some bytes → slice_index bytes 0 ≡ gate
      → header_in bytes len ≡ Ok header
      → IsSome found.second

-- what the inspection of a file ends with
abbrev pub InspectionEndsAs : List ℕ → SlotEnd → Type 0
InspectionEndsAs file (Closed phase) = (is_open file ≡ false) × (phase ≡ found_phase file)
InspectionEndsAs file (Open stage) = (found_phase file ≡ Whole) × ((slot : ℕ) → SeesSlot slot file None stage)

-- files in which not every open slot is an image with a serial of its own
abbrev pub IsNoStore : List (List ℕ) → Type 0
IsNoStore files = (images : List Image) → IsStore files images → ⊥

-- what is known after a step
abbrev pub SeesAfter : List (List ℕ) → OpenerStep → Looking → Type 0
SeesAfter files (Call request) new = Sees files (Some request) new
SeesAfter files Decoded new = Sees files None new
SeesAfter files (Damaged slot reason) new = IsNoStore files
SeesAfter files AllRead new = Sees files None new × (length new.told ≡ length files)

-- what a step says of the slot and the reason that it names, where it names them
abbrev pub StepNames : (ℕ → Reason → Type 0) → OpenerStep → Type 0
StepNames P (Call request) = Unit {0}
StepNames P Decoded = Unit {0}
StepNames P (Damaged slot reason) = P slot reason
StepNames P AllRead = Unit {0}

-- an outcome of this request gave its slot's file as it is
pub record IsLookOf (file : List ℕ) (request : Asked) (made : Made) : Type 0 where
  pub id : made.request.id ≡ request.id
  pub bytes : length made.request.bytes ≡ length request.bytes
  pub done : is_done made.answer ≡ true
  pub told : IsLookedUpAs file made

-- what was read in the end
pub record StoreIsRead (files : List (List ℕ)) (opened : Opened) : Type 0 where
  pub catalog : IsCatalogOf files opened.catalog
  pub phases : opened.phases.items ≡ map found_phase files
  pub images : List Image
  pub store : IsStore files images

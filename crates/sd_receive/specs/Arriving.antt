-- An image that arrives in a closed slot, page by page, while every other slot stays as it is.
use Rattle.std.specs.Prelude.{◌≡◌, ℕ, ◌∷◌, ◌++◌, Bool, true, false, List, Some, length, slice_get}
use Rattle.std.specs.List.{concat}
use Rattle.sd_disk.specs.Contents.{file_at}
use Rattle.sd_image.specs.declared.header.Header.{Header}
use Rattle.sd_image.specs.Header.{header_text}
use Rattle.sd_image.specs.Image.{gate, is_open}
use Rattle.sd_gate.specs.declared.phase.Phase.{Phase}
use Rattle.sd_gate.specs.declared.phase.Phase.TheVariants.{Raw, RawClosing, Whole, Closing, Shut, ShutSynced, Bare}
use Rattle.sd_gate.specs.declared.phase.Phase.TheVariants.{Writing, Ready, Opening, Doubt, DoubtSynced}
use Rattle.sd_gate.specs.Fits.{DiskFits}
use Rattle.sd_gate.specs.Laws.{AreWholePages, pages_body}
use Rattle.sd_gate.specs.Phases.{filled, may_write}

-- These contents have the images of the others, each in its slot, and no more.
pub record KeepsImages (old new : List (List ℕ)) : Type 0 where
  pub count : length new ≡ length old
  pub opened : (slot : ℕ) → is_open (file_at old slot) ≡ true → file_at new slot ≡ file_at old slot
  pub closed : (slot : ℕ) → is_open (file_at old slot) ≡ false → is_open (file_at new slot) ≡ false

-- in this phase a slot is closed, or has its image, whatever a crash leaves
abbrev pub is_settled : Phase → Bool
is_settled Raw = true
is_settled RawClosing = true
is_settled Whole = true
is_settled Closing = false
is_settled Shut = true
is_settled ShutSynced = true
is_settled Bare = true
is_settled Writing = true
is_settled Ready = true
is_settled Opening = false
is_settled Doubt = false
is_settled DoubtSynced = false

-- each slot of a disk with these contents and these outcomes of a crash is in such a phase
pub record IsSettled (contents : List (List ℕ)) (may_leave : List (List ℕ) → Type 0) : Type 0 where
  pub phases : List Phase
  pub bodies : List (List ℕ)
  pub fits : DiskFits phases bodies contents may_leave
  pub settled : (slot : ℕ) (phase : Phase) → slice_get phases slot ≡ Some phase → is_settled phase ≡ true

-- so it is, and after the closed gate of a slot stands room for a header, and then these data pages
pub record IsFilled (contents : List (List ℕ)) (may_leave : List (List ℕ) → Type 0) (slot : ℕ)
    (pages : List (List ℕ)) : Type 0 where
  pub rests : IsSettled contents may_leave
  pub phase : Phase
  pub is : slice_get rests.phases slot ≡ Some phase
  pub ready : may_write phase ≡ true
  pub fills : filled phase ≡ Writing
  pub body : file_at rests.bodies slot ≡ pages_body pages
  pub whole : AreWholePages pages

-- the file of an image: an open gate, the header, the data pages and the table
abbrev pub file_of : Header → List (List ℕ) → List ℕ → List ℕ
file_of header pages table = gate ∷ header_text header ++ concat pages ++ table

-- Which slot is at fault, and why.
use Rattle.std.specs.Prelude.{◌≡◌, ◌⊎◌, ◌==◌, ℕ, true, List, ◌∷◌, ◌++◌, map, take, All, Err, IsTrue}
use Rattle.std.specs.List.{list_any}
use Rattle.sd_disk.specs.Contents.{file_at}
use Rattle.sd_image.specs.declared.reason.Reason.{Reason}
use Rattle.sd_image.specs.declared.reason.Reason.TheVariants.{Chain, DoubleSerial}
use Rattle.sd_image.specs.Image.{Image, IsImage, OpenImages, is_open}
use Rattle.sd_image.specs.Shows.{IsStore}
use Rattle.sd_image.specs.Reading.{file_in}
use Rattle.sd_chain.specs.declared.found.Found.{Found}
use Rattle.sd_chain.specs.Catalog.{Opened, Places, AreInOrder, IsTip}
use Rattle.sd_chain.specs.Store.{IsCatalogOf}
use Rattle.sd_chain.specs.Ways.{LiesBySerial, BreaksBySerial}
use Rattle.sd_restore.specs.declared.fault.Fault.{Fault}
use Rattle.sd_restore.specs.declared.fault.Fault.TheVariants.{EmptyChain, Damaged, Device, OutOfMemory}
use Rattle.sd_restore.specs.Mapped.{Mapped, mapped_pages}

-- what a fault says of the slot and the reason that it names
abbrev pub FaultNames : (ℕ → Reason → Type 0) → Fault → Type 0
FaultNames P EmptyChain = Unit {0}
FaultNames P (Damaged slot reason) = P slot reason
FaultNames P Device = Unit {0}
FaultNames P OutOfMemory = Unit {0}

-- the number of a fault
abbrev pub fault_number : Fault → ℕ
fault_number EmptyChain = 20
fault_number (Damaged slot reason) = 21
fault_number Device = 22
fault_number OutOfMemory = 23

-- each open slot is an image
pub record AreReadable (files : List (List ℕ)) : Type 0 where
  pub images : List Image
  pub are : OpenImages files images

-- a slot is open, and its file breaks a rule
pub record IsFaulty (file : List ℕ) (reason : Reason) : Type 0 where
  pub opens : is_open file ≡ true
  pub breaks : file_in file ≡ Err reason

-- the first faulty slot: each before it is closed or an image
pub record IsFirstFaulty (contents : List (List ℕ)) (slot : ℕ) (reason : Reason) : Type 0 where
  pub faulty : IsFaulty (file_at contents slot) reason
  pub before : AreReadable (take slot contents)

-- the first slot whose serial an earlier one has: those before it are a store
pub record IsFirstDouble (contents : List (List ℕ)) (slot : ℕ) : Type 0 where
  pub earlier : List Image
  pub before : IsStore (take slot contents) earlier
  pub image : Image
  pub opens : is_open (file_at contents slot) ≡ true
  pub is : IsImage (file_at contents slot) image
  pub double : IsTrue (list_any (λ serial. image.header.serial == serial)
      (map (λ (i : Image). i.header.serial) earlier))

-- all open slots are images, and this is the first whose serial an earlier one has
pub record IsDoubleSerial (contents : List (List ℕ)) (slot : ℕ) (reason : Reason) : Type 0 where
  pub why : reason ≡ DoubleSerial
  pub all : AreReadable contents
  pub first : IsFirstDouble contents slot

-- what a damaged slot is reported for: a fault of its own, or else its serial
abbrev pub IsDamage : List (List ℕ) → ℕ → Reason → Type 0
IsDamage contents slot reason = IsFirstFaulty contents slot reason ⊎ IsDoubleSerial contents slot reason

-- of these pages of the image of a serial, this is the first whose chain breaks: it breaks at the image of this slot
pub record IsFirstBreak (places : Places) (serial : ℕ) (pages : List Mapped) (slot : ℕ) (reason : Reason) : Type 0 where
  pub why : reason ≡ Chain
  pub before : List Mapped
  pub page : Mapped
  pub after : List Mapped
  pub are : pages ≡ before ++ page ∷ after
  pub held : All (λ (m : Mapped). (there : Found) × LiesBySerial places serial (m.space, m.page) there) before
  pub breaks : BreaksBySerial places serial (page.space, page.page) slot

-- the slots are a store, and of the pages of its newest image the first whose chain breaks does so at the image of this
-- slot
pub record IsBrokenChain (contents : List (List ℕ)) (slot : ℕ) (reason : Reason) : Type 0 where
  pub images : List Image
  pub store : IsStore contents images
  pub places : Places
  pub order : AreInOrder places
  pub catalog : IsCatalogOf contents places
  pub tip : Opened
  pub newest : IsTip places tip
  pub first : IsFirstBreak places tip.header.serial (mapped_pages tip.spaces) slot reason

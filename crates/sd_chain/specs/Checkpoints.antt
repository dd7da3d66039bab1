-- The image of a checkpoint: of the dumps and merged images with its number that with the greatest serial.
use Rattle.std.specs.Prelude.{◌≡◌, ◌≢◌, ◌↔◌, ℕ, ◌<◌, ◌≤◌, List, [], ◌∷◌, Option, None, Some, MatchOption, All}
use Rattle.std.specs.Prelude.{Contains}
use Rattle.std.specs.Borrow.{Bor}
use Rattle.sd_image.specs.Image.{Image}
use Rattle.sd_image.specs.Shows.{IsRestorable, IsStore}
use Rattle.sd_chain.specs.Catalog.{Opened, IsDumpOrMerged}
use Rattle.sd_chain.specs.Store.{IsOpenedAs}

-- a dump or merged image with this checkpoint
pub record HasCheckpoint (number : ℕ) (i : Opened) : Type 0 where
  pub restored : IsDumpOrMerged i
  pub checkpoint : i.header.checkpoint ≡ number

-- of these images the one of a checkpoint
pub record IsOfCheckpointAmong (all : List Opened) (number : ℕ) (i : Opened) : Type 0 where
  pub member : Contains all i
  pub has : HasCheckpoint number i
  pub greatest : (j : Opened) → Contains all j → HasCheckpoint number j → j.header.serial ≤ i.header.serial

-- what was chosen of these, or none has the checkpoint
abbrev pub IsCheckpointChoice : ℕ → List Opened → Option (Bor Opened) → Type 0
IsCheckpointChoice number all chosen =
    MatchOption chosen (All (λ i. HasCheckpoint number i → ⊥) all) (λ i. IsOfCheckpointAmong all number i.now)

-- of the images of a store the one of a checkpoint
pub record IsOfCheckpoint (images : List Image) (number : ℕ) (i : Image) : Type 0 where
  pub member : Contains images i
  pub restorable : IsRestorable i
  pub checkpoint : i.header.checkpoint ≡ number
  pub greatest : (j : Image) → Contains images j → IsRestorable j → j.header.checkpoint ≡ number
      → j.header.serial ≤ i.header.serial

-- none of these images is restored and has the checkpoint
abbrev pub LackCheckpoint : List Image → ℕ → Type 0
LackCheckpoint images number =
    (i : Image) → Contains images i → IsRestorable i → i.header.checkpoint ≢ number

-- the contents are a store, and its image of a checkpoint was found, or it has none
pub record FindsCheckpoint (contents : List (List ℕ)) (number : ℕ) (chosen : Option (Bor Opened)) : Type 0 where
  pub images : List Image
  pub store : IsStore contents images
  pub found : MatchOption chosen
      (LackCheckpoint images number)
      (λ i. (image : Image) × IsOpenedAs contents i.now image × IsOfCheckpoint images number image)

-- a number is below a bound, where there is one
abbrev pub IsBelow : Option ℕ → ℕ → Type 0
IsBelow None number = Unit {0}
IsBelow (Some bound) number = number < bound

-- a dump or merged image with a checkpoint below a bound
pub record IsBefore (bound : Option ℕ) (i : Opened) : Type 0 where
  pub restored : IsDumpOrMerged i
  pub below : IsBelow bound i.header.checkpoint

-- the greatest checkpoint below a bound of these images that are restored
pub record IsNextAmong (all : List Opened) (bound : Option ℕ) (number : ℕ) : Type 0 where
  pub below : IsBelow bound number
  pub one : (i : Opened) × Contains all i × HasCheckpoint number i
  pub greatest : (i : Opened) → Contains all i → IsBefore bound i → i.header.checkpoint ≤ number

-- what was chosen of these, or there was none to choose
abbrev pub IsNextChoice : Option ℕ → List Opened → Option ℕ → Type 0
IsNextChoice bound all chosen = MatchOption chosen (All (λ i. IsBefore bound i → ⊥) all) (IsNextAmong all bound)

-- each number is above those after it
abbrev pub AreFalling : List ℕ → Type 0
AreFalling [] = Unit {0}
AreFalling (n ∷ numbers) = All (λ m. m < n) numbers × AreFalling numbers

-- the checkpoints of these images that are restored, each once, newest first
pub record AreCheckpointsOf (all : List Opened) (numbers : List ℕ) : Type 0 where
  pub falling : AreFalling numbers
  pub each : (number : ℕ) → Contains numbers number ↔ ((i : Opened) × Contains all i × HasCheckpoint number i)

-- The catalog as it is seen: the places of serials, rising, each held or with an open image.
use Rattle.std.specs.Prelude.{◌≡◌, ◌≢◌, ◌⊎◌, ℕ, ◌<◌, ◌≤◌, ◌==◌, if◌then◌else◌, Bool, true, not, List, [], ◌∷◌, Option}
use Rattle.std.specs.Prelude.{Some, None, IsSorted, All, nat_eq, Contains, MatchOption}
use Rattle.std.specs.Borrow.{Bor}
use Rattle.std.specs.List.{filter_map, AllByRecursion, IsDistinct}
use Rattle.std.specs.Map.{lookup, keys_of}
use Rattle.std.specs.Ordering.{nat_cmp}
use Rattle.sd_image.specs.declared.header.Header.{Header}
use Rattle.sd_image.specs.declared.header.Kind.TheVariants.{PreDump}
use Rattle.sd_image.specs.Table.{Listed}

-- an open image: its slot, and what its header and table say
pub record Opened : Type 0 where
  pub slot : ℕ
  pub header : Header
  pub spaces : List Listed

-- places by serial; one without an image is held
abbrev pub Places : Type 0
Places = List (ℕ × Option Opened)

-- rising by serial, each image at its own
pub record AreInOrder (places : Places) : Type 0 where
  pub distinct : IsDistinct nat_eq (keys_of places)
  pub sorted : IsSorted nat_cmp (keys_of places)
  pub own : (serial : ℕ) (i : Opened) → lookup (nat_eq serial) places ≡ Some (Some i) → i.header.serial ≡ serial

-- the place of a serial, if there is one
abbrev pub place_of : Places → ℕ → Option (Option Opened)
place_of places serial = lookup (nat_eq serial) places

-- the open images, rising by serial
abbrev pub images : Places → List Opened
images = filter_map (λ (place : ℕ × Option Opened). place.1)

-- each before those with a greater serial
abbrev pub SerialsRise : List Opened → Type 0
SerialsRise [] = Unit {0}
SerialsRise (i ∷ all) = AllByRecursion (λ (j : Opened). i.header.serial < j.header.serial) all × SerialsRise all

-- the catalog keeps a place for an image of this serial, which isn't open yet
abbrev pub IsHeld : Places → ℕ → Type 0
IsHeld places serial = place_of places serial ≡ Some None

-- one serial's place changes to this, and every other stays
abbrev pub Changes : Places → Places → ℕ → Option (Option Opened) → Type 0
Changes old new serial place =
    (other : ℕ) → place_of new other ≡ (if serial == other then place else place_of old other)

-- a place is held, or its image is in another slot
abbrev pub is_elsewhere : ℕ → Option Opened → Bool
is_elsewhere slot None = true
is_elsewhere slot (Some i) = not (i.slot == slot)

-- what removing a slot leaves of a place
abbrev pub without_slot : ℕ → Option (Option Opened) → Option (Option Opened)
without_slot slot None = None
without_slot slot (Some place) = if is_elsewhere slot place then Some place else None

-- the image that a number names: of those that stand for it, the one with the greatest serial
pub record IsNamedAmong (all : List Opened) (number : ℕ) (i : Opened) : Type 0 where
  pub member : Contains all i
  pub stands : i.header.stands_for ≡ number
  pub greatest : (j : Opened) → Contains all j → j.header.stands_for ≡ number → j.header.serial ≤ i.header.serial

-- the number names this image: the newest of those that stand for it
abbrev pub Names : Places → ℕ → Opened → Type 0
Names places = IsNamedAmong (images places)

-- dumps and merged images are restored; a pre-dump alone never is
abbrev pub IsDumpOrMerged : Opened → Type 0
IsDumpOrMerged i = i.header.kind ≢ PreDump

-- the order of the pairs (checkpoint, serial)
abbrev pub IsNotNewer : Opened → Opened → Type 0
IsNotNewer i j = (i.header.checkpoint < j.header.checkpoint)
    ⊎ ((i.header.checkpoint ≡ j.header.checkpoint) × (i.header.serial ≤ j.header.serial))

-- the image with the greatest pair of those that are restored
pub record IsNewestAmong (all : List Opened) (i : Opened) : Type 0 where
  pub member : Contains all i
  pub restored : IsDumpOrMerged i
  pub greatest : (j : Opened) → Contains all j → IsDumpOrMerged j → IsNotNewer j i

-- the image is the newest of the dumps and merged images
abbrev pub IsTip : Places → Opened → Type 0
IsTip places = IsNewestAmong (images places)

-- what was chosen of these, or there was none to choose
abbrev pub IsNewestChoice : List Opened → Option (Bor Opened) → Type 0
IsNewestChoice all chosen = MatchOption chosen (All (λ i. IsDumpOrMerged i → ⊥) all) (λ i. IsNewestAmong all i.now)

abbrev pub IsNamedChoice : ℕ → List Opened → Option (Bor Opened) → Type 0
IsNamedChoice number all chosen =
    MatchOption chosen (All (λ i. i.header.stands_for ≢ number) all) (λ i. IsNamedAmong all number i.now)

-- the numbers of an image
abbrev pub serial_of : Opened → ℕ
serial_of i = i.header.serial

-- the number of the checkpoint to which an image belongs
abbrev pub checkpoint_number : Opened → ℕ
checkpoint_number i = i.header.checkpoint

-- a number is the greatest of these images, or 0 where there are none
pub record IsGreatest (number : Opened → ℕ) (n : ℕ) (all : List Opened) : Type 0 where
  pub bound : (i : Opened) → Contains all i → number i ≤ n
  pub one : (n ≡ 0) ⊎ ((i : Opened) × Contains all i × (n ≡ number i))

-- the number of the image of a place, or 0 where it is held
abbrev pub number_at_place : (Opened → ℕ) → Option Opened → ℕ
number_at_place number None = 0
number_at_place number (Some i) = number i

-- What is so of every catalog.
pub record IsSoundCatalog (places : Places) : Type 0 where
  pub order : AreInOrder places
  pub rising : SerialsRise (images places)
  -- an image stands at its serial, and nowhere else
  pub own : (i : Opened) → Contains (images places) i → place_of places i.header.serial ≡ Some (Some i)
  pub member : (serial : ℕ) (i : Opened) → place_of places serial ≡ Some (Some i) → Contains (images places) i
  -- a number names at most one image, and at most one is the newest
  pub named_once : (number : ℕ) (i j : Opened) → Names places number i → Names places number j → i ≡ j
  pub newest_once : (i j : Opened) → IsTip places i → IsTip places j → i ≡ j

-- What a crash leaves of a catalog: all that is needed, and otherwise only images of the catalog or those being added.
use Rattle.std.specs.Prelude.{◌≡◌, ◌↔◌, ◌⊎◌, ℕ, ◌<◌, List, ◌∷◌, map, Option, Contains}
use Rattle.sd_areas.specs.declared.area.Area.{Area}
use Rattle.sd_areas.specs.PlainMemory.{PlainMemory}
use Rattle.sd_image.specs.Image.{Image}
use Rattle.sd_image.specs.Table.{Listed}
use Rattle.sd_image.specs.Shows.{Holds, ImagesShow, IsNamed, IsRestorable, IsTip}
use Rattle.sd_image.specs.Laws.{SerialsDiffer}
use Rattle.sd_store_laws.specs.Needed.{IsCalled, IsNeeded}

-- some images of a catalog, all needed ones among them, and some of those being added
pub record IsCut (catalog adding : List Image) (jobs : List ℕ) (images : List Image) : Type 0 where
  pub needed : (i : Image) → IsNeeded catalog jobs i → Contains images i
  pub within : (i : Image) → Contains images i → Contains catalog i ⊎ Contains adding i

-- an image holds at each page, whatever other images there are, what the other holds among these
abbrev pub HoldsAlike : List Image → Image → Image → Type 0
HoldsAlike images i twin = (others : List Image) (space page : ℕ) (bytes : List ℕ)
    → Holds others space page bytes twin ↔ Holds images space page bytes i

-- the areas of each space
abbrev pub areas_of_spaces : Image → List (ℕ × List Area)
areas_of_spaces i = map (λ (s : Listed). (s.space, s.areas)) i.spaces

-- an image repeats another of these: the checkpoint, the number that it stands for, the areas, and what it holds
pub record Repeats (images : List Image) (i twin : Image) : Type 0 where
  pub checkpoint : twin.header.checkpoint ≡ i.header.checkpoint
  pub stands : twin.header.stands_for ≡ i.header.stands_for
  pub areas : areas_of_spaces twin ≡ areas_of_spaces i
  pub bytes : HoldsAlike images i twin

-- the image that its number names holds what this one holds, where that number is referenced
abbrev pub KeepsItsNumber : List Image → List ℕ → Image → Type 0
KeepsItsNumber catalog jobs added = IsCalled catalog jobs added.header.stands_for
    → (i : Image) × IsNamed catalog added.header.stands_for i × HoldsAlike catalog i added

-- where it is restored its checkpoint is below the tip's, or it repeats the tip
abbrev pub KeepsTheTip : List Image → Image → Type 0
KeepsTheTip catalog added = IsRestorable added
    → (tip : Image) × IsTip catalog tip
    × ((added.header.checkpoint < tip.header.checkpoint) ⊎ Repeats catalog tip added)

-- an image may be there or not
pub record LeavesShown (catalog : List Image) (jobs : List ℕ) (added : Image) : Type 0 where
  pub number : KeepsItsNumber catalog jobs added
  pub tip : KeepsTheTip catalog added

-- a dump whose gate is being opened: nobody references it, it names what is referenced, and its checkpoint is above
-- those of the catalog
pub record IsPending (catalog : List Image) (jobs : List ℕ) (pending : Image) : Type 0 where
  pub restorable : IsRestorable pending
  pub uncalled : IsCalled catalog jobs pending.header.stands_for → ⊥
  pub parent : IsCalled catalog jobs pending.header.parent
  pub newest : (i : Image) → Contains catalog i → IsRestorable i → i.header.checkpoint < pending.header.checkpoint

-- What is left shows what the catalog shows.
abbrev pub CutShowsTheSame : Type 0
CutShowsTheSame = (catalog adding images : List Image) (jobs : List ℕ) (shown : Option (ℕ × PlainMemory))
    → SerialsDiffer catalog → IsCut catalog adding jobs images
    → ((added : Image) → Contains adding added → LeavesShown catalog jobs added)
    → ImagesShow catalog shown → ImagesShow images shown

-- With a pending dump among those being added, it shows that, or the pending checkpoint and its memory.
abbrev pub CutShowsLastOrPending : Type 0
CutShowsLastOrPending =
    (catalog adding images : List Image) (jobs : List ℕ) (pending : Image) (last next : Option (ℕ × PlainMemory))
    → SerialsDiffer catalog → IsCut catalog (pending ∷ adding) jobs images
    → ((added : Image) → Contains adding added → LeavesShown catalog jobs added)
    → IsPending catalog jobs pending
    → ImagesShow catalog last → ImagesShow (pending ∷ catalog) next → ImagesShow images last ⊎ ImagesShow images next

-- An image whose parent number is referenced holds in what is left what it holds in the catalog, and nothing else.
abbrev pub CutHoldsTheSame : Type 0
CutHoldsTheSame = (catalog adding images : List Image) (jobs : List ℕ) (i : Image)
    → SerialsDiffer catalog → IsCut catalog adding jobs images
    → ((added : Image) → Contains adding added → KeepsItsNumber catalog jobs added)
    → IsCalled catalog jobs i.header.parent
    → (space page : ℕ) (bytes : List ℕ) → Holds catalog space page bytes i ↔ Holds images space page bytes i

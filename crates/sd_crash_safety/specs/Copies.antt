-- The merged image that entered the catalog: it is a copy of its source.
use Rattle.std.specs.Prelude.{◌≡◌, ℕ, List, ◌∷◌, Some, Contains, slice_get}
use Rattle.sd_disk.specs.Contents.{file_at}
use Rattle.sd_image.specs.Image.{Image, IsImage, gate}
use Rattle.sd_chain.specs.Catalog.{Opened, Places, place_of}
use Rattle.sd_chain.specs.Reaches.{ParentsFall}
use Rattle.sd_chain.specs.Recorded.{IsRecordedAs}
use Rattle.sd_gate.specs.declared.phase.Phase.{Phase}
use Rattle.sd_gate.specs.declared.phase.Phase.TheVariants.{Whole}
use Rattle.sd_store_laws.specs.Makers.{IsMergedOf}
use Rattle.sd_store_laws.specs.Reached.{Reaches}
use Rattle.sd_crash_safety.specs.Calls.{IsFree}
use Rattle.sd_crash_safety.specs.View.{CoreView}

-- these are the images of a catalog, each at its serial
pub record AreImagesOf (places : Places) (images : List Image) : Type 0 where
  pub image : (serial : ℕ) (o : Opened) → place_of places serial ≡ Some (Some o)
      → (i : Image) × Contains images i × IsRecordedAs o i
  pub opened : (i : Image) → Contains images i
      → (o : Opened) × (place_of places i.header.serial ≡ Some (Some o)) × IsRecordedAs o i

-- an image of a catalog stands in its slot: it is what is after the slot's open gate
pub record StandsIn (places : Places) (phases : List Phase) (bodies : List (List ℕ)) (i : Image) : Type 0 where
  pub opened : Opened
  pub there : place_of places i.header.serial ≡ Some (Some opened)
  pub whole : slice_get phases opened.slot ≡ Some Whole
  pub spelled : IsImage (gate ∷ file_at bodies opened.slot) i

-- the parents' numbers of a catalog fall, and no two of its images stand in one slot
pub record IsOrderly (places : Places) : Type 0 where
  pub falls : ParentsFall places
  pub apart : (a b : ℕ) (i j : Opened) → place_of places a ≡ Some (Some i) → place_of places b ≡ Some (Some j)
      → i.slot ≡ j.slot → a ≡ b

-- The image of the one serial is a copy of that of the other: it has the checkpoint, the number and the areas of its
-- source, no page in a parent, and at each page what the source holds among the images that were there before. It
-- stands in its slot, as does what its source reaches.
pub record IsCopyThere (source_serial serial : ℕ) (before : Places) (new : CoreView)
    (bodies : List (List ℕ)) : Type 0 where
  pub images : List Image
  pub are : AreImagesOf before images
  pub source : Image
  pub its_serial : source.header.serial ≡ source_serial
  pub stand : (i : Image) → Reaches images i source → StandsIn new.catalog new.phases bodies i
  pub copy : Image
  pub own_serial : copy.header.serial ≡ serial
  pub stands : StandsIn new.catalog new.phases bodies copy
  pub copies : IsMergedOf images source copy

-- So it is, and no request is out on the slot of the source, nor of an image that it reaches.
pub record IsCopyAtRest (source_serial serial : ℕ) (before : Places) (new : CoreView)
    (bodies : List (List ℕ)) : Type 0 where
  pub copy : IsCopyThere source_serial serial before new bodies
  pub rests : (i : Image) (way : Reaches copy.images i copy.source) → IsFree new.outs (copy.stand i way).opened.slot

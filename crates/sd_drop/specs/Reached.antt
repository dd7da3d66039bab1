-- Which images the newest dump or merged image leads to by parent numbers.
use Rattle.std.specs.Prelude.{◌≡◌, ℕ, List}
use Rattle.sd_disk.specs.Contents.{file_at}
use Rattle.sd_image.specs.Image.{Image, IsImage}
use Rattle.sd_image.specs.Shows.{IsStore, IsTip}
use Rattle.sd_chain.specs.Catalog.{Opened, Places}
use Rattle.sd_chain.specs.Catalog as catalog
use Rattle.sd_chain.specs.Reaches.{ReachesInCatalog}
use Rattle.sd_store_laws.specs.Reached.{Reaches}

-- the contents are a store, and the image of a slot is its newest dump or merged image, or that one leads to it by
-- parent numbers
pub record IsReachedAt (contents : List (List ℕ)) (slot : ℕ) : Type 0 where
  pub images : List Image
  pub store : IsStore contents images
  pub tip : Image
  pub newest : IsTip images tip
  pub image : Image
  pub is : IsImage (file_at contents slot) image
  pub reaches : Reaches images image tip

-- the same of a catalog
pub record IsReachedIn (places : Places) (slot : ℕ) : Type 0 where
  pub tip : Opened
  pub newest : catalog.IsTip places tip
  pub image : Opened
  pub reaches : ReachesInCatalog places image tip
  pub at : image.slot ≡ slot

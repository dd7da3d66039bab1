-- Where reading a store may take memory.
use Rattle.std.proofs.Common.{◌≡◌, ℕ, true, List, [], Contains, ◌∙◌, ap, arith}
use Rattle.std.proofs.lemmas.Option.{get_or_from_slice_get}
use Rattle.sd_disk.specs.Contents.{file_at}
use Rattle.sd_image.specs.Image.{Image, IsImage, is_open}
use Rattle.sd_chain.specs.Catalog.{IsSoundCatalog, IsTip, Opened, Places, images}
use Rattle.sd_chain.specs.Store.{IsCatalogOf, IsOpenedAs}

-- a file that is an image is open
image_opens : (file : List ℕ) (image : Image) → IsImage file image → is_open file ≡ true
image_opens file image is = grind arith

-- an image of a catalog stands in an open slot
pub member_opens : (contents : List (List ℕ)) (places : Places) (i : Opened) → IsCatalogOf contents places → IsSoundCatalog places → Contains (images places) i
    → (slot : ℕ) × (is_open (file_at contents slot) ≡ true)
member_opens contents places i catalog sound member =
    let here : (image : Image) × IsOpenedAs contents i image = catalog.sound i.header.serial i (sound.own i member) in
    (i.slot, ap is_open (get_or_from_slice_get contents i.slot here.1.file [] here.1.slot) ∙ image_opens here.1.file here.0 here.1.spelled)

-- so does the newest
pub tip_opens : (contents : List (List ℕ)) (places : Places) (tip : Opened) → IsCatalogOf contents places → IsSoundCatalog places → IsTip places tip
    → (slot : ℕ) × (is_open (file_at contents slot) ≡ true)
tip_opens contents places tip catalog sound is = member_opens contents places tip catalog sound is.member

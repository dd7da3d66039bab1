-- The images of a store as text.
use Rattle.std.specs.Prelude.{◌≡◌, ◌⊎◌, ℕ, ◌-◌, List, [], ◌∷◌, ◌++◌, length, replicate, codes, All}
use Rattle.std.specs.List.{flat_map}
use Rattle.std.specs.Fmt.{decimal}
use Rattle.sd_image.specs.Words.{kind_name}
use Rattle.sd_exit.specs.Texts.{slot_text}
use Rattle.sd_chain.specs.Catalog.{Opened, Places, IsDumpOrMerged, IsTip, images}

-- the line of an image: its slot, its kind and its numbers
abbrev pub image_line : Opened → List ℕ
image_line i = codes "slot " ++ slot_text i.slot ++ codes " " ++ kind_name i.header.kind ++ codes " serial " ++ decimal
    i.header.serial
    ++ codes " stands " ++ decimal i.header.stands_for ++ codes " parent " ++ decimal i.header.parent
    ++ codes " checkpoint " ++ decimal i.header.checkpoint ++ codes " pages " ++ decimal i.header.pages ++ 10 ∷ []

-- the last line has the serial of the tip, if there is one
abbrev pub IsTipLine : Places → List ℕ → Type 0
IsTipLine places line = ((i : Opened) × IsTip places i × (line ≡ codes "tip " ++ decimal i.header.serial ++ 10 ∷ []))
    ⊎ (All (λ i. IsDumpOrMerged i → ⊥) (images places) × (line ≡ codes "tip none" ++ 10 ∷ []))

-- a line for each image, rising by serial, and the line of the tip
abbrev pub IsListing : Places → List ℕ → Type 0
IsListing places text = (last : List ℕ) × IsTipLine places last × (text ≡ flat_map image_line (images places) ++ last)

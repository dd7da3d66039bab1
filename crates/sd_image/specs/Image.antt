-- Image text: which files are an image, and which.
use Rattle.std.specs.Prelude.{◌≡◌, ◌⊎◌, ℕ, Bool, false, true, ◌&&◌, ◌==◌, nat_le, List, [], ◌∷◌, ◌++◌, length}
use Rattle.std.specs.Prelude.{slice_index}
use Rattle.std.specs.List.{concat, AllByRecursion}
use Rattle.sd_image.specs.declared.header.Header.{Header}
use Rattle.sha2.specs.Sha256.{sha256}
use Rattle.sd_image.specs.declared.header.Version.TheVariants.{Two}
use Rattle.sd_image.specs.Header.{header_front, header_text, IsHeader}
use Rattle.sd_image.specs.Table.{Listed, table_text, IsTable}

-- the gate byte of an open slot
abbrev pub gate : ℕ
gate = 165

-- the text of an image
pub record Image : Type 0 where
  pub header : Header
  pub pages : List (List ℕ)  -- the data pages
  pub spaces : List Listed

-- what stands after the gate
abbrev pub image_text : Image → List ℕ
image_text i = header_text i.header ++ concat i.pages ++ table_text i.spaces

-- what the digest of an image is made of: its data pages in file order, its table, and bytes 1 to 63 of its header
abbrev pub digested : Image → List ℕ
digested i = concat i.pages ++ table_text i.spaces ++ header_front i.header

-- an image of version 2 has its digest in its header
abbrev pub HasItsDigest : Image → Type 0
HasItsDigest i = i.header.version ≡ Two → i.header.digest ≡ sha256 (digested i)

-- the file is this image, and nothing else
pub record IsImage (file : List ℕ) (i : Image) : Type 0 where
  pub spelled : file ≡ gate ∷ image_text i
  pub header : IsHeader i.header (length file)
  pub table : IsTable i.header i.spaces
  pub stored : length i.pages ≡ i.header.pages
  pub whole : AllByRecursion (λ page. length page ≡ 4096) i.pages
  pub digest : HasItsDigest i

-- a slot is open where it has a header after an open gate
abbrev pub is_open : List ℕ → Bool
is_open file = nat_le 4096 (length file) && slice_index file 0 == gate

-- every open slot is an image, and these are they, rising by slot
abbrev pub OpenImages : List (List ℕ) → List Image → Type 0
OpenImages [] images = images ≡ []
OpenImages (file ∷ files) images =
    ((is_open file ≡ false) × OpenImages files images)
    ⊎ ((i : Image) × (others : List Image) × (images ≡ i ∷ others) × (is_open file ≡ true) × IsImage file i
    × OpenImages files others)

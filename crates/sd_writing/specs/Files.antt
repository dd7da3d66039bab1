-- The file of an image in the making.
use Rattle.std.specs.Prelude.{ℕ, List, ◌∷◌, Option, slice_get}
use Rattle.sd_image.specs.declared.header.Header.{Header}
use Rattle.sd_image.specs.Image.{Image, gate, image_text}
use Rattle.sd_image.specs.Table.{Listed}

-- the data pages of the image, once the writes that are out are done
abbrev pub Pages : Type 0
Pages = List (List ℕ)

-- the data pages of the image's file, by their place, once every write that is out is done
abbrev pub Stored : Type 0
Stored = ℕ → Option (List ℕ)

-- the data pages, by their place in a list
abbrev pub listed_pages : Pages → Stored
listed_pages pages place = slice_get pages place

-- the image of a header, its data pages and its tables
abbrev pub image_of : Header → Pages → List Listed → Image
image_of header pages tables = record { header = header; pages = pages; spaces = tables }

-- the text of an image after an open gate
abbrev pub file_of : Image → List ℕ
file_of i = gate ∷ image_text i

-- Which files have the right digest, each a law that a function with an empty body carries.
use Rattle.std.specs.Prelude.{◌≡◌, false, List, ℕ}
use Rattle.sd_image.specs.Image.{Image, IsImage, OpenImages, is_open}
use Rattle.sd_restore.specs.Reading.{AreRightlyDigested, IsRightlyDigested}

-- An image is rightly digested.
abbrev pub ImageIsRightlyDigested : Type 0
ImageIsRightlyDigested = (file : List ℕ) (i : Image) → IsImage file i → IsRightlyDigested file

-- So is a file that isn't open: it has no header.
abbrev pub ClosedIsRightlyDigested : Type 0
ClosedIsRightlyDigested = (file : List ℕ) → is_open file ≡ false → IsRightlyDigested file

-- So are files of which each that is open is an image.
abbrev pub StoreIsRightlyDigested : Type 0
StoreIsRightlyDigested =
    (files : List (List ℕ)) (images : List Image) → OpenImages files images → AreRightlyDigested files

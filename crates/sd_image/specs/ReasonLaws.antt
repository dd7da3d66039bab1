-- Image text has no reason against it, and all else that is open has one: laws that functions with an empty body carry.
use Rattle.std.specs.Prelude.{◌≡◌, ◌⊎◌, ℕ, ◌<◌, Bool, true, false, ◌||◌, List, [], length, drop, All, Contains}
use Rattle.std.specs.Prelude.{slice_index_or, Ok, Err}
use Rattle.sd_image.specs.declared.header.Header.{Header}
use Rattle.sd_image.specs.declared.reason.Reason.{Reason}
use Rattle.sd_image.specs.declared.reason.Reason.TheVariants as reason
use Rattle.sd_image.specs.Header.{header_text, IsHeader}
use Rattle.sd_image.specs.Table.{Listed, table_text, IsTable}
use Rattle.sd_image.specs.Image.{Image, IsImage, OpenImages, is_open}
use Rattle.sd_image.specs.Reading.{form_of, fields_of, breaks_bytes, breaks_fields, header_in, table_in, file_in}

-- A header is read as itself: no reason is found in its text, after any gate.
abbrev pub GoodHeaderHasNoReason : Type 0
GoodHeaderHasNoReason = (bytes : List ℕ) (len : ℕ) (h : Header)
    → length bytes ≡ 4096 → drop 1 bytes ≡ header_text h → IsHeader h len → header_in bytes len ≡ Ok h

-- A table is read as itself: no reason is found in its text.
abbrev pub GoodTableHasNoReason : Type 0
GoodTableHasNoReason =
    (h : Header) (spaces : List Listed) → IsTable h spaces → table_in h (table_text spaces) ≡ Ok spaces

-- An image is read as itself: no reason is found in its file.
abbrev pub GoodFileHasNoReason : Type 0
GoodFileHasNoReason = (file : List ℕ) (i : Image) → IsImage file i → file_in file ≡ Ok (i.header, i.spaces)

-- Where every open slot is an image, no reason is found in any.
abbrev pub GoodStoreHasNoReason : Type 0
GoodStoreHasNoReason = (contents : List (List ℕ)) (images : List Image) (slot : ℕ)
    → OpenImages contents images → is_open (slice_index_or contents slot []) ≡ true
    → (i : Image) × Contains images i × (file_in (slice_index_or contents slot []) ≡ Ok (i.header, i.spaces))

-- a file is an image, and is read as it
pub record IsReadAs (file : List ℕ) (i : Image) : Type 0 where
  pub is : IsImage file i
  pub read : file_in file ≡ Ok (i.header, i.spaces)

-- a file is no image, for this reason and no other
pub record IsFaultyFor (file : List ℕ) (r : Reason) : Type 0 where
  pub found : file_in file ≡ Err r
  pub only : (other : Reason) → file_in file ≡ Err other → other ≡ r
  pub none : (i : Image) → IsImage file i → ⊥

-- An open file is an image and is read as it, or it is none, and one reason says why.
abbrev pub OneReason : Type 0
OneReason = (file : List ℕ) → All (λ byte. byte < 256) file → is_open file ≡ true
    → ((i : Image) × IsReadAs file i) ⊎ ((r : Reason) × IsFaultyFor file r)

-- the number of a reason
abbrev pub reason_number : Reason → ℕ
reason_number reason.Magic = 1
reason_number reason.Version = 2
reason_number reason.Kind = 3
reason_number reason.Reserved = 4
reason_number reason.Serial = 5
reason_number reason.StandsFor = 6
reason_number reason.Parent = 7
reason_number reason.Checkpoint = 8
reason_number reason.Length = 9
reason_number reason.PastEnd = 10
reason_number reason.Space = 11
reason_number reason.Area = 12
reason_number reason.Run = 13
reason_number reason.Zero = 14
reason_number reason.Coverage = 15
reason_number reason.Total = 16
reason_number reason.Digest = 17
reason_number reason.Chain = 18
reason_number reason.DoubleSerial = 19

-- a reason applies, and none with a lower number does
pub record IsLeast (applies : Reason → Bool) (r : Reason) : Type 0 where
  pub here : applies r ≡ true
  pub none_below : (other : Reason) → reason_number other < reason_number r → applies other ≡ false

-- whether a header's bytes, in a file of this length, break the rule with this reason
abbrev pub breaks_header : List ℕ → ℕ → Reason → Bool
breaks_header bytes len r = breaks_bytes bytes r || breaks_fields (fields_of (form_of bytes) bytes) len r

-- The reason that is found in a header is the least that applies, and the least that applies is found.
abbrev pub LeastHeaderReason : Type 0
LeastHeaderReason = (bytes : List ℕ) (len : ℕ) (r : Reason)
    → (header_in bytes len ≡ Err r → IsLeast (breaks_header bytes len) r)
    × (IsLeast (breaks_header bytes len) r → header_in bytes len ≡ Err r)

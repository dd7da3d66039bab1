-- What a reader of a stream has read, and what its errors say of the bytes.
use Rattle.std.specs.Prelude.{◌≡◌, ◌≢◌, ◌⊎◌, ℕ, ◌<◌, ◌≤◌, ◌^◌, Bool, true, false, List, ◌++◌, length, take, replicate}
use Rattle.std.specs.Prelude.{Option}
use Rattle.std.specs.Io.KnownBytes.{Consumes, IsAtEnd}
use Rattle.sha2.specs.Hashers.{Holds256}
use Rattle.sha2.specs.Sha256.{sha256}
use Rattle.sd_stream.specs.declared.item.Item.{Item}
use Rattle.sd_stream.specs.declared.item.Item.TheVariants as item
use Rattle.sd_stream.specs.declared.reader.StreamReader.{StreamReader}
use Rattle.sd_stream.specs.declared.stream_error.StreamError.{StreamError}
use Rattle.sd_stream.specs.declared.stream_error.StreamError.TheVariants as read
use Rattle.sd_stream.specs.declared.tally.Tally.{Tally}
use Rattle.sd_stream.specs.Progress.{Progress, progress_text, with_acknowledged, with_image}
use Rattle.sd_stream.specs.Stream.{IsFileLength, IsStream, magic_text, number_text, record_text, stream_text}
use Rattle.sd_stream.specs.Tallies.{Grows, HasTaken}

-- of what the input had before, it read a stream that has come so far
pub record HasRead {R : Type 0} (remaining : R → Option (List ℕ)) (before : Option (List ℕ))
    (p : Progress) (reader : StreamReader R) : Type 0 where
  pub text : Consumes before (remaining reader.input) (progress_text p reader.tally.left)
  pub taken : HasTaken reader.tally p
  pub base : reader.base ≡ p.base

-- the stream is whole, and nothing comes after it
pub record HasReadAll {R : Type 0} (remaining : R → Option (List ℕ)) (before : Option (List ℕ))
    (p : Progress) (reader : StreamReader R) : Type 0 where
  pub text : Consumes before (remaining reader.input) (stream_text p.base p.groups)
  pub end : IsAtEnd (remaining reader.input)
  pub stream : IsStream p.base p.groups

-- what an item says of what was read
abbrev pub IsNext : {R : Type 0} → (R → Option (List ℕ)) → Option (List ℕ) → Progress → Item → StreamReader R → Type 0
IsNext remaining before p (item.Image len) reader =
    HasRead remaining before (with_image p) reader × (reader.tally.left ≡ len) × IsFileLength len
IsNext remaining before p (item.Acknowledged number) reader =
    HasRead remaining before (with_acknowledged p number) reader × (reader.tally.left ≡ 0)
IsNext remaining before p item.End reader = HasReadAll remaining before p reader

-- a tally takes the head of a record
abbrev pub Takes : Tally → Tally → ℕ → ℕ → Item → Type 0
Takes old new kind value (item.Image len) =
    (kind ≡ 1) × (value ≡ len) × IsFileLength len × (new.left ≡ len)
    × ((p : Progress) → HasTaken old p → Grows old new p (with_image p) (record_text 1 len))
Takes old new kind value (item.Acknowledged number) =
    (kind ≡ 2) × (value ≡ number) × (new.left ≡ 0)
    × ((p : Progress) → HasTaken old p → Grows old new p (with_acknowledged p number) (record_text 2 number))
Takes old new kind value item.End = (kind ≡ 3) × (value ≡ 0) × (old.waiting ≡ false) × (new ≡ old)

-- when a record is refused for its head
abbrev pub IsRefused : Tally → ℕ → ℕ → StreamError → Type 0
IsRefused tally kind value (read.UnknownKind n) = (n ≡ kind) × ((kind ≡ 0) ⊎ (3 < kind))
IsRefused tally kind value (read.Length n) = (kind ≡ 1) × (n ≡ value) × ((value ≡ 0) ⊎ (2 ^ 29 < value))
IsRefused tally kind value (read.WithoutImages n) = (kind ≡ 2) × (n ≡ value) × (tally.waiting ≡ false)
IsRefused tally kind value (read.NotAbove n) = (kind ≡ 2) × (n ≡ value) × (value ≤ tally.last)
IsRefused tally kind value read.ImagesLeft = (kind ≡ 3) × (tally.waiting ≡ true)
IsRefused tally kind value (read.EndValue n) = (kind ≡ 3) × (n ≡ value) × (0 < value)
IsRefused tally kind value _ = ⊥

-- these bytes begin with a record's head that is refused
pub record BeginsRefused (tally : Tally) (rest : List ℕ) (error : StreamError) : Type 0 where
  pub kind : ℕ
  pub value : ℕ
  pub kind_fits : kind < 2 ^ 64
  pub value_fits : value < 2 ^ 64
  pub after : List ℕ
  pub text : rest ≡ record_text kind value ++ after
  pub refused : IsRefused tally kind value error

-- these bytes are a digest, and what comes after it
pub record BeginsDigest (rest digest after : List ℕ) : Type 0 where
  pub text : rest ≡ digest ++ after
  pub long : length digest ≡ 32

-- when the rest of the input isn't the end of a stream
abbrev pub IsEndFault : Tally → List ℕ → StreamError → Type 0
IsEndFault tally rest read.EndsEarly = length rest < 32
IsEndFault tally rest (read.Input _) = Unit {0}
IsEndFault tally rest read.DigestDiffers =
    (digest after : List ℕ) × BeginsDigest rest digest after
    × ((text : List ℕ) → Holds256 tally.hasher text → digest ≢ sha256 (text ++ record_text 3 0))
IsEndFault tally rest read.BytesAfterEnd = (digest after : List ℕ) × BeginsDigest rest digest after × (0 < length after)
IsEndFault tally rest _ = ⊥

-- these bytes begin with the record of an end, and what comes after it isn't one
pub record BeginsEnd (tally : Tally) (rest : List ℕ) (error : StreamError) : Type 0 where
  pub after : List ℕ
  pub text : rest ≡ record_text 3 0 ++ after
  pub fault : IsEndFault tally after error

-- when the rest of the input isn't read as a record
abbrev pub IsRecordFault : Tally → List ℕ → StreamError → Type 0
IsRecordFault tally rest (read.Input _) = Unit {0}
IsRecordFault tally rest read.EndsEarly = (length rest < 16) ⊎ BeginsEnd tally rest read.EndsEarly
IsRecordFault tally rest error = BeginsRefused tally rest error ⊎ BeginsEnd tally rest error

-- when there is no next item
abbrev pub IsItemFault : Bool → Tally → List ℕ → StreamError → Type 0
IsItemFault over tally rest read.Over = over ≡ true
IsItemFault over tally rest read.BytesLeft = 0 < tally.left
IsItemFault over tally rest error = IsRecordFault tally rest error

-- when so many bytes of an image aren't read
abbrev pub IsBytesFault : Bool → ℕ → List ℕ → StreamError → Type 0
IsBytesFault over count rest read.Over = over ≡ true
IsBytesFault over count rest read.EndsEarly = length rest < count
IsBytesFault over count rest (read.Input _) = Unit {0}
IsBytesFault over count rest _ = ⊥

-- bytes of a head that have a digest, and the number 0
pub record HasNoNumber (base : List ℕ) : Type 0 where
  pub digest : List ℕ
  pub text : base ≡ number_text 0 ++ digest
  pub long : length digest ≡ 32
  pub set : digest ≢ replicate 32 0

-- when they aren't read as a base
abbrev pub IsNumberless : List ℕ → StreamError → Type 0
IsNumberless text read.BaseWithoutNumber = HasNoNumber text
IsNumberless text _ = ⊥

-- when 16 bytes aren't the front of a head
abbrev pub IsFrontFault : List ℕ → StreamError → Type 0
IsFrontFault front read.NotAStream = take 8 front ≢ magic_text
IsFrontFault front (read.Version n) = (front ≡ magic_text ++ number_text n) × (n ≢ 1) × (n < 2 ^ 64)
IsFrontFault front _ = ⊥

-- bytes that begin with these
pub record BeginsWith (rest front : List ℕ) : Type 0 where
  pub after : List ℕ
  pub text : rest ≡ front ++ after

-- when these bytes aren't read as the head of a stream
abbrev pub IsHeadFault : List ℕ → StreamError → Type 0
IsHeadFault rest read.EndsEarly = length rest < 56
IsHeadFault rest (read.Input _) = Unit {0}
IsHeadFault rest read.NotAStream = take 8 rest ≢ magic_text
IsHeadFault rest (read.Version n) = BeginsWith rest (magic_text ++ number_text n) × (n ≢ 1) × (n < 2 ^ 64)
IsHeadFault rest read.BaseWithoutNumber =
    (base : List ℕ) × BeginsWith rest ((magic_text ++ number_text 1) ++ base) × HasNoNumber base
IsHeadFault rest _ = ⊥

-- The stream of `ckpt send`: its bytes, and the order of its records.
use Rattle.std.specs.Prelude.{◌≡◌, ℕ, ◌<◌, ◌≤◌, ◌^◌, List, [], ◌∷◌, ◌++◌, length, replicate, codes, flat_map, Option}
use Rattle.std.specs.Prelude.{None, Some}
use Rattle.std.specs.Int.{bytes_low_first}
use Rattle.std.specs.List.{AllByRecursion}
use Rattle.sha2.specs.Sha256.{sha256}
use Rattle.sd_stream.specs.declared.base.Base.{Base}

-- a checkpoint: the files of its images, parents first, and its number
pub record Group : Type 0 where
  pub files : List (List ℕ)
  pub number : ℕ

-- a number, in eight bytes
unfoldable pub number_text : ℕ → List ℕ
number_text n = bytes_low_first 0 8 n

-- the head of a record
unfoldable pub record_text : ℕ → ℕ → List ℕ
record_text kind value = number_text kind ++ number_text value

-- the base's number, 0 where there is none
abbrev pub base_number : Option Base → ℕ
base_number None = 0
base_number (Some base) = base.number

-- the digest of the base's memory, zeros where there is none
abbrev pub base_digest : Option Base → List ℕ
base_digest None = replicate 32 0
base_digest (Some base) = base.digest

-- the first bytes
unfoldable pub magic_text : List ℕ
magic_text = codes "ckptsend"

unfoldable pub base_text : Option Base → List ℕ
base_text base = number_text (base_number base) ++ base_digest base

-- the head of a stream
unfoldable pub head_text : Option Base → List ℕ
head_text base = magic_text ++ number_text 1 ++ base_text base

-- an image: kind 1, the length of its file, and the file
abbrev pub image_text : List ℕ → List ℕ
image_text file = record_text 1 (length file) ++ file

-- a checkpoint: its images, and kind 2 with its number
abbrev pub group_text : Group → List ℕ
group_text group = flat_map image_text group.files ++ record_text 2 group.number

-- what the digest at the end is over: all before it, with the end's record of kind 3 and value 0
unfoldable pub digested_text : Option Base → List Group → List ℕ
digested_text base groups = head_text base ++ flat_map group_text groups ++ record_text 3 0

-- a whole stream
abbrev pub stream_text : Option Base → List Group → List ℕ
stream_text base groups = digested_text base groups ++ sha256 (digested_text base groups)

-- how many bytes the file of an image may have: 1 to 512 MiB
abbrev pub IsFileLength : ℕ → Type 0
IsFileLength len = (0 < len) × (len ≤ 2 ^ 29)

-- a base has a number from 1 on, and a digest of 32 bytes
abbrev pub IsBase : Option Base → Type 0
IsBase None = Unit {0}
IsBase (Some base) = (0 < base.number) × (base.number < 2 ^ 64) × (length base.digest ≡ 32)

-- a checkpoint after one of a lower number: it has images, each of them a file
pub record IsGroup (lower : ℕ) (group : Group) : Type 0 where
  pub number : lower < group.number
  pub fits : group.number < 2 ^ 64
  pub images : 0 < length group.files
  pub files : AllByRecursion (λ file. IsFileLength (length file)) group.files

-- checkpoints whose numbers rise, the first above this one
abbrev pub AreGroups : ℕ → List Group → Type 0
AreGroups lower [] = Unit {0}
AreGroups lower (group ∷ groups) = IsGroup lower group × AreGroups group.number groups

-- what a stream may say
abbrev pub IsStream : Option Base → List Group → Type 0
IsStream base groups = IsBase base × AreGroups (base_number base) groups

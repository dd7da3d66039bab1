-- The header of an image: its text, and what its fields have to be.
use Rattle.std.specs.Prelude.{◌≡◌, ℕ, ◌+◌, ◌*◌, ◌<◌, ◌^◌, List, [], ◌∷◌, ◌++◌, length}
use Rattle.std.specs.List.{concat}
use Rattle.sd_image.specs.declared.header.Header.{Header}
use Rattle.sd_image.specs.declared.header.Version.{Version}
use Rattle.sd_image.specs.declared.header.Version.TheVariants.{One, Two}
use Rattle.sd_image.specs.declared.header.Kind.{Kind}
use Rattle.sd_image.specs.declared.header.Kind.TheVariants.{PreDump, Dump, Merged}
use Rattle.sd_image.specs.Words.{number_bytes, zero_bytes, version_number, kind_number}

-- SDCHAIN
abbrev pub magic : List ℕ
magic = 83 ∷ 68 ∷ 67 ∷ 72 ∷ 65 ∷ 73 ∷ 78 ∷ []

-- bytes 1 to 63
unfoldable pub header_front : Header → List ℕ
header_front h = concat (
    magic
    ∷ number_bytes 2 (version_number h.version)
    ∷ number_bytes 2 (kind_number h.kind)
    ∷ zero_bytes 4
    ∷ number_bytes 8 h.serial
    ∷ number_bytes 8 h.stands_for
    ∷ number_bytes 8 h.parent
    ∷ number_bytes 8 h.checkpoint
    ∷ number_bytes 8 h.pages
    ∷ number_bytes 8 h.table_len
    ∷ [])

-- bytes 1 to 4,095
unfoldable pub header_text : Header → List ℕ
header_text h = header_front h ++ h.digest ++ zero_bytes 4000

-- how an image's number, the number it stands for and its parent go together
abbrev pub AreNumbers : Kind → ℕ → ℕ → ℕ → Type 0
AreNumbers PreDump serial stands_for parent = (stands_for ≡ serial) × (parent < serial)
AreNumbers Dump serial stands_for parent = (stands_for ≡ serial) × (parent < serial)
AreNumbers Merged serial stands_for parent = (0 < stands_for) × (stands_for < serial) × (parent ≡ 0)

-- a digest has 32 bytes; version 1 has zeros in its place
abbrev pub IsDigest : Version → List ℕ → Type 0
IsDigest One digest = digest ≡ zero_bytes 32
IsDigest Two digest = length digest ≡ 32

-- each number has 8 bytes, and the digest 32
pub record HasWords (h : Header) : Type 0 where
  pub serial : h.serial < 2 ^ 64
  pub stands_for : h.stands_for < 2 ^ 64
  pub parent : h.parent < 2 ^ 64
  pub checkpoint : h.checkpoint < 2 ^ 64
  pub pages : h.pages < 2 ^ 64
  pub table_len : h.table_len < 2 ^ 64
  pub digest : IsDigest h.version h.digest

-- the header of a file of this length
pub record IsHeader (h : Header) (length : ℕ) : Type 0 where
  pub words : HasWords h
  pub serial : 0 < h.serial
  pub numbers : AreNumbers h.kind h.serial h.stands_for h.parent
  pub checkpoint : 0 < h.checkpoint
  pub fills : 4096 + 4096 * h.pages + h.table_len ≡ length

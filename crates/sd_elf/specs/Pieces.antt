-- What is stored in a page so that its bytes become others.
use Rattle.std.specs.Prelude.{◌≡◌, ◌≢◌, ◌⊎◌, ◌+◌, ◌<◌, ◌≤◌, ℕ, List, All, length, slice_index}
use Rattle.std.specs.List.{Any}
use Rattle.sd_elf.specs.declared.differences.Piece.{Piece}

-- bytes are the same from one place up to another
abbrev pub AreSame : List ℕ → List ℕ → ℕ → ℕ → Type 0
AreSame old new from to = (k : ℕ) → from ≤ k → k < to → slice_index old k ≡ slice_index new k

-- the next piece from a place on: it begins with the first byte that differs, and has all that differ of the 64 from
-- there on
pub record IsPiece (old new : List ℕ) (from : ℕ) (p : Piece) : Type 0 where
  pub begins : from ≤ p.from
  pub some : p.from < p.to
  pub few : p.to ≤ p.from + 64
  pub within : p.to ≤ length old
  pub before : AreSame old new from p.from
  pub first : slice_index old p.from ≢ slice_index new p.from
  pub behind : (k : ℕ) → p.to ≤ k → k < p.from + 64 → k < length old → slice_index old k ≡ slice_index new k

-- a byte is in a piece
abbrev pub IsIn : ℕ → Piece → Type 0
IsIn k p = (p.from ≤ k) × (k < p.to)

-- a store of a piece is one of 1 to 64 bytes within a page
pub record FitsOneStore (p : Piece) : Type 0 where
  pub some : p.from < p.to
  pub few : p.to ≤ p.from + 64
  pub within : p.to ≤ 4096

-- below a byte each one that differs is in one of these pieces, which can be stored; each begins with one that differs
pub record ArePieces (old new : List ℕ) (end : ℕ) (pieces : List Piece) : Type 0 where
  pub stores : All FitsOneStore pieces
  pub first : All (λ p. slice_index old p.from ≢ slice_index new p.from) pieces
  pub cover : (k : ℕ) → k < end → (slice_index old k ≡ slice_index new k) ⊎ Any (IsIn k) pieces

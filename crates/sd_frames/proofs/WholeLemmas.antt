-- Frames of 4,096 bytes.
use Rattle.std.proofs.Common.{◌≡◌, ℕ, ◌+◌, ◌≤◌, List, [], ◌∷◌, ◌++◌, length, Option, Some, None, IsSome, refl, sym, ◌∙◌, ap, inl, inr, arith, length-append, length-drop}
use Rattle.std.proofs.lemmas.List.{length-take-le}
use Rattle.std.proofs.lemmas.Bool.{cases_eq}
use Rattle.std.specs.List.{slice_get}
use Rattle.sd_frames.specs.declared.frame_cell.FrameCell.{FrameCell}
use Rattle.sd_frames.specs.declared.frame_cell.FrameCell.TheVariants.{Used}
use Rattle.sd_frames.specs.Bytes.{stored_at}
use Rattle.sd_frames.specs.Frames.{Cell, Pool, cell_at, cell_bytes, SetsCell, HasWholeFrames}
use Rattle.sd_frames.proofs.FrameLemmas.{frames_of, used_slot, at_cell, got_pushed, got_before}

-- a frame that is used has its bytes
pub whole_at : (pool : Pool) (k : ℕ) → HasWholeFrames pool → IsSome (cell_at pool k) → length (cell_bytes pool k) ≡ 4096
whole_at pool k whole some = grind arith

same_cell : (c d : Cell) → ◌≡◌ {A = Option Cell} (Some c) (Some d) → c ≡ d
same_cell c d e = cc

-- one frame changed
pub whole_set : (old new : Pool) (k : ℕ) (cell : Cell) → HasWholeFrames old → SetsCell old new k (Some cell) → length cell.bytes ≡ 4096 → HasWholeFrames new
whole_set old new k cell whole sets is n c e = grind arith

none_cell : (c : Cell) → ◌≡◌ {A = Option Cell} None (Some c) → length c.bytes ≡ 4096
none_cell c e = absurd (let f : ◌≡◌ {A = Option Cell} None (Some c) = e in cc)

-- one frame became free
pub whole_freed : (old new : Pool) (k : ℕ) → HasWholeFrames old → SetsCell old new k None → HasWholeFrames new
whole_freed old new k whole sets n c e = grind arith

-- one frame more
pub whole_pushed : (size : ℕ) (slots : List FrameCell) (frame : Cell) → HasWholeFrames (frames_of size slots) → length frame.bytes ≡ 4096 → HasWholeFrames (frames_of size (slots ++ Used frame ∷ []))
whole_pushed size slots frame whole is n c e = elim (cases_eq n (length slots)) [
  | inl last ↦ (
      let f : ◌≡◌ {A = Option FrameCell} (Some (Used frame)) (Some (Used c)) = sym (got_pushed slots (Used frame)) ∙ ap (slice_get (slots ++ Used frame ∷ [])) (sym last) ∙ used_slot (slots ++ Used frame ∷ []) n c e in
      let g : frame ≡ c = cc in
      ap (λ (x : Cell). length x.bytes) (sym g) ∙ is)
  | inr before ↦ (
      let f : slice_get slots n ≡ Some (Used c) = sym (got_before slots (Used frame) n before) ∙ used_slot (slots ++ Used frame ∷ []) n c e in
      whole n c (at_cell slots n ∙ rw f refl))
]

pub stored_whole : (page bytes : List ℕ) (offset : ℕ) → length page ≡ 4096 → offset + length bytes ≤ 4096 → length (stored_at page offset bytes) ≡ 4096
stored_whole page bytes offset whole within = grind (arith, length-take-le, length-drop, length-append)

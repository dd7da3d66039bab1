-- Pages of 4,096 bytes.
use Rattle.std.proofs.Common.{◌≡◌, ℕ, length, replicate, Option, Some, IsSome, arith}
use Rattle.std.proofs.lemmas.List.{length-replicate}
use Rattle.sd_tables.specs.declared.entry.Entry.{Entry}
use Rattle.sd_pagetable.specs.Nested.{Nested}
use Rattle.sd_pagetable.specs.Page.{zeros}
use Rattle.sd_pagetable.specs.Contents.{AreWhole}
use Rattle.sd_frames.specs.Frames.{Pool, cell_at, cell_bytes, HasWholeFrames, frame_bytes}
use Rattle.sd_pagetable.specs.View.{contents_of, IsKept}
use Rattle.sd_pagetable.proofs.ViewLemmas.{page_at-view}
use Rattle.sd_pagetable.proofs.KeptLemmas.{frame_used}
use Rattle.sd_pagetable.proofs.LawEvents.{changed}

-- a frame that is used has its bytes
whole_at : (pool : Pool) (k : ℕ) → HasWholeFrames pool → IsSome (cell_at pool k) → length (cell_bytes pool k) ≡ 4096
whole_at pool k whole some = grind arith

-- a page of zeros
replicated : (n : ℕ) → length {A = ℕ} (replicate n 0) ≡ n
replicated n = length-replicate n 0

zeros_whole : length zeros ≡ 4096
unfolding zeros
zeros_whole = replicated 4096

frame_whole : (pool : Pool) (frame : Option ℕ) → HasWholeFrames pool → ((k : ℕ) → frame ≡ Some k → IsSome (cell_at pool k)) → length (frame_bytes pool frame) ≡ 4096
frame_whole pool frame whole used = grind (arith, zeros_whole, whole_at)

pub pages_whole : (pool : Pool) (tables : Nested Entry) (n : ℕ) → IsKept pool tables n → HasWholeFrames pool → AreWhole (contents_of pool tables)
pages_whole pool tables n kept whole s p page there = grind (arith, changed, page_at-view, frame_whole, frame_used)

use Rattle.std.proofs.Common.{◌≡◌, ◌⊎◌, ◌*◌, ◌<◌, ℕ, Some, slice_index}
use Rattle.sd_pagetable.specs.Contents.{page_at}
use Rattle.sd_pagetable.specs.Page.{PageState}
use Rattle.sd_import.proofs.checking.has_bytes.Given as goal

-- the sectors so far are the same, and there is a page if there is any
abbrev pub invariant-loop-sector : goal.invariant-loop-sector
invariant-loop-sector l = record {
  there : (l.sector ≡ 0) ⊎ ((found : PageState) × (page_at l.memory l.space l.page ≡ Some found));
  same : (found : PageState) → page_at l.memory l.space l.page ≡ Some found → (k : ℕ) → k < 512 * l.sector → slice_index found.bytes k ≡ slice_index l.bytes k;
}

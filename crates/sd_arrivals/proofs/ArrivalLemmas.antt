-- Calls that leave what a store shows, one after the other.
use Rattle.std.proofs.Common.{◌≤◌, ℕ, List, Option}
use Rattle.sd_areas.specs.PlainMemory.{PlainMemory}
use Rattle.sd_disk.specs.Crash.{Within}
use Rattle.sd_disk.specs.Spans.{LeavesOnly, nothing_called, spans_join}
use Rattle.sd_disk.specs.declared.disk.Disk.{Ghosts}
use Rattle.sd_image.specs.Shows.{Shows}

module _ {D : Type 0} (g : Ghosts D) where
  -- what may be left at the end
  pub within_now : (old new : D) (P : List (List ℕ) → Type 0)
      → ((t : ℕ) (c : List (List ℕ)) → t ≤ g.moment new → g.may_leave new c → g.left_since new t c) → LeavesOnly g old new P → Within (g.may_leave new) P
  within_now old new P counts_now span c left = span.each c (counts_now (g.moment old) c span.later left)

  module _ (shown : Option (ℕ × PlainMemory)) where
    abbrev Still : List (List ℕ) → Type 0
    Still c = Shows c shown

    -- nothing is called
    pub shows_still : (disk : D) → ((c : List (List ℕ)) → g.left_since disk (g.moment disk) c → g.may_leave disk c) → Within (g.may_leave disk) Still → LeavesOnly g disk disk Still
    shows_still disk only_now within = nothing_called g disk Still (g.may_leave disk) only_now within

    -- calls, and then others that leave it where it is left before
    pub shows_join : (old mid new : D) → g.may_leave mid (g.contents mid)
        → ((t : ℕ) (c : List (List ℕ)) → t ≤ g.moment mid → g.may_leave mid c → g.left_since mid t c) → LeavesOnly g old mid Still
        → (Shows (g.contents mid) shown → Within (g.may_leave mid) Still → LeavesOnly g mid new Still) → LeavesOnly g old new Still
    shows_join old mid new as_read counts_now first second =
        spans_join g old mid new Still first (second (within_now old mid Still counts_now first (g.contents mid) as_read) (within_now old mid Still counts_now first))

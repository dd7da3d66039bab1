use Rattle.std.proofs.Common.{◌≡◌, ◌-◌, ℕ, false, length}
use Rattle.std.specs.FinMap as finmap
use Rattle.sd_fold.specs.Overlay.{changes_of}
use Rattle.sd_areas.specs.Pages.{is_within}
use Rattle.sd_fold.proofs.changes.forget_run.Given as goal

-- no page outside of the run changed
abbrev pub invariant-loop-page : goal.invariant-loop-page
invariant-loop-page l = (q : ℕ) → is_within l.first (l.end - l.first) q ≡ false
    → finmap.get (changes_of l.changes.entries) q ≡ finmap.get (changes_of l.fn.changes.entries) q

abbrev pub decreases-loop-page : goal.decreases-loop-page
decreases-loop-page l = length l.changes.entries

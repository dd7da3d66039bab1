-- What the calls of a plan leave of a disk, while they are made and afterwards.
use Rattle.std.specs.Prelude.{◌≡◌, ◌≢◌, ℕ, List, Some, Result, OnOk, length, slice_get, slice_set}
use Rattle.sd_disk.specs.Contents.{file_at}
use Rattle.sd_disk.specs.Spans.{LeavesOnly}
use Rattle.sd_disk.specs.declared.disk.Disk.{Ghosts}
use Rattle.sd_gate.specs.declared.phase.Phase.{Phase}
use Rattle.sd_gate.specs.Fits.{DiskFits, PhaseLeaves}
use Rattle.sd_gate.specs.Laws.{IsClosedOrWhole}
use Rattle.sd_gate.specs.PlanRuns.{Takes}
use Rattle.sd_gate.specs.Sequences.{Calls}

-- A slot has no image, or this one, and each other slot is as a crash may leave it in its phase.
pub record IsLeftBeside (phases : List Phase) (bodies : List (List ℕ)) (slot : ℕ) (image : List ℕ)
    (c : List (List ℕ)) : Type 0 where
  pub count : length c ≡ length phases
  pub here : IsClosedOrWhole image (file_at c slot)
  pub others : (other : ℕ) (phase : Phase) → other ≢ slot → slice_get phases other ≡ Some phase
      → PhaseLeaves phase (file_at bodies other) (file_at c other)

-- At each moment of the calls of a plan a crash leaves that, and once all are made the slot is in its last phase.
pub record RunsPlan {D E X : Type 0} (g : Ghosts D) (phases : List Phase) (bodies : List (List ℕ)) (slot : ℕ)
    (image : List ℕ) (last : Phase) (final : List ℕ) (old new : D) (result : Result X E) : Type 0 where
  pub any_moment : LeavesOnly g old new (IsLeftBeside phases bodies slot image)
  pub at_end : OnOk result (DiskFits (slice_set phases slot last) (slice_set bodies slot final) (g.contents new)
      (g.may_leave new))

-- So it is of these calls, on a slot that takes them: they lead it from its phase to the last.
abbrev pub RunsCalls : {D E X : Type 0} → Ghosts D → ℕ → Calls → D → D → Result X E → Type 0
RunsCalls g slot calls old new result = (phases : List Phase) (bodies : List (List ℕ)) (image : List ℕ)
    (phase last : Phase) (final : List ℕ) → slice_get phases slot ≡ Some phase
    → Takes image phase (file_at bodies slot) calls last final
    → DiskFits phases bodies (g.contents old) (g.may_leave old)
    → RunsPlan g phases bodies slot image last final old new result

use Rattle.std.proofs.Common.{◌≡◌, ◌≢◌, ℕ, ◌<◌, List, None, Some, length, slice_get}
use Rattle.sd_disk.specs.Contents.{file_at}
use Rattle.sd_gate.specs.declared.phase.Phase.{Phase}
use Rattle.sd_gate.specs.Fits.{DiskFits}
use Rattle.sd_gate.specs.PlanRuns.{Takes}
use Rattle.sd_gate.specs.PlanUse.{IsUnderWay}
use Rattle.sd_receive.proofs.RunLemmas.{GoesOn}
use Rattle.sd_receive.proofs.plans.run.Given as goal

-- the calls so far were made
abbrev pub invariant-loop-plan : goal.invariant-loop-plan
invariant-loop-plan g l = record {
  slot : l.plan.slot ≡ l.fn.plan.slot;
  under_way : IsUnderWay l.plan;
  begins : l.plan.out ≡ None;
  inside : l.fn.plan.slot < length (g.D.Disk.contents l.disk);
  runs : (phases : List Phase) (bodies : List (List ℕ)) (image : List ℕ) (phase last : Phase) (final : List ℕ)
      → slice_get phases l.fn.plan.slot ≡ Some phase → Takes image phase (file_at bodies l.fn.plan.slot) l.fn.plan.calls last final
      → DiskFits phases bodies (g.D.Disk.contents l.fn.disk) (g.D.Disk.may_leave l.fn.disk)
      → GoesOn g.D.Disk phases bodies l.fn.plan.slot image last final l.fn.disk l.disk l.plan.calls;
  others : (other : ℕ) → other ≢ l.fn.plan.slot → file_at (g.D.Disk.contents l.disk) other ≡ file_at (g.D.Disk.contents l.fn.disk) other;
  count : length (g.D.Disk.contents l.disk) ≡ length (g.D.Disk.contents l.fn.disk);
  honest : g.D.Disk.is_honest l.disk → g.D.Disk.is_honest l.fn.disk;
  stays : g.D.Disk.failed l.disk ≡ g.D.Disk.failed l.fn.disk;
}

abbrev pub decreases-loop-plan : goal.decreases-loop-plan
decreases-loop-plan g l = length l.plan.calls

use Rattle.std.proofs.Common.{ℕ, inr, ◌∙◌, subst}
use Rattle.sd_gate.specs.declared.worker.Worker.TheVariants.{Dumper}
use Rattle.sd_shared.specs.Turns.{WorkerIsAnswered}
use Rattle.sd_shared.proofs.relayed_dump.RelayedDump.go_on_to_the_end.Goals as goal

pub loop-preserved : goal.loop-preserved
loop-preserved g c =
    let stays = c.go_on.ensures.stays in
    let stayed = c.loop.invariant.0 in (
      (stays.0 ∙ stayed.0, stays.1 ∙ stayed.1, stays.2 ∙ stayed.2),
      c.go_on.ensures.same ∙ c.loop.invariant.1,
      λ over. inr (subst (λ (number : ℕ). WorkerIsAnswered g.D.Disk.contents Dumper number c.go_on.new.self.last) c.loop.invariant.1 (c.go_on.ensures.told over)),
    )

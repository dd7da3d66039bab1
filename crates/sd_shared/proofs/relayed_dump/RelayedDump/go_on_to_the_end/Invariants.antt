use Rattle.std.proofs.Common.{◌≡◌, ◌⊎◌, true}
use Rattle.sd_gate.specs.declared.worker.Worker.TheVariants.{Dumper}
use Rattle.sd_relay.specs.Fronts.{StaysOnChannel}
use Rattle.sd_shared.specs.Told.{ends_job}
use Rattle.sd_shared.specs.Turns.{WorkerIsAnswered}
use Rattle.sd_shared.proofs.relayed_dump.RelayedDump.go_on_to_the_end.Given as goal

-- the front and the job stay, and what ends the job was there at first, or was said
abbrev pub invariant-loop : goal.invariant-loop
invariant-loop g l = StaysOnChannel l.initial.front l.front × (l.self.number ≡ l.initial.self.number)
    × (ends_job l.self.last ≡ true
    → (l.self.last ≡ l.initial.self.last) ⊎ WorkerIsAnswered g.D.Disk.contents Dumper l.initial.self.number l.self.last)

-- Events that are alike, each answered alike.
use Rattle.std.proofs.Common.{ℕ, ◌+◌, zero, suc, replicate, refl, subst}
use Rattle.std.proofs.Math.Numerals.{suc-eq-add-one}
use Rattle.sd_command.specs.declared.reply.Reply.{Reply}
use Rattle.sd_disk.specs.declared.disk.Disk.{Ghosts}
use Rattle.sd_world.specs.declared.event.Event.{Event}
use Rattle.sd_world.specs.Runs.{IsStep, Runs}
use Rattle.sd_world.specs.View.{WorldView}

module _ {D : Type 0} (g : Ghosts D) (event : Event) (answer : Reply) where
  repeated_on : (count : ℕ) (first mid last : WorldView D) → Runs g first (replicate count event) (replicate count answer) mid
      → IsStep g event mid answer last → Runs g first (replicate (suc count) event) (replicate (suc count) answer) last
  repeated_on zero first mid last runs step = (last, subst (λ (world : WorldView D). IsStep g event world answer last) runs step, refl)
  repeated_on (suc count) first mid last runs step = (runs.0, runs.1, repeated_on count runs.0 mid last runs.2 step)

  -- one more after those so far
  pub repeated : (count : ℕ) (first mid last : WorldView D) → Runs g first (replicate count event) (replicate count answer) mid
      → IsStep g event mid answer last → Runs g first (replicate (count + 1) event) (replicate (count + 1) answer) last
  repeated count first mid last runs step = subst (λ n. Runs g first (replicate n event) (replicate n answer) last) (suc-eq-add-one count)
      (repeated_on count first mid last runs step)

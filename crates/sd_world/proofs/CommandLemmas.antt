-- The event of a command, whoever makes it.
use Rattle.std.proofs.Common.{◌≡◌, ◌≢◌, ℕ, None, Result, refl}
use Rattle.sd_command.specs.declared.command.Command.{Command as CommandOf}
use Rattle.sd_command.specs.declared.refusal.Refusal.{Refusal}
use Rattle.sd_command.specs.declared.reply.Reply.{Reply}
use Rattle.sd_disk.specs.declared.disk.Disk.{Ghosts}
use Rattle.sd_gate.specs.Laws.{GivenUpFits}
use Rattle.sd_crash_safety.specs.View.{CoreView}
use Rattle.sd_core.specs.Called.{IsApplied}
use Rattle.sd_core.specs.Kept.{HasItsPreDumps}
use Rattle.sd_core.specs.Rounds.{LeavesPreDumps}
use Rattle.sd_world.specs.declared.event.Event.{Event}
use Rattle.sd_world.specs.declared.event.Event.TheVariants.{Command}
use Rattle.sd_world.specs.Acked.{IsWorldThere}
use Rattle.sd_world.specs.Consistent.{IsWorld}
use Rattle.sd_world.specs.Steps.{IsCommand, answer_of}
use Rattle.sd_world.specs.View.{WorldView}
use Rattle.sd_world.proofs.AckedLemmas.{step_pre_dumps}
use Rattle.sd_world.proofs.Worlds.{stays_world}

module _ {D : Type 0} (g : Ghosts D) (old : WorldView D) (later : CoreView) (seat : ℕ) (command : CommandOf) (told : Result (ℕ × Reply) Refusal) (answer : Reply)
    (applied : IsApplied seat command told old.core later) (answered : answer ≡ answer_of told) (was : IsWorldThere g old)
    (gives : GivenUpFits (g.contents old.disk) (g.may_leave old.disk)) (pre_new : HasItsPreDumps later) where
  abbrev new : WorldView D
  new = record { core = later; disk = old.disk; kept = old.kept }

  abbrev event : Event
  event = Command seat command

  pub does : IsCommand seat command old answer new
  does = record { told = told; applied = applied; answered = answered; rest = record { disk = refl; kept = refl } }

  is : IsWorld g new
  is = stays_world g old.disk old.core later old.kept gives applied.keeps was.is

  -- what is so of every world
  pub command_there : LeavesPreDumps old.core → (old.core.opener ≢ None → old.core.dumper.running ≡ None) → IsWorldThere g new
  command_there looks alone = record {
    is = is;
    pre_dumps = λ honest. step_pre_dumps g old new pre_new was.is (was.is.consistent honest) is (is.consistent honest) event answer looks alone does (was.pre_dumps honest);
  }

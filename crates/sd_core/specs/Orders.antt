-- What an order leaves that isn't refused: a checkpoint is cancelled, or an opener begins.
use Rattle.std.specs.Prelude.{◌≡◌, ◌⊎◌, ℕ, false, map, Some, None}
use Rattle.sd_command.specs.declared.refusal.Refusal.TheVariants.{OutOfMemory}
use Rattle.sd_command.specs.declared.reply.Reply.{Reply}
use Rattle.sd_command.specs.declared.reply.Reply.TheVariants as reply
use Rattle.sd_gate.specs.declared.worker.Worker.TheVariants.{Opener}
use Rattle.sd_gate.specs.Phases.{given_up}
use Rattle.sd_journal.specs.History.{pending}
use Rattle.sd_crash_safety.specs.Calls.{running_number}
use Rattle.sd_crash_safety.specs.View.{CoreView, history_of}
use Rattle.sd_core.specs.Refusals.{is_idle}

-- the number of the checkpoint that runs, or of the one that is pending
abbrev pub IsCheckpointUnderWay : CoreView → ℕ → Type 0
IsCheckpointUnderWay core n = (running_number core.dumper.running ≡ Some n) ⊎ (pending (history_of core) ≡ Some n)

-- no checkpoint runs, no entry is held, and the next one takes every page; a merge goes on
pub record IsCancelled (old : CoreView) (answer : Reply) (new : CoreView) : Type 0 where
  pub number : ℕ
  pub answered : answer ≡ reply.Cancelled number
  pub under_way : IsCheckpointUnderWay old number
  pub stands : new.standing ≡ old.standing
  pub idle : new.dumper.running ≡ None
  pub held : new.held ≡ 0
  pub whole : new.grows ≡ false
  pub merger : new.merger ≡ old.merger

-- an opener runs, and the job of each slot was given up
pub record HasOpener (old new : CoreView) : Type 0 where
  pub stands : new.standing ≡ old.standing
  pub runs : is_idle new Opener ≡ false
  pub phases : new.phases ≡ map given_up old.phases
  pub merger : new.merger ≡ old.merger

abbrev pub BeginsToOpen : CoreView → Reply → CoreView → Type 0
BeginsToOpen old reply.Worked new = HasOpener old new
BeginsToOpen old (reply.Refused OutOfMemory) new = new ≡ old
BeginsToOpen old _ new = ⊥

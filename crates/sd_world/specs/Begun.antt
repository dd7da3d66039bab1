-- How a checkpoint began, over a run.
use Rattle.std.specs.Prelude.{◌≡◌, ℕ, List, ◌∷◌, ◌++◌, length, Some, None, IfSome}
use Rattle.sd_command.specs.declared.reply.Reply.{Reply}
use Rattle.sd_command.specs.declared.reply.Reply.TheVariants as reply
use Rattle.sd_disk.specs.declared.disk.Disk.{Ghosts}
use Rattle.sd_rounds.specs.Dumper.{Running}
use Rattle.sd_core.specs.Beginning.{Begins}
use Rattle.sd_core.specs.Images.{begun_as}
use Rattle.sd_world.specs.declared.event.Event.{Event}
use Rattle.sd_world.specs.declared.event.Event.TheVariants.{Begin}
use Rattle.sd_world.specs.Runs.{IsStep, Runs}
use Rattle.sd_world.specs.View.{WorldView}

-- The checkpoint began at one of a run's events, which answered its number: it has as many pre-dumps as that order
-- asked for.
pub record BegunWithin {D : Type 0} (g : Ghosts D) (first : WorldView D) (events : List Event) (answers : List Reply)
    (checkpoint : Running) : Type 0 where
  pub before : List Event
  pub told : List Reply
  pub mid : WorldView D
  pub there : Runs g first before told mid
  pub rounds : ℕ
  pub next : WorldView D
  pub step : IsStep g (Begin rounds) mid (reply.Begun checkpoint.number) next
  pub after : List Event
  pub more : List Reply
  pub events_are : events ≡ before ++ Begin rounds ∷ after
  pub answers_are : answers ≡ told ++ reply.Begun checkpoint.number ∷ more
  pub begins : Begins mid.core rounds checkpoint.number next.core
  pub running : next.core.dumper.running ≡ Some checkpoint
  pub asked : length checkpoint.pre_dumps ≡ rounds

-- So began the checkpoint that runs after a run, where none ran as that began. An acknowledgement is of the checkpoint
-- that ran before it.
abbrev pub RunsAsBegun : {D : Type 0} → Ghosts D → Type 0
RunsAsBegun {D} g = (first last : WorldView D) (events : List Event) (answers : List Reply)
    → first.core.dumper.running ≡ None → Runs g first events answers last
    → IfSome last.core.dumper.running (λ running. BegunWithin g first events answers (begun_as running))

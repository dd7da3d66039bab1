-- How a run goes on from one state of its world to a later one.
use Rattle.std.specs.Prelude.{List}
use Rattle.sd_command.specs.declared.reply.Reply.{Reply}
use Rattle.sd_disk.specs.Spans.{LeavesOnly}
use Rattle.sd_disk.specs.declared.disk.Disk.{Ghosts}
use Rattle.sd_world.specs.declared.event.Event.{Event}
use Rattle.sd_world.specs.Runs.{Runs, ShowsAllowedWithin}
use Rattle.sd_world.specs.View.{WorldView}

-- It makes events, one after the other. Whatever moment between the two states a crash comes, it leaves what the
-- journal of that moment allows.
pub record GoesOn {D : Type 0} (g : Ghosts D) (old new : WorldView D) : Type 0 where
  pub events : List Event
  pub replies : List Reply
  pub runs : Runs g old events replies new
  pub honest : g.is_honest new.disk → g.is_honest old.disk
  pub any_moment : g.is_honest new.disk → LeavesOnly g old.disk new.disk (ShowsAllowedWithin g old events replies new)

-- What a crash leaves at any moment of a run, in terms of its points.
use Rattle.std.specs.Prelude.{◌≡◌, ℕ, List, ◌++◌}
use Rattle.sd_command.specs.declared.reply.Reply.{Reply}
use Rattle.sd_disk.specs.Crash.{Within}
use Rattle.sd_disk.specs.Spans.{LeavesOnly}
use Rattle.sd_disk.specs.declared.disk.Disk.{Ghosts}
use Rattle.sd_journal.specs.Tell.{tell}
use Rattle.sd_world.specs.declared.event.Event.{Event}
use Rattle.sd_world.specs.Promise.{Goes, Point, ShowsWhatRunAllows}

-- Contents show what the journal allowed at one of the points of a run: it goes by the first events to that point, and
-- by the others on.
pub record ShowsOnTheWay {D : Type 0} (g : Ghosts D) (first : Point D) (events : List Event) (answers : List Reply)
    (last : Point D) (contents : List (List ℕ)) : Type 0 where
  pub before : List Event
  pub told : List Reply
  pub mid : Point D
  pub there : Goes g first before told mid
  pub after : List Event
  pub more : List Reply
  pub goes_on : Goes g mid after more last
  pub events_are : events ≡ before ++ after
  pub answers_are : answers ≡ told ++ more
  pub shows : ShowsWhatRunAllows (tell mid.start mid.entries) contents

-- Whatever moment of a run a crash comes, it leaves such contents, where it was so as the run began.
abbrev pub GoesLeave : {D : Type 0} → Ghosts D → Type 0
GoesLeave {D} g = (first last : Point D) (events : List Event) (answers : List Reply)
    → Within (g.may_leave first.disk) (ShowsWhatRunAllows (tell first.start first.entries))
    → Goes g first events answers last
    → LeavesOnly g first.disk last.disk (ShowsOnTheWay g first events answers last)

use Rattle.std.proofs.Common.{◌≡◌, length, take, vec_len, vec_capacity}
use Rattle.sd_disk.specs.Spans.{LeavesOnly}
use Rattle.sd_world.specs.Runs.{Runs, ShowsAllowedWithin}
use Rattle.sd_world.proofs.world.World.run.Given as goal

abbrev pub invariant-loop-event : goal.invariant-loop-event
invariant-loop-event g l = record {
  runs : Runs g.D.Disk l.fn.self (take l.event-index l.events) l.replies.items l.self;
  count : vec_len l.replies ≡ l.event-index;
  room : vec_capacity l.replies ≡ length l.events;
  honest : g.D.Disk.is_honest l.self.disk → g.D.Disk.is_honest l.fn.self.disk;
  span : g.D.Disk.is_honest l.self.disk → LeavesOnly g.D.Disk l.fn.self.disk l.self.disk
      (ShowsAllowedWithin g.D.Disk l.fn.self (take l.event-index l.events) l.replies.items l.self);
}

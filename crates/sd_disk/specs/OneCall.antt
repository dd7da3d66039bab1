-- What all calls of a disk have in common.
use Rattle.std.specs.Prelude.{◌≡◌, ◌+◌}
use Rattle.sd_disk.specs.Crash.{Elapses}
use Rattle.sd_disk.specs.declared.disk.Disk.{Ghosts}

-- One call was made, done or failed: time goes on by it, a device that is honest now was so before, and it counts as
-- one.
pub record IsOneCall {D : Type 0} (g : Ghosts D) (old new : D) : Type 0 where
  pub time : Elapses (g.moment old) (g.moment new) (g.left_since old) (g.left_since new) (g.may_leave new)
  pub honest : g.is_honest new → g.is_honest old
  pub counted : g.calls new ≡ g.calls old + 1

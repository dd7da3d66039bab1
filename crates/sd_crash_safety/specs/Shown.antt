-- Contents that show what a journal allows.
use Rattle.std.specs.Prelude.{ℕ, List}
use Rattle.sd_image.specs.Shows.{Shows}
use Rattle.sd_journal.specs.Allowed.{Shown, IsAllowed}
use Rattle.sd_journal.specs.History.{Base, History}

-- the last checkpoint with the memory at its freeze, or the pending one; nothing saved counts as one where it is
-- allowed
pub record ShowsAllowed (base : Base) (history : History) (contents : List (List ℕ)) : Type 0 where
  pub shown : Shown
  pub allowed : IsAllowed base history shown
  pub shows : Shows contents shown

-- What an audit finds out: whether contents show one of the pairs that a journal allows.
use Rattle.std.specs.Prelude.{ℕ, List, Option}
use Rattle.sd_areas.specs.declared.snapshot.Snapshot.{Snapshot}
use Rattle.sd_areas.specs.Memory.{memory_of}
use Rattle.sd_areas.specs.PlainMemory.{PlainMemory}
use Rattle.sd_image.specs.Shows.{Shows}
use Rattle.sd_journal.specs.declared.origin.Origin.TheVariants.{Opened}
use Rattle.sd_journal.specs.History.{Base, History}
use Rattle.sd_journal.specs.Allowed.{Shown, IsAllowed}

-- what a run goes on from: a memory, with the number of its checkpoint if it has one. Where these come from matters to
-- no audit.
abbrev pub base_from_snapshot : Option ℕ → Snapshot → Base
base_from_snapshot number snapshot =
    record { number = number; memory = memory_of snapshot; origin = Opened; folded = 0 }

-- the contents show nothing saved, or a checkpoint's memory, and the journal allows just that
pub record ShowsOne (base : Base) (history : History) (contents : List (List ℕ)) : Type 0 where
  pub shown : Shown
  pub allowed : IsAllowed base history shown
  pub shows : Shows contents shown

-- a snapshot as what a store shows
abbrev pub shown_by : Snapshot → ℕ × PlainMemory
shown_by snapshot = (snapshot.checkpoint, memory_of snapshot)

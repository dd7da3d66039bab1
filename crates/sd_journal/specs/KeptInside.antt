-- What holds of the parts of a `Journal`.
use Rattle.std.specs.Prelude.{◌+◌, ◌≤◌, ◌^◌, length, reverse, vec_capacity}
use Rattle.sd_journal.specs.declared.journal.Journal.TheInside.{Inside}
use Rattle.sd_journal.specs.Kept.{AreWithin}

pub record IsKeptJournal (journal : Inside) : Type 0 where
  -- so many entries were taken from the front
  pub first : journal.first ≤ 2 ^ 62
  pub most : journal.limit ≤ 1048576
  pub within : length journal.entries.items + journal.held ≤ journal.limit
  -- what is held can be written without memory
  pub room : length journal.entries.items + journal.held ≤ vec_capacity journal.entries
  pub marks : AreWithin (journal.first + length journal.entries.items) (reverse journal.marks.items)

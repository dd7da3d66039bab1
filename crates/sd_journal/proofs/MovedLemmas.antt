-- Entries that are moved from the end of a list into another one, the last of them first.
use Rattle.std.proofs.Common.{◌≡◌, ◌+◌, ◌≤◌, ℕ, List, ◌++◌, length, reverse}
use Rattle.sd_journal.specs.declared.entry.Entry.{Entry}

pub record AreMoved (all : List Entry) (count : ℕ) (left moved : List Entry) : Type 0 where
  pub parts : left ++ reverse moved ≡ all
  pub least : count ≤ length left

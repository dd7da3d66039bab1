-- A memory with the entries that led to it from a run's beginning.
use Rattle.std.specs.Prelude.{◌≡◌, List, reverse, None}
use Rattle.sd_pagetable.specs.Contents.{Contents, plain_of}
use Rattle.sd_journal.specs.declared.entry.Entry.{Entry}
use Rattle.sd_journal.specs.History.{memory_after, pending}
use Rattle.sd_journal.specs.Legal.{IsLegal}
use Rattle.sd_journal.specs.Worked.{empty_base}

pub record TellsMemory (entries : List Entry) (contents : Contents) : Type 0 where
  pub legal : IsLegal empty_base (reverse entries)
  pub memory : plain_of contents ≡ memory_after empty_base (reverse entries)
  pub thawed : pending (reverse entries) ≡ None

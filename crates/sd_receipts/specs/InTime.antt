-- The entries of a journal in order of time.
use Rattle.std.specs.Prelude.{List, reverse}
use Rattle.sd_journal.specs.declared.entry.Entry.{Entry}
use Rattle.sd_journal.specs.Kept.{JournalView}
use Rattle.sd_journal.specs.Marked.{entries_of}

-- the entries without the marks, the oldest first
abbrev pub in_time : JournalView → List Entry
in_time journal = reverse (entries_of journal.items)

-- Where a checkpoint's freeze stands among entries in order of time.
use Rattle.std.specs.Prelude.{◌≡◌, ℕ, List, reverse, take, Option, Some, None}
use Rattle.sd_areas.specs.PlainMemory.{PlainMemory}
use Rattle.sd_journal.specs.declared.entry.Entry.{Entry}
use Rattle.sd_journal.specs.History.{Base, memory_after, at_base, at_freeze}

-- the memory of the entries before a place, or the base's for its own number
abbrev pub memory_before : Base → List Entry → ℕ → Option ℕ → Option PlainMemory
memory_before base entries n None = at_base base.number base.memory n
memory_before base entries n (Some place) = Some (memory_after base (reverse (take place entries)))

-- it is the place of the number's latest freeze, or none is there
abbrev pub IsFreezePlace : List Entry → ℕ → Option ℕ → Type 0
IsFreezePlace entries n place = (base : Base) → at_freeze base (reverse entries) n ≡ memory_before base entries n place

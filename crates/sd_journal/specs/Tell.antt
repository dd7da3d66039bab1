-- What a journal says, read from its newest entry: the memory, and which checkpoints a store may show.
use Rattle.std.specs.Prelude.{◌≡◌, ◌≢◌, ◌⊎◌, ℕ, ◌==◌, if◌then◌else◌, List, [], ◌∷◌, Option, Some, None}
use Rattle.std.specs.FinMap as finmap
use Rattle.sd_areas.specs.PlainMemory.{PlainMemory}
use Rattle.sd_command.specs.Replies.{effect}
use Rattle.sd_journal.specs.declared.entry.Entry.{Entry}
use Rattle.sd_journal.specs.declared.entry.Entry.TheVariants.{Applied, Freeze, Acked, Cancelled, Reopened}
use Rattle.sd_journal.specs.Allowed.{Shown}

-- the memory as it stands; the last checkpoint, which was acknowledged or found; and the one that is being written,
-- each with the memory at its freeze
pub record Told : Type 0 where
  pub memory : PlainMemory
  pub last : Shown
  pub pending : Shown

-- the one that is being written, if it has this number, and else the last one
abbrev pub chosen : ℕ → Shown → Shown → Shown
chosen n None last = last
chosen n (Some pair) last = if pair.0 == n then Some pair else last

-- what an entry makes of it
abbrev pub after : Entry → Told → Told
after (Applied seat command reply) told = record told { memory = effect command reply told.memory }
after (Freeze n) told = record told { pending = Some (n, told.memory) }
after (Acked n) told = record told { last = chosen n told.pending told.last; pending = None }
after (Cancelled n) told = record told { pending = None }
after (Reopened None) told = record told { last = None; pending = None }
after (Reopened (Some n)) told = record told { last = chosen n told.pending told.last; pending = None }

-- what a run starts with: the memory that was found, or space 1 alone, without areas, where nothing was saved
abbrev pub first_memory : Shown → PlainMemory
first_memory None = finmap.insert finmap.empty 1 finmap.empty
first_memory (Some pair) = pair.1

-- what the entries say of a run that starts from what is shown
abbrev pub tell : Shown → List Entry → Told
tell first [] = record { memory = first_memory first; last = first; pending = None }
tell first (entry ∷ earlier) = after entry (tell first earlier)

-- a store may show the last one, or the one that is being written
abbrev pub MayShow : Told → Shown → Type 0
MayShow told shown = (shown ≡ told.last) ⊎ ((told.pending ≢ None) × (shown ≡ told.pending))

-- Runs of pages that change where they are, without a change of frames.
use Rattle.std.specs.Prelude.{◌≡◌, ◌⊎◌, ℕ, ◌<◌, ◌≤◌, Bool, true, false, Option, Some, None, is_some, IsSome, not}
use Rattle.std.specs.Prelude.{if◌then◌else◌}
use Rattle.sd_tables.specs.declared.entry.Entry.{Entry}
use Rattle.sd_tables.specs.declared.run_change.RunChange.{RunChange}
use Rattle.sd_tables.specs.declared.run_change.RunChange.TheVariants.{Renew, Protect}

-- whether an entry keeps its frame, if it has one: a page that is mapped anew has none
abbrev pub takes : RunChange → Entry → Bool
takes (Renew prot) entry = not (is_some entry.frame)
takes (Protect prot) entry = true

-- the entry after a change
abbrev pub changed_entry : RunChange → Entry → Entry
changed_entry (Renew prot) entry = record { prot = prot; frame = None; writable = false; soft_dirty = true }
changed_entry (Protect prot) entry =
    record { prot = prot; frame = entry.frame; writable = false; soft_dirty = entry.soft_dirty }

-- the entry after a change, if it keeps its frame
abbrev pub change_of : RunChange → Entry → Option Entry
change_of change entry = if takes change entry then Some (changed_entry change entry) else None

-- the pages from one on, up to another, are mapped
abbrev pub AreMapped : (ℕ → Option Entry) → ℕ → ℕ → Type 0
AreMapped at from to = (page : ℕ) → from ≤ page → page < to → IsSome (at page)

-- those pages had entries that keep their frames, and have the changed ones; all other pages are as before
pub record ChangesRun (change : RunChange) (old new : ℕ → Option Entry) (from to : ℕ) : Type 0 where
  pub taken : (page : ℕ) → from ≤ page → page < to
      → (entry : Entry) × (old page ≡ Some entry) × (takes change entry ≡ true)
      × (new page ≡ Some (changed_entry change entry))
  pub others : (page : ℕ) → (page < from) ⊎ (to ≤ page) → new page ≡ old page

-- those pages weren't mapped, and have this entry; all other pages are as before
pub record FillsRun (entry : Entry) (old new : ℕ → Option Entry) (from to : ℕ) : Type 0 where
  pub holes : (page : ℕ) → from ≤ page → page < to → old page ≡ None
  pub filled : (page : ℕ) → from ≤ page → page < to → new page ≡ Some entry
  pub others : (page : ℕ) → (page < from) ⊎ (to ≤ page) → new page ≡ old page

-- The pages of a space, copied for a child.
use Rattle.std.specs.Prelude.{true, false, None}
use Rattle.sd_tables.specs.declared.entry.Entry.{Entry}

-- the entry of a page that was copied: as one just mapped, with the permissions that the page has
abbrev pub bare_entry : Entry → Entry
bare_entry entry = record { prot = entry.prot; frame = None; writable = false; soft_dirty = true }

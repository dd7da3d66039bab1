use Rattle.std.proofs.Common.{◌≡◌, filter, take}
use Rattle.sd_elf.specs.Notes.{has_notes}
use Rattle.sd_elf.proofs.notes.note_segments.Given as goal

-- those of notes so far are kept
abbrev pub invariant-loop-header : goal.invariant-loop-header
invariant-loop-header l = l.kept.items ≡ filter has_notes (take l.header-index l.headers)

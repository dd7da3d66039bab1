-- The notes of a core file: what it says of its threads and of the process, beside the memory.
use Rattle.std.specs.Prelude.{◌+◌, ◌*◌, ◌/◌, nat_eq, Bool, ℕ, List}
use Rattle.std.specs.List.{slice_range}
use Rattle.sd_elf.specs.Texts.{padded}
use Rattle.sd_elf.specs.declared.program_header.ProgramHeader.{ProgramHeader}

-- PT_NOTE
abbrev pub has_notes : ProgramHeader → Bool
has_notes s = nat_eq s.p_type 4

-- the bytes of a segment of notes, with zeros after them up to a word of 4 bytes
abbrev pub segment_notes : List ℕ → ProgramHeader → List ℕ
segment_notes held s = padded ((s.p_filesz + 3) / 4 * 4) (slice_range held s.p_offset (s.p_offset + s.p_filesz))

-- A core file: its bytes, and the memory that it says.
use Rattle.std.specs.Prelude.{nat_lt, if◌then◌else◌, slice_index, ◌≡◌, ◌+◌, ◌*◌, ◌≤◌, ℕ, List, length, map, filter}
use Rattle.std.specs.Prelude.{slice_range}
use Rattle.std.specs.List.{range_with_len}
use Rattle.sd_elf.specs.declared.core_file.ReadError.{ReadError}
use Rattle.sd_elf.specs.declared.core_file.ReadError.TheVariants as error
use Rattle.sd_elf.specs.declared.fault.CoreFault.{CoreFault}
use Rattle.sd_elf.specs.declared.fault.CoreFault.TheVariants as core
use Rattle.sd_elf.specs.declared.file_header.FileHeader.{FileHeader}
use Rattle.sd_elf.specs.declared.program_header.ProgramHeader.{ProgramHeader}
use Rattle.sd_elf.specs.Headers.{BreaksHeader, IsCoreHeader, program_header_in, table_end}
use Rattle.sd_elf.specs.Segments.{AreSegments, IsFirstSegmentFault, is_memory, no_extent}

-- so many program headers that stand one after the other in bytes
abbrev pub program_headers_in : ℕ → List ℕ → List ProgramHeader
program_headers_in count bytes =
    map (λ k. program_header_in (slice_range bytes (56 * k) (56 * k + 56))) (range_with_len 0 count)

-- the program headers of a file with this file header
abbrev pub headers_of : List ℕ → FileHeader → List ProgramHeader
headers_of bytes h = program_headers_in h.e_phnum (slice_range bytes h.e_phoff (table_end h))

-- a file begins with the file header of a core
pub record BeginsCore (bytes : List ℕ) (h : FileHeader) : Type 0 where
  pub long : 64 ≤ length bytes
  pub header : IsCoreHeader (slice_range bytes 0 64) (length bytes) h

-- the bytes of a file are a core that a space can have, and these are its segments of memory
pub record IsCoreFile (bytes : List ℕ) (segments : List ProgramHeader) : Type 0 where
  pub header : FileHeader
  pub begins : BeginsCore bytes header
  pub memory : segments ≡ filter is_memory (headers_of bytes header)
  pub fits : AreSegments (length bytes) no_extent segments

-- a segment of a core that a space can't have is the first
pub record BreaksCore (bytes : List ℕ) (breaks : List ProgramHeader → Type 0) : Type 0 where
  pub header : FileHeader
  pub begins : BeginsCore bytes header
  pub first : breaks (headers_of bytes header)

-- what a fault says of the bytes of a file
abbrev pub HasCoreFault : List ℕ → CoreFault → Type 0
HasCoreFault bytes (core.Header f) = BreaksHeader (slice_range bytes 0 64) (length bytes) f
HasCoreFault bytes (core.Segment number f) =
    BreaksCore bytes (λ headers. IsFirstSegmentFault (length bytes) headers number f)

-- what an error says of them: nothing where they weren't read, or memory was refused
abbrev pub IsErrorOf : List ℕ → ReadError → Type 0
IsErrorOf bytes (error.Fault f) = HasCoreFault bytes f
IsErrorOf bytes (error.File e) = Unit {0}
IsErrorOf bytes error.OutOfMemory = Unit {0}

-- an error says nothing of the bytes
abbrev pub IsOutside : ReadError → Type 0
IsOutside (error.Fault f) = ⊥
IsOutside (error.File e) = Unit {0}
IsOutside error.OutOfMemory = Unit {0}

-- bytes were read from a place on
pub record IsRead (held : List ℕ) (place : ℕ) (bytes : List ℕ) : Type 0 where
  pub within : place + length bytes ≤ length held
  pub same : bytes ≡ slice_range held place (place + length bytes)

-- the bytes of the program headers of a core
pub record IsHeaderTable (held : List ℕ) (table : List ℕ) : Type 0 where
  pub header : FileHeader
  pub begins : BeginsCore held header
  pub count : length table ≡ 56 * header.e_phnum
  pub same : table ≡ slice_range held header.e_phoff (table_end header)

-- a byte of a segment's memory: what isn't in the file is zero
abbrev pub segment_byte : List ℕ → ProgramHeader → ℕ → ℕ
segment_byte held s k = if nat_lt k s.p_filesz then slice_index held (s.p_offset + k) else 0

-- The segments of a core, and whether a space can have them.
use Rattle.std.specs.Prelude.{◌≡◌, ◌≢◌, ◌⊎◌, ◌+◌, ◌/◌, ◌%◌, ◌^◌, ◌<◌, ◌≤◌, ◌==◌, ◌&&◌, ◌||◌, not, nat_lt, if◌then◌else◌}
use Rattle.std.specs.Prelude.{Bool, IsTrue, ℕ, List, [], ◌∷◌, filter, take, length, slice_index_or}
use Rattle.sd_areas.specs.declared.prot.Prot.{Prot}
use Rattle.sd_areas.specs.Prot.{prot_bits}
use Rattle.sd_elf.specs.declared.fault.SegmentFault.{SegmentFault}
use Rattle.sd_elf.specs.declared.fault.SegmentFault.TheVariants as fault
use Rattle.sd_elf.specs.declared.fault.CoreFault.{CoreFault}
use Rattle.sd_elf.specs.declared.fault.CoreFault.TheVariants as core
use Rattle.sd_elf.specs.declared.program_header.ProgramHeader.{ProgramHeader}
use Rattle.sd_elf.specs.declared.segments.Extent.{Extent}

-- PT_LOAD, and below the addresses of the kernel
abbrev pub is_memory : ProgramHeader → Bool
is_memory s = s.p_type == 1 && nat_lt s.p_vaddr (2 ^ 63)

-- PF_X 1, PF_W 2, PF_R 4, added up
abbrev pub prot_of_flags : ℕ → Prot
prot_of_flags flags = record { read = flags / 4 % 2 == 1; write = flags / 2 % 2 == 1; execute = flags % 2 == 1 }

abbrev pub segment_bits : ProgramHeader → ℕ
segment_bits s = prot_bits (prot_of_flags s.p_flags)

abbrev pub segment_end : ProgramHeader → ℕ
segment_end s = s.p_vaddr + s.p_memsz

-- no segment
abbrev pub no_extent : Extent
no_extent = record { end = 0; bits = 0; pages = 0; areas = 0 }

-- whether a segment begins an area: it is the first, or begins after the one before, or has other permissions
abbrev pub begins_area : Extent → ProgramHeader → Bool
begins_area e s = e.areas == 0 || not (s.p_vaddr == e.end) || not (segment_bits s == e.bits)

-- what segments take of a space with one more
abbrev pub extent_after : Extent → ProgramHeader → Extent
extent_after e s = record {
  end = segment_end s;
  bits = segment_bits s;
  pages = e.pages + s.p_memsz / 4096;
  areas = e.areas + (if begins_area e s then 1 else 0);
}

-- it has pages, and begins at the end of the others or after it
pub record StandsAfter (e : Extent) (s : ProgramHeader) : Type 0 where
  pub start : s.p_vaddr % 4096 ≡ 0
  pub whole : s.p_memsz % 4096 ≡ 0
  pub some : 0 < s.p_memsz
  pub behind : e.end ≤ s.p_vaddr

-- its bytes are in a file of this size, and no more than its memory
pub record HasBytes (size : ℕ) (s : ProgramHeader) : Type 0 where
  pub part : s.p_filesz ≤ s.p_memsz
  pub inside : s.p_offset + s.p_filesz ≤ size

-- a space can have a segment after others, with its bytes in a file of this size
pub record IsSegment (size : ℕ) (e : Extent) (s : ProgramHeader) : Type 0 where
  pub stands : StandsAfter e s
  pub bytes : HasBytes size s
  pub below : segment_end s ≤ 2 ^ 47
  pub pages : e.pages + s.p_memsz / 4096 ≤ 65536
  pub areas : e.areas + (if begins_area e s then 1 else 0) ≤ 1024

-- what a fault says of a segment after others
abbrev pub BreaksSegment : ℕ → Extent → ProgramHeader → SegmentFault → Type 0
BreaksSegment size e s fault.Pages = (s.p_vaddr % 4096 ≢ 0) ⊎ (s.p_memsz % 4096 ≢ 0) ⊎ (s.p_memsz ≡ 0)
BreaksSegment size e s fault.Order = s.p_vaddr < e.end
BreaksSegment size e s fault.Larger = s.p_memsz < s.p_filesz
BreaksSegment size e s fault.PastEnd = size < s.p_offset + s.p_filesz
BreaksSegment size e s fault.Above = 2 ^ 47 < segment_end s
BreaksSegment size e s fault.TooManyPages = 65536 < e.pages + s.p_memsz / 4096
BreaksSegment size e s fault.TooManyAreas = 1024 < e.areas + (if begins_area e s then 1 else 0)

-- a space can have segments one after the other, after others
abbrev pub AreSegments : ℕ → Extent → List ProgramHeader → Type 0
AreSegments size e [] = Unit {0}
AreSegments size e (s ∷ segments) = IsSegment size e s × AreSegments size (extent_after e s) segments

-- what they take with the others
abbrev pub extent_of : Extent → List ProgramHeader → Extent
extent_of e [] = e
extent_of e (s ∷ segments) = extent_of (extent_after e s) segments

-- the first segment of memory that a space can't have, after those before it, and what is wrong with it
pub record IsFirstSegmentFault (size : ℕ) (headers : List ProgramHeader) (number : ℕ) (f : SegmentFault) : Type 0 where
  pub segment : ProgramHeader
  pub within : number < length headers
  pub there : segment ≡ slice_index_or headers number segment
  pub memory : IsTrue (is_memory segment)
  pub before : AreSegments size no_extent (filter is_memory (take number headers))
  pub breaks : BreaksSegment size (extent_of no_extent (filter is_memory (take number headers))) segment f

abbrev pub BreaksAtSegment : ℕ → List ProgramHeader → CoreFault → Type 0
BreaksAtSegment size headers (core.Header f) = ⊥
BreaksAtSegment size headers (core.Segment number f) = IsFirstSegmentFault size headers number f

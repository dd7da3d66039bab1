-- A space with the memory of a core file.
use Rattle.std.specs.Prelude.{◌≡◌, ◌+◌, ◌*◌, ◌/◌, ◌^◌, ◌<◌, ℕ, List, Option, Some, IfSome, All, sum_by, length}
use Rattle.std.specs.Prelude.{slice_index}
use Rattle.std.specs.FinMap as finmap
use Rattle.sd_areas.specs.PlainMemory.{Page, Space}
use Rattle.sd_elf.specs.Cores.{segment_byte}
use Rattle.sd_elf.specs.Segments.{prot_of_flags}
use Rattle.sd_elf.specs.declared.program_header.ProgramHeader.{ProgramHeader}

-- how many pages a segment has
abbrev pub segment_page_count : ProgramHeader → ℕ
segment_page_count s = s.p_memsz / 4096

-- bytes are those of a page of a segment in a file, with zeros for what the file lacks
abbrev pub AreBytesOfSegment : List ℕ → ProgramHeader → ℕ → List ℕ → Type 0
AreBytesOfSegment held s k bytes =
    s.p_offset + s.p_filesz < 2 ^ 64 → (b : ℕ) → b < 4096 → slice_index bytes b ≡ segment_byte held s (4096 * k + b)

-- a page of a segment: with the segment's permissions, and the bytes of its file where these are known
pub record IsPageOfSegment (file : Option (List ℕ)) (s : ProgramHeader) (k : ℕ) (page : Page) : Type 0 where
  pub prot : page.prot ≡ prot_of_flags s.p_flags
  pub whole : length page.bytes ≡ 4096
  pub bytes : IfSome file (λ held. AreBytesOfSegment held s k page.bytes)

-- a space has a page of a segment at its address
pub record HasPageOfSegment (file : Option (List ℕ)) (space : Space) (s : ProgramHeader) (k : ℕ) : Type 0 where
  pub page : Page
  pub there : finmap.get space (s.p_vaddr / 4096 + k) ≡ Some page
  pub is : IsPageOfSegment file s k page

-- it has all pages of a segment
abbrev pub HasSegment : Option (List ℕ) → Space → ProgramHeader → Type 0
HasSegment file space s = (k : ℕ) → k < segment_page_count s → HasPageOfSegment file space s k

-- A space has the memory that the segments of a core file say: each of their pages, and as many as they have, so no
-- other.
pub record HasCore (file : Option (List ℕ)) (segments : List ProgramHeader) (space : Space) : Type 0 where
  pub pages : All (HasSegment file space) segments
  pub only : finmap.len space ≡ sum_by segment_page_count segments

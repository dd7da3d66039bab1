-- The bytes of a core file, in the words of the ELF specification.
use Rattle.std.specs.Prelude.{◌+◌, ◌-◌, ◌*◌, ◌/◌, ◌==◌, if◌then◌else◌, ℕ, List, [], ◌∷◌, ◌++◌, codes, filter, length}
use Rattle.std.specs.List.{flat_map, range_with_len, slice_range}
use Rattle.std.specs.FinMap as finmap
use Rattle.sd_areas.specs.Areas.{areas_of}
use Rattle.sd_areas.specs.PlainMemory.{Page, Space}
use Rattle.sd_areas.specs.declared.area.Area.{Area}
use Rattle.sd_areas.specs.declared.prot.Prot.{Prot}
use Rattle.sd_chain.specs.Store.{bytes_at}
use Rattle.sd_image.specs.Table.{Listed}
use Rattle.sd_image.specs.Words.{number_bytes, zero_bytes}
use Rattle.sd_restore.specs.Fits.{prots_in}
use Rattle.sd_restore.specs.Placed.{PlacedPage, page_of_run}
use Rattle.sd_restore.specs.declared.placed_run.PlacedRun.{PlacedRun}
use Rattle.sd_elf.specs.declared.file_header.FileHeader.{FileHeader}
use Rattle.sd_elf.specs.declared.program_header.ProgramHeader.{ProgramHeader}
use Rattle.sd_elf.specs.Headers.{ident}

-- Elf64_Ehdr: e_ident and what the file is, its places, and its sizes and counts
abbrev pub file_kind_text : FileHeader → List ℕ
file_kind_text h =
    ident ++ zero_bytes 9 ++ number_bytes 2 h.e_type ++ number_bytes 2 h.e_machine ++ number_bytes 4 h.e_version

abbrev pub places_text : FileHeader → List ℕ
places_text h = number_bytes 8 h.e_entry ++ number_bytes 8 h.e_phoff ++ number_bytes 8 h.e_shoff
    ++ number_bytes 4 h.e_flags

abbrev pub counts_text : FileHeader → List ℕ
counts_text h = number_bytes 2 h.e_ehsize ++ number_bytes 2 h.e_phentsize ++ number_bytes 2 h.e_phnum
    ++ number_bytes 2 h.e_shentsize ++ number_bytes 2 h.e_shnum ++ number_bytes 2 h.e_shstrndx

unfoldable pub file_header_text : FileHeader → List ℕ
file_header_text h = file_kind_text h ++ places_text h ++ counts_text h

-- Elf64_Phdr: where a segment stands, and how large it is
abbrev pub place_text : ProgramHeader → List ℕ
place_text s =
    number_bytes 4 s.p_type ++ number_bytes 4 s.p_flags ++ number_bytes 8 s.p_offset ++ number_bytes 8 s.p_vaddr

abbrev pub size_text : ProgramHeader → List ℕ
size_text s =
    number_bytes 8 s.p_paddr ++ number_bytes 8 s.p_filesz ++ number_bytes 8 s.p_memsz ++ number_bytes 8 s.p_align

unfoldable pub program_header_text : ProgramHeader → List ℕ
program_header_text s = place_text s ++ size_text s

-- where the notes of a core with so many areas stand, after its program headers: one of the notes, and one an area
abbrev pub notes_place : ℕ → ℕ
notes_place areas = 64 + 56 * (areas + 1)

-- how many bytes its notes have: those of its threads, and the 40 of a checkpoint
abbrev pub notes_size : List ℕ → ℕ
notes_size threads = length threads + 40

-- where its pages stand: at the first multiple of 4,096 after so many bytes of notes
abbrev pub pages_place : ℕ → ℕ → ℕ
pages_place size areas = (notes_place areas + size + 4095) / 4096 * 4096

-- ET_CORE, EM_X86_64, EV_CURRENT
abbrev pub core_header : ℕ → FileHeader
core_header areas = record {
  e_type = 4;
  e_machine = 62;
  e_version = 1;
  e_entry = 0;
  e_phoff = 64;
  e_shoff = 0;
  e_flags = 0;
  e_ehsize = 64;
  e_phentsize = 56;
  e_phnum = areas + 1;
  e_shentsize = 0;
  e_shnum = 0;
  e_shstrndx = 0;
}

-- PT_NOTE of so many bytes, PF_R
abbrev pub note_header : ℕ → ℕ → ProgramHeader
note_header size areas = record {
  p_type = 4;
  p_flags = 4;
  p_offset = notes_place areas;
  p_vaddr = 0;
  p_paddr = 0;
  p_filesz = size;
  p_memsz = 0;
  p_align = 4;
}

-- PF_R 4, PF_W 2, PF_X 1, added up
abbrev pub prot_flags : Prot → ℕ
prot_flags prot = (if prot.read then 4 else 0) + (if prot.write then 2 else 0) + (if prot.execute then 1 else 0)

-- PT_LOAD of an area whose pages stand at a place
abbrev pub area_header : Area → ℕ → ProgramHeader
area_header area place = record {
  p_type = 1;
  p_flags = prot_flags area.prot;
  p_offset = place;
  p_vaddr = 4096 * area.first;
  p_paddr = 0;
  p_filesz = 4096 * area.count;
  p_memsz = 4096 * area.count;
  p_align = 4096;
}

-- the program headers of areas whose pages stand one after the other, from a place on
abbrev pub area_headers : ℕ → List Area → List ProgramHeader
area_headers place [] = []
area_headers place (area ∷ areas) = area_header area place ∷ area_headers (place + 4096 * area.count) areas

-- Elf64_Nhdr: the lengths of a note's name and of what it says, and its type; name and text fill words of 4 bytes.
-- NT_PRSTATUS of a thread whose state is zeros
unfoldable pub state_note : List ℕ
state_note = number_bytes 4 5 ++ number_bytes 4 336 ++ number_bytes 4 1
    ++ (codes "CORE" ++ 0 ∷ 0 ∷ 0 ∷ 0 ∷ []) ++ zero_bytes 336

-- the numbers of a checkpoint and a space
unfoldable pub own_note : ℕ → ℕ → List ℕ
own_note checkpoint space = number_bytes 4 11 ++ number_bytes 4 16 ++ number_bytes 4 1
    ++ (codes "DEVONTSIRA" ++ 0 ∷ 0 ∷ []) ++ number_bytes 8 checkpoint ++ number_bytes 8 space

-- bytes with zeros after them, up to a length
abbrev pub padded : ℕ → List ℕ → List ℕ
padded n bytes = bytes ++ zero_bytes (n - length bytes)

-- what stands before the pages: the headers, the notes of threads, and that of the checkpoint
unfoldable pub front_text : List ℕ → ℕ → ℕ → List Area → List ℕ
front_text threads checkpoint space areas = padded (pages_place (notes_size threads) (length areas)) (
    file_header_text (core_header (length areas))
    ++ program_header_text (note_header (notes_size threads) (length areas))
    ++ flat_map program_header_text
    (area_headers (pages_place (notes_size threads) (length areas)) areas) ++ threads ++ own_note checkpoint space)

-- the core file of a space of a checkpoint, with these notes of threads: its pages rise after the front
abbrev pub core_of : List ℕ → ℕ → ℕ → Space → List ℕ
core_of threads checkpoint number space = front_text threads checkpoint number (areas_of (prots_in space))
    ++ flat_map (λ (entry : ℕ × Page). entry.1.bytes) (finmap.entries space)

-- The same of pages that lie in the slots of a store.

abbrev pub placed_bytes : List (List ℕ) → PlacedPage → List ℕ
placed_bytes contents p = bytes_at contents p.there

-- those of the pages of one space, among others
abbrev pub space_bytes : List (List ℕ) → ℕ → List PlacedPage → List ℕ
space_bytes contents space pages =
    flat_map (placed_bytes contents) (filter (λ (p : PlacedPage). p.space == space) pages)

abbrev pub placed_core : List ℕ → List (List ℕ) → ℕ → List PlacedPage → Listed → List ℕ
placed_core threads contents checkpoint pages s =
    front_text threads checkpoint s.space s.areas ++ space_bytes contents s.space pages

-- so many pages of a run from one on
abbrev pub run_part_bytes : List (List ℕ) → PlacedRun → ℕ → ℕ → List ℕ
run_part_bytes contents r behind count =
    flat_map (λ k. placed_bytes contents (page_of_run r (behind + k))) (range_with_len 0 count)

-- pages that lie one after the other in bytes that were read
abbrev pub pages_bytes : List ℕ → ℕ → List ℕ
pages_bytes bytes count = flat_map (λ k. slice_range bytes (4096 * k) (4096 * k + 4096)) (range_with_len 0 count)

-- The headers of an ELF file, in the words of the ELF specification.
use Rattle.std.specs.Prelude.{◌≡◌, ◌≢◌, ◌+◌, ◌*◌, ◌<◌, ◌≤◌, ℕ, List, [], ◌∷◌, slice_range}
use Rattle.sd_image.specs.Reading.{number_at}
use Rattle.sd_elf.specs.declared.fault.HeaderFault.{HeaderFault}
use Rattle.sd_elf.specs.declared.fault.HeaderFault.TheVariants as fault
use Rattle.sd_elf.specs.declared.file_header.FileHeader.{FileHeader}
use Rattle.sd_elf.specs.declared.program_header.ProgramHeader.{ProgramHeader}

-- the front of e_ident: 0x7f E L F, ELFCLASS64, ELFDATA2LSB, EV_CURRENT
abbrev pub ident : List ℕ
ident = 127 ∷ 69 ∷ 76 ∷ 70 ∷ 2 ∷ 1 ∷ 1 ∷ []

-- Elf64_Ehdr: the fields of a file header at their places
unfoldable pub file_header_in : List ℕ → FileHeader
file_header_in bytes = record {
  e_type = number_at 2 16 bytes;
  e_machine = number_at 2 18 bytes;
  e_version = number_at 4 20 bytes;
  e_entry = number_at 8 24 bytes;
  e_phoff = number_at 8 32 bytes;
  e_shoff = number_at 8 40 bytes;
  e_flags = number_at 4 48 bytes;
  e_ehsize = number_at 2 52 bytes;
  e_phentsize = number_at 2 54 bytes;
  e_phnum = number_at 2 56 bytes;
  e_shentsize = number_at 2 58 bytes;
  e_shnum = number_at 2 60 bytes;
  e_shstrndx = number_at 2 62 bytes;
}

-- Elf64_Phdr: the fields of a program header at their places
unfoldable pub program_header_in : List ℕ → ProgramHeader
program_header_in bytes = record {
  p_type = number_at 4 0 bytes;
  p_flags = number_at 4 4 bytes;
  p_offset = number_at 8 8 bytes;
  p_vaddr = number_at 8 16 bytes;
  p_paddr = number_at 8 24 bytes;
  p_filesz = number_at 8 32 bytes;
  p_memsz = number_at 8 40 bytes;
  p_align = number_at 8 48 bytes;
}

-- where the program headers end in the file
abbrev pub table_end : FileHeader → ℕ
table_end h = h.e_phoff + 56 * h.e_phnum

-- the 64 bytes are the header of a core of x86-64, little endian, whose program headers are within a file of this size
pub record IsCoreHeader (bytes : List ℕ) (size : ℕ) (h : FileHeader) : Type 0 where
  pub fields : h ≡ file_header_in bytes
  pub ident : slice_range bytes 0 7 ≡ ident
  pub type : h.e_type ≡ 4
  pub machine : h.e_machine ≡ 62
  pub version : h.e_version ≡ 1
  pub entry_size : h.e_phentsize ≡ 56
  pub count : h.e_phnum ≢ 65535
  pub table : table_end h ≤ size

-- what a fault says of the first 64 bytes of a file of this size
abbrev pub BreaksHeader : List ℕ → ℕ → HeaderFault → Type 0
BreaksHeader bytes size fault.Short = size < 64
BreaksHeader bytes size fault.Ident = slice_range bytes 0 7 ≢ ident
BreaksHeader bytes size fault.Type = (file_header_in bytes).e_type ≢ 4
BreaksHeader bytes size fault.Machine = (file_header_in bytes).e_machine ≢ 62
BreaksHeader bytes size fault.Version = (file_header_in bytes).e_version ≢ 1
BreaksHeader bytes size fault.EntrySize = (file_header_in bytes).e_phentsize ≢ 56
BreaksHeader bytes size fault.Count = (file_header_in bytes).e_phnum ≡ 65535
BreaksHeader bytes size fault.Table = size < table_end (file_header_in bytes)

-- Loads and stores.
use Rattle.std.specs.Prelude.{ℕ, ◌+◌, ◌%◌, Bool, ◌||◌, ◌==◌, nat_lt}
use Rattle.sd_areas.specs.declared.prot.Prot.{Prot}
use Rattle.sd_pagetable.specs.declared.access.Access.{Access}
use Rattle.sd_pagetable.specs.declared.access.Access.TheVariants.{Read, Write}
pub use Rattle.sd_frames.specs.Bytes.{stored_at}

-- an access of no bytes, of over 64, or across the end of a page
abbrev pub is_bad_access : ℕ → ℕ → Bool
is_bad_access address bytes = bytes == 0 || nat_lt 64 bytes || nat_lt 4096 (address % 4096 + bytes)

-- whether permissions allow an access
abbrev pub allows : Access → Prot → Bool
allows Read prot = prot.read
allows Write prot = prot.write

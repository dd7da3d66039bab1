use Rattle.std.proofs.Common.{◌≡◌, ◌==◌, take}
use Rattle.std.specs.List.{list_all}
use Rattle.sd_readers.proofs.page_text.are_zeros.Given as goal

-- the bytes so far are zeros, or not all of them
abbrev pub invariant-loop-byte : goal.invariant-loop-byte
invariant-loop-byte l = record { so_far : (l.ones == 0) ≡ list_all (λ byte. byte == 0) (take l.byte-index l.bytes) }

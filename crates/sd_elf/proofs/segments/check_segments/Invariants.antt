use Rattle.std.proofs.Common.{◌≡◌, ◌≤◌, filter, take}
use Rattle.sd_elf.specs.Segments.{AreSegments, extent_of, is_memory, no_extent}
use Rattle.sd_elf.proofs.segments.check_segments.Given as goal

-- a space can have those so far, and this is what they take of it
abbrev pub invariant-loop-number : goal.invariant-loop-number
invariant-loop-number l = record {
  before : AreSegments l.size no_extent (filter is_memory (take l.number l.segments));
  extent : l.extent ≡ extent_of no_extent (filter is_memory (take l.number l.segments));
  pages : l.extent.pages ≤ 65536;
  areas : l.extent.areas ≤ 1024;
}

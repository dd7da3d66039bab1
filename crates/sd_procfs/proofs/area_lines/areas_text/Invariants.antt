use Rattle.std.proofs.Common.{◌≡◌, take}
use Rattle.std.specs.List.{flat_map}
use Rattle.sd_procfs.specs.Listing.{area_line}
use Rattle.sd_procfs.proofs.area_lines.areas_text.Given as goal

-- the lines of the areas so far
abbrev pub invariant-loop-area : goal.invariant-loop-area
invariant-loop-area l = record {
  so_far : l.text.bytes.items ≡ flat_map area_line (take l.area-index l.areas);
}

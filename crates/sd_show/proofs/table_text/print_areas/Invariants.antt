use Rattle.std.proofs.Common.{take}
use Rattle.std.specs.List.{flat_map}
use Rattle.std.specs.Io.KnownBytes.{Appends}
use Rattle.sd_show.specs.Texts.{area_item_line}
use Rattle.sd_show.proofs.table_text.print_areas.Given as goal

-- the areas so far are printed
abbrev pub invariant-loop-area : goal.invariant-loop-area
invariant-loop-area g l = Appends (g.W.Write.contents l.fn.out) (g.W.Write.contents l.out) (flat_map area_item_line (take l.area-index l.areas))

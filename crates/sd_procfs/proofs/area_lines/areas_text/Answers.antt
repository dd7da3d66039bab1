use Rattle.std.proofs.Common.{None}
use Rattle.sd_procfs.proofs.AreaLemmas.{each_ends_within}
use Rattle.sd_procfs.proofs.area_lines.areas_text.Goals as goal

pub push_line-requires : goal.push_line-requires
push_line-requires c = each_ends_within None c.args.areas.now c.loop-area.area-index c.area-item.result c.requires c.loop-area-test.true c.area-item.is

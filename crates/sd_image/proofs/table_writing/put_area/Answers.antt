use Rattle.std.proofs.Common.{◌∙◌}
use Rattle.sd_image.proofs.Written.{four_parts, written_as}
use Rattle.sd_image.proofs.table_writing.put_area.Goals as goal

pub returns : goal.returns
returns c = four_parts _ _ _ _ _ _ _ _ (written_as _ _ 8 _ _ c.in_ok-put_u64.ensures c.number.ensures.value) c.in_ok-put_u64-2.ensures (written_as _ _ 4 _ _ c.in_ok-put_u32.ensures (c.from.ensures ∙ c.bits.ensures.value)) c.in_ok-put_u32-2.ensures

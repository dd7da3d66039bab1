use Rattle.std.proofs.Common.{◌≡◌, ◌++◌, take, map}
use Rattle.std.specs.List.{flat_map}
use Rattle.sd_image.specs.Table.{listing_of, space_text}
use Rattle.sd_image.proofs.table_writing.put_spaces.Given as goal

abbrev pub invariant-loop-space : goal.invariant-loop-space
invariant-loop-space l = l.out.items ≡ l.fn.out.items ++ flat_map space_text (map listing_of (take l.space-index l.spaces))

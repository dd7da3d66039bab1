use Rattle.std.proofs.Common.{◌≡◌, ◌+◌, take, map}
use Rattle.sd_image.specs.Table.{listing_of, data_count}
use Rattle.sd_image.proofs.totals.left_by_data.Given as goal

abbrev pub invariant-loop-space : goal.invariant-loop-space
invariant-loop-space l = l.left + data_count (map listing_of (take l.space-index l.spaces)) ≡ l.limit

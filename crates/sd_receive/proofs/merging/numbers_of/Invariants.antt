use Rattle.std.proofs.Common.{◌≡◌, map, take}
use Rattle.sd_image.specs.declared.table.SpaceTable.{SpaceTable}
use Rattle.sd_receive.proofs.merging.numbers_of.Given as goal

-- those so far
abbrev pub invariant-loop-listed : goal.invariant-loop-listed
invariant-loop-listed l = l.numbers.items ≡ map (λ (s : SpaceTable). s.space) (take l.listed-index l.spaces)

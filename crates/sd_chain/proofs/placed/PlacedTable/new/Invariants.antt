use Rattle.std.proofs.Common.{◌≡◌, ◌++◌, drop, map}
use Rattle.sd_chain.specs.Placed.{all_places_of}
use Rattle.sd_chain.proofs.placed.PlacedTable.new.Given as goal

abbrev pub invariant-loop-space : goal.invariant-loop-space
invariant-loop-space l = map (λ row. row.items) l.places.items ++ all_places_of l.before (drop l.space-index l.fn.table.spaces.items) ≡ all_places_of 0 l.fn.table.spaces.items

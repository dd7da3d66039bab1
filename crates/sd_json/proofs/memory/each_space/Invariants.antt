use Rattle.std.proofs.Common.{◌≡◌, map, take}
use Rattle.serde_json.specs.View.{view}
use Rattle.sd_image.specs.declared.table.SpaceTable.{SpaceTable}
use Rattle.sd_image.specs.Table.{listing_of}
use Rattle.sd_json.specs.Documents.{space_fields}
use Rattle.sd_json.proofs.memory.each_space.Given as goal

-- the spaces so far are shown
abbrev pub invariant-loop-space : goal.invariant-loop-space
invariant-loop-space l = map view l.shown.items ≡ map (λ (s : SpaceTable). space_fields l.runs (listing_of s)) (take l.space-index l.spaces)

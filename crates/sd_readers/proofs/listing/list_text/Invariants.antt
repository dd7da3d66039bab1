use Rattle.std.proofs.Common.{◌≡◌, map, take}
use Rattle.std.specs.List.{flat_map}
use Rattle.sd_readers.specs.Listing.{image_line}
use Rattle.sd_readers.proofs.listing.list_text.Given as goal

-- the lines of the images so far
abbrev pub invariant-loop-image : goal.invariant-loop-image
invariant-loop-image l = record {
  so_far : l.text.bytes.items ≡ flat_map image_line (map (λ i. i.now) (take l.image-index l.image-items));
}

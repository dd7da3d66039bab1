use Rattle.std.proofs.Common.{◌≡◌, map, take}
use Rattle.std.specs.Borrow.{Bor}
use Rattle.serde_json.specs.View.{view}
use Rattle.sd_chain.specs.Catalog.{Opened}
use Rattle.sd_json.specs.Documents.{entry}
use Rattle.sd_json.proofs.images.images_json.Given as goal

-- the images so far are shown
abbrev pub invariant-loop-image : goal.invariant-loop-image
invariant-loop-image l = map view l.shown.items ≡ map (λ (i : Bor Opened). entry i.now) (take l.image-index l.images)

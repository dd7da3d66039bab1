use Rattle.std.proofs.Common.{◌∙◌, sym, ap, map}
use Rattle.std.proofs.lemmas.List.{map-append}
use Rattle.std.specs.Map.Iter.{deref_pair}
use Rattle.sd_chain.specs.Catalog.{images}
use Rattle.sd_chain.proofs.choice.images_of.Goals as goal

pub loop-place-preserved : goal.loop-place-preserved
loop-place-preserved c =
    c.in_ok-push_image.ensures (map deref_pair c.loop-place.yielded) _ c.loop-place.invariant
    ∙ ap images (sym (map-append deref_pair c.loop-place.yielded _))

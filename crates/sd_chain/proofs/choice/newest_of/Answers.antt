use Rattle.std.proofs.Common.{sym, subst, map}
use Rattle.std.proofs.lemmas.List.{map-append}
use Rattle.std.specs.Map.Iter.{deref_pair}
use Rattle.sd_chain.specs.Catalog.{Places, images, IsNewestChoice}
use Rattle.sd_chain.proofs.choice.newest_of.Goals as goal

pub loop-place-preserved : goal.loop-place-preserved
loop-place-preserved c =
    subst (λ (ps : Places). IsNewestChoice (images ps) c.newest_at-newest.result) (sym (map-append deref_pair c.loop-place.yielded _))
    (c.newest_at-newest.ensures (map deref_pair c.loop-place.yielded) _ c.loop-place.invariant)

use Rattle.std.proofs.Common.{sym, subst, map}
use Rattle.std.proofs.lemmas.List.{map-append}
use Rattle.std.specs.Map.Iter.{deref_pair}
use Rattle.sd_chain.specs.Catalog.{Places, images}
use Rattle.sd_chain.specs.Checkpoints.{IsNextChoice}
use Rattle.sd_chain.proofs.checkpoints.next_of.Goals as goal

pub loop-place-preserved : goal.loop-place-preserved
loop-place-preserved c =
    subst (λ (ps : Places). IsNextChoice c.args.bound (images ps) c.next_at-greatest.result) (sym (map-append deref_pair c.loop-place.yielded _))
    (c.next_at-greatest.ensures (map deref_pair c.loop-place.yielded) _ c.loop-place.invariant)

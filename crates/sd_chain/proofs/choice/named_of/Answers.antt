use Rattle.std.proofs.Common.{sym, subst, map}
use Rattle.std.proofs.lemmas.List.{map-append}
use Rattle.std.specs.Map.Iter.{deref_pair}
use Rattle.sd_chain.specs.Catalog.{Places, images, IsNamedChoice}
use Rattle.sd_chain.proofs.choice.named_of.Goals as goal

pub loop-place-preserved : goal.loop-place-preserved
loop-place-preserved c =
    subst (λ (ps : Places). IsNamedChoice c.args.number (images ps) c.named_at-named.result) (sym (map-append deref_pair c.loop-place.yielded _))
    (c.named_at-named.ensures (map deref_pair c.loop-place.yielded) _ c.loop-place.invariant)

use Rattle.std.proofs.Common.{sym, subst, map}
use Rattle.std.proofs.lemmas.List.{map-append}
use Rattle.std.specs.Map.Iter.{deref_pair}
use Rattle.sd_chain.specs.Catalog.{Places, images}
use Rattle.sd_chain.specs.Checkpoints.{IsCheckpointChoice}
use Rattle.sd_chain.proofs.checkpoints.of_checkpoint.Goals as goal

pub loop-place-preserved : goal.loop-place-preserved
loop-place-preserved c =
    subst (λ (ps : Places). IsCheckpointChoice c.args.number (images ps) c.checkpoint_at-chosen.result) (sym (map-append deref_pair c.loop-place.yielded _))
    (c.checkpoint_at-chosen.ensures (map deref_pair c.loop-place.yielded) _ c.loop-place.invariant)

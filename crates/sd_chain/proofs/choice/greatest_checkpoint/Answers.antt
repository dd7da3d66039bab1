use Rattle.std.proofs.Common.{rules, ◌≡◌, ◌∙◌, sym, subst, ap, map, max}
use Rattle.std.proofs.lemmas.List.{map-append}
use Rattle.std.proofs.lemmas.Map.Iter.{iter_end}
use Rattle.std.specs.Map.Iter.{deref_pair}
use Rattle.sd_chain.specs.Catalog.{Places, images, IsGreatest, checkpoint_number}
use Rattle.sd_chain.proofs.ChoiceLemmas.{greatest_none, greatest_more}
use Rattle.sd_chain.proofs.choice.greatest_checkpoint.Goals as goal

pub loop-place-init : goal.loop-place-init
loop-place-init c = greatest_none checkpoint_number

pub loop-place-preserved : goal.loop-place-preserved
loop-place-preserved c =
    subst (λ (ps : Places). IsGreatest checkpoint_number c.max-greatest.result (images ps)) (sym (map-append deref_pair c.loop-place.yielded _))
    (greatest_more checkpoint_number (map deref_pair c.loop-place.yielded) _ _ c.loop-place.greatest c.max-greatest.result c.loop-place.invariant
    (c.max-greatest.ensures ∙ ap (max c.loop-place.greatest) c.checkpoint_at.ensures))

pub returns : goal.returns
returns c =
    let all : map deref_pair c.loop-place.yielded ≡ c.args.places.now.entries = search (rules, iter_end) in
    subst (λ (ps : Places). IsGreatest checkpoint_number c.loop-place.greatest (images ps)) all c.loop-place.invariant

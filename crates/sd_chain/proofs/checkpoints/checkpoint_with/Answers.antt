use Rattle.std.proofs.Common.{◌++◌, ◌∷◌, [], refl, sym, subst, ap, arith}
use Rattle.std.proofs.lemmas.Bool.{false≢true}
use Rattle.sd_image.specs.declared.header.Header.{Header}
use Rattle.sd_chain.specs.Checkpoints.{IsCheckpointChoice}
use Rattle.sd_chain.proofs.CheckpointLemmas.{checkpoint_choice_kept, checkpoint_first, checkpoint_next, checkpoint_kept}
use Rattle.sd_chain.proofs.checkpoints.checkpoint_with.Goals as goal

pub returns-then-not-has_checkpoint : goal.returns-then-not-has_checkpoint
returns-then-not-has_checkpoint c = λ all was. checkpoint_choice_kept c.args.number all c.args.one.now c.args.chosen was (λ has. false≢true (c.if-not-has_checkpoint.ensures.1 has))

pub returns-in_default : goal.returns-in_default
returns-in_default c = λ all was. checkpoint_first c.args.number all c.args.one.now (subst (IsCheckpointChoice c.args.number all) c.in_default.is was) (c.if-not-has_checkpoint.ensures.0 refl)

pub returns-then-header : goal.returns-then-header
returns-then-header c = λ all was. checkpoint_next c.args.number all c.args.one.now c.in-Some.best.now (subst (IsCheckpointChoice c.args.number all) c.in-Some.is was)
    (c.if-not-has_checkpoint.ensures.0 refl)
    (omega (arith, c.if-header.true, ap (λ (h : Header). h.serial) c.header.ensures, ap (λ (h : Header). h.serial) c.header-2.ensures))

pub returns-else-header : goal.returns-else-header
returns-else-header c = λ all was.
    let best = subst (IsCheckpointChoice c.args.number all) c.in-Some.is was in
    subst (IsCheckpointChoice c.args.number (all ++ c.args.one.now ∷ [])) (sym c.in-Some.is)
    (checkpoint_kept c.args.number all c.args.one.now c.in-Some.best.now best (λ _.
    omega (arith, c.if-header.false, ap (λ (h : Header). h.serial) c.header.ensures, ap (λ (h : Header). h.serial) c.header-2.ensures)))

use Rattle.std.proofs.Common.{ap, sym, subst, ◌∙◌, nat_eq}
use Rattle.sd_rounds.specs.declared.stage.Stage.{Stage}
use Rattle.sd_rounds.specs.Making.{IsMaking, Making}
use Rattle.sd_rounds.specs.Pass.{opened}
use Rattle.sd_rounds.proofs.StageLemmas.{behind_made}
use Rattle.sd_rounds.proofs.image_maker.ImageMaker.end_format.Goals as goal

pub invariant_of-self-in-Finished : goal.invariant_of-self-in-Finished
invariant_of-self-in-Finished c =
    subst (λ (s : Stage). IsMaking c.self.inside.order c.self.inside.round c.self.inside.stored s c.self.inside.writes) (sym (c.after_format.ensures c.args.plan))
    (behind_made c.self.inside.order c.self.inside.round c.self.inside.stored c.self.inside.stage c.args.plan c.self.inside.writes c.self.invariant
    (ap (λ (m : Making). m.pass) c.self.view_is ∙ c.requires.fresh ∙ ap (λ (m : Making). opened (nat_eq m.order.parent 0)) (sym c.self.view_is))
    (ap (λ (m : Making). m.writes) c.self.view_is ∙ c.requires.rests))

pub invariant_of-self-in-Finished-2 : goal.invariant_of-self-in-Finished-2
invariant_of-self-in-Finished-2 c =
    subst (λ (s : Stage). IsMaking c.self.inside.order c.self.inside.round c.self.inside.stored s c.self.inside.writes) (sym (c.after_format.ensures c.args.plan))
    (behind_made c.self.inside.order c.self.inside.round c.self.inside.stored c.self.inside.stage c.args.plan c.self.inside.writes c.self.invariant
    (ap (λ (m : Making). m.pass) c.self.view_is ∙ c.requires.fresh ∙ ap (λ (m : Making). opened (nat_eq m.order.parent 0)) (sym c.self.view_is))
    (ap (λ (m : Making). m.writes) c.self.view_is ∙ c.requires.rests))

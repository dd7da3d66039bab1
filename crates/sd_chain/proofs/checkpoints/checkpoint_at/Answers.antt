use Rattle.std.proofs.Common.{sym, subst, List, Option, ◌++◌, ◌∷◌, []}
use Rattle.sd_chain.specs.Catalog.{Opened, images}
use Rattle.sd_chain.specs.Checkpoints.{IsCheckpointChoice}
use Rattle.sd_chain.proofs.ChoiceLemmas.{images_more, images_held}
use Rattle.sd_chain.proofs.checkpoints.checkpoint_at.Goals as goal

pub returns-in-Some : goal.returns-in-Some
returns-in-Some c = λ before serial was.
    subst (λ (p : Option Opened). IsCheckpointChoice c.args.number (images (before ++ (serial, p) ∷ [])) c.checkpoint_with.result) (sym c.in-Some.is)
    (subst (λ (all : List Opened). IsCheckpointChoice c.args.number all c.checkpoint_with.result) (sym (images_more before serial c.in-Some.one)) (c.checkpoint_with.ensures (images before) was))

pub returns-in-None : goal.returns-in-None
returns-in-None c = λ before serial was.
    subst (λ (p : Option Opened). IsCheckpointChoice c.args.number (images (before ++ (serial, p) ∷ [])) c.args.chosen) (sym c.in-None.is)
    (subst (λ (all : List Opened). IsCheckpointChoice c.args.number all c.args.chosen) (sym (images_held before serial)) was)

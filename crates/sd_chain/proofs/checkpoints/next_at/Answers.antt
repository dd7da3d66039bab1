use Rattle.std.proofs.Common.{sym, subst, List, Option, ◌++◌, ◌∷◌, []}
use Rattle.sd_chain.specs.Catalog.{Opened, images}
use Rattle.sd_chain.specs.Checkpoints.{IsNextChoice}
use Rattle.sd_chain.proofs.ChoiceLemmas.{images_more, images_held}
use Rattle.sd_chain.proofs.checkpoints.next_at.Goals as goal

pub returns-in-Some : goal.returns-in-Some
returns-in-Some c = λ before serial was.
    subst (λ (p : Option Opened). IsNextChoice c.args.bound (images (before ++ (serial, p) ∷ [])) c.next_with.result) (sym c.in-Some.is)
    (subst (λ (all : List Opened). IsNextChoice c.args.bound all c.next_with.result) (sym (images_more before serial c.in-Some.one)) (c.next_with.ensures (images before) was))

pub returns-in-None : goal.returns-in-None
returns-in-None c = λ before serial was.
    subst (λ (p : Option Opened). IsNextChoice c.args.bound (images (before ++ (serial, p) ∷ [])) c.args.greatest) (sym c.in-None.is)
    (subst (λ (all : List Opened). IsNextChoice c.args.bound all c.args.greatest) (sym (images_held before serial)) was)

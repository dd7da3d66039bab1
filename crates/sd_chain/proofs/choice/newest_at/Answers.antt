use Rattle.std.proofs.Common.{sym, subst, List, Option, ◌++◌, ◌∷◌, []}
use Rattle.sd_chain.specs.Catalog.{Opened, images, IsNewestChoice}
use Rattle.sd_chain.proofs.ChoiceLemmas.{images_more, images_held}
use Rattle.sd_chain.proofs.choice.newest_at.Goals as goal

pub returns-in-Some : goal.returns-in-Some
returns-in-Some c = λ before serial was.
    subst (λ (p : Option Opened). IsNewestChoice (images (before ++ (serial, p) ∷ [])) c.newest_with.result) (sym c.in-Some.is)
    (subst (λ (all : List Opened). IsNewestChoice all c.newest_with.result) (sym (images_more before serial c.in-Some.one)) (c.newest_with.ensures (images before) was))

pub returns-in-None : goal.returns-in-None
returns-in-None c = λ before serial was.
    subst (λ (p : Option Opened). IsNewestChoice (images (before ++ (serial, p) ∷ [])) c.args.newest) (sym c.in-None.is)
    (subst (λ (all : List Opened). IsNewestChoice all c.args.newest) (sym (images_held before serial)) was)

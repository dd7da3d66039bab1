use Rattle.std.proofs.Common.{◌∙◌, sym, ap, map, Option, Bor, ◌++◌, ◌∷◌, []}
use Rattle.std.proofs.lemmas.List.{map-append}
use Rattle.sd_chain.specs.Catalog.{Opened, images}
use Rattle.sd_chain.proofs.ChoiceLemmas.{images_more, images_held}
use Rattle.sd_chain.proofs.choice.push_image.Goals as goal

pub returns-in_ok-push : goal.returns-in_ok-push
returns-in_ok-push c = λ before serial was.
    ap (map (λ (i : Bor Opened). i.now)) c.in_ok-push.ensures.items
    ∙ map-append (λ (i : Bor Opened). i.now) c.args.list.now.items _
    ∙ ap (λ all. all ++ c.in-Some.image ∷ []) was
    ∙ sym (images_more before serial c.in-Some.image)
    ∙ ap (λ (p : Option Opened). images (before ++ (serial, p) ∷ [])) (sym c.in-Some.is)

pub returns-in_default : goal.returns-in_default
returns-in_default c = λ before serial was.
    was ∙ sym (images_held before serial) ∙ ap (λ (p : Option Opened). images (before ++ (serial, p) ∷ [])) (sym c.in_default.is)

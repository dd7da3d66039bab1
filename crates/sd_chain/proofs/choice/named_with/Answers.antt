use Rattle.std.proofs.Common.{◌∙◌, ◌++◌, ◌∷◌, [], sym, subst, ap, arith}
use Rattle.sd_image.specs.declared.header.Header.{Header}
use Rattle.sd_chain.specs.Catalog.{IsNamedChoice}
use Rattle.sd_chain.proofs.ChoiceLemmas.{named_choice_kept, named_next, named_kept}
use Rattle.sd_chain.proofs.choice.named_with.Goals as goal

pub returns-then-header-number : goal.returns-then-header-number
returns-then-header-number c = λ all was. named_choice_kept c.args.number all c.args.one.now c.args.named was (λ is. c.if-header-number.true (ap (λ (h : Header). h.stands_for) c.header.ensures ∙ is))

pub returns-then-header : goal.returns-then-header
returns-then-header c = λ all was. named_next c.args.number all c.args.one.now c.in-Some.best.now (subst (IsNamedChoice c.args.number all) c.in-Some.is was)
    (sym (ap (λ (h : Header). h.stands_for) c.header.ensures) ∙ c.if-header-number.false)
    (omega (arith, c.if-header.true, ap (λ (h : Header). h.serial) c.header-2.ensures, ap (λ (h : Header). h.serial) c.header-3.ensures))

pub returns-else-header : goal.returns-else-header
returns-else-header c = λ all was.
    let best = subst (IsNamedChoice c.args.number all) c.in-Some.is was in
    subst (IsNamedChoice c.args.number (all ++ c.args.one.now ∷ [])) (sym c.in-Some.is)
    (named_kept c.args.number all c.args.one.now c.in-Some.best.now best (λ _.
    omega (arith, c.if-header.false, ap (λ (h : Header). h.serial) c.header-2.ensures, ap (λ (h : Header). h.serial) c.header-3.ensures)))

use Rattle.std.proofs.Common.{Some, sym, ◌∙◌, ap, subst}
use Rattle.sd_chain.specs.Store.{FindsTip}
use Rattle.sd_core.proofs.ShownLemmas.{none_shown, none_tip, some_shown, some_tip}
use Rattle.sd_core.proofs.opening.shown_by.Goals as goal

pub returns-in_err-tip-clause-shown : goal.returns-in_err-tip-clause-shown
returns-in_err-tip-clause-shown c files catalog shown shows =
    none_shown c.one_store.ensures files (subst (FindsTip files) c.in_err-tip.was (c.tip.ensures.store files catalog)) shown shows ∙ sym c.from_residual.ensures

pub returns-clause-shown : goal.returns-clause-shown
returns-clause-shown c files catalog shown shows =
    some_shown c.one_store.ensures c.tip_once.ensures files c.in_ok-tip.field-0 (subst (FindsTip files) c.in_ok-tip.was (c.tip.ensures.store files catalog)) shown shows
    ∙ ap (λ h. Some h.checkpoint) (sym c.header.ensures)

pub returns-in_err-tip-clause-tip : goal.returns-in_err-tip-clause-tip
returns-in_err-tip-clause-tip c files catalog images store number tip =
    none_tip c.one_store.ensures files (subst (FindsTip files) c.in_err-tip.was (c.tip.ensures.store files catalog)) images store number tip ∙ sym c.from_residual.ensures

pub returns-clause-tip : goal.returns-clause-tip
returns-clause-tip c files catalog images store number tip =
    some_tip c.one_store.ensures c.tip_once.ensures files c.in_ok-tip.field-0 (subst (FindsTip files) c.in_ok-tip.was (c.tip.ensures.store files catalog)) images store number tip
    ∙ ap (λ h. Some h.checkpoint) (sym c.header.ensures)

use Rattle.std.proofs.Common.{None, Some, ◌∙◌, ap, subst}
use Rattle.sd_image.specs.declared.header.Header.{Header}
use Rattle.sd_chain.specs.Store.{FindsTip}
use Rattle.sd_restore.proofs.ShowLemmas.{checkpoint_shown}
use Rattle.sd_restore.proofs.verifying.newest_checkpoint.Goals as goal

pub returns-in_default : goal.returns-in_default
returns-in_default c = λ contents shown catalog shows.
    checkpoint_shown c.one_store.ensures c.tip_once.ensures contents None shown (subst (FindsTip contents) c.in_default.is (c.tip.ensures.store contents catalog)) shows

pub returns : goal.returns
returns c = λ contents shown catalog shows.
    ap (λ (h : Header). Some h.checkpoint) c.header.ensures
    ∙ checkpoint_shown c.one_store.ensures c.tip_once.ensures contents (Some c.in-Some.tip) shown (subst (FindsTip contents) c.in-Some.is (c.tip.ensures.store contents catalog)) shows

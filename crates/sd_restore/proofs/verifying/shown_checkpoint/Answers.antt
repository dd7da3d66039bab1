use Rattle.std.proofs.Common.{rules, Some, ap, subst}
use Rattle.sd_image.specs.declared.header.Header.{Header}
use Rattle.sd_chain.specs.Store.{FindsTip}
use Rattle.sd_restore.specs.Faulty.{FaultNames}
use Rattle.sd_restore.specs.Mapped.{mapped_pages}
use Rattle.sd_restore.specs.Placed.{MeetsBreak, placed_memory, placed_pages}
use Rattle.sd_restore.proofs.ScanLemmas.{names_more}
use Rattle.sd_restore.proofs.ShowLemmas.{no_break, shows_tip}
use Rattle.sd_restore.proofs.verifying.shown_checkpoint.Goals as goal

pub returns-in_err-place_pages-clause-good : goal.returns-in_err-place_pages-clause-good
returns-in_err-place_pages-clause-good c = λ contents shown catalog shows.
    let finds : FindsTip contents (Some c.in-Some.tip) = subst (FindsTip contents) c.in-Some.is (c.tip.ensures.store contents catalog) in
    let named : FaultNames (λ slot reason. ⊥) c.in_err-place_pages.field-0.0 =
    names_more (MeetsBreak c.args.catalog.now c.in-Some.tip.now.header.serial (mapped_pages c.in-Some.tip.now.spaces)) (λ slot reason. ⊥) c.in_err-place_pages.field-0.0
    (λ slot reason met. no_break c.one_store.ensures c.tip_once.ensures contents c.args.catalog.now c.in-Some.tip slot reason shown catalog finds met shows)
    c.in_err-place_pages.ensures.broken in
    search rules

pub returns-clause-shown : goal.returns-clause-shown
returns-clause-shown c = λ contents catalog.
    let tip = c.in-Some.tip.now in
    let finds : FindsTip contents (Some c.in-Some.tip) = subst (FindsTip contents) c.in-Some.is (c.tip.ensures.store contents catalog) in (
      Some (tip.header.checkpoint, placed_memory contents tip.spaces (placed_pages c.in_ok-place_pages.field-0.items)),
      shows_tip contents c.args.catalog.now c.in-Some.tip (placed_pages c.in_ok-place_pages.field-0.items) catalog finds c.in_ok-place_pages.ensures.placed,
      ap (λ (h : Header). Some h.checkpoint) c.header.ensures,
    )

pub returns-in_err-place_pages-clause-wanted : goal.returns-in_err-place_pages-clause-wanted
returns-in_err-place_pages-clause-wanted c = λ _. (c.in-Some.tip.now, c.in-Some.ensures.newest)

use Rattle.std.proofs.Common.{rules, ◌≡◌, Some, sym, subst}
use Rattle.sd_image.specs.Shows.{Shows}
use Rattle.sd_chain.specs.Store.{IsCatalogOf}
use Rattle.sd_restore.proofs.WantLemmas.{tip_opens}
use Rattle.sd_restore.proofs.restoring.restore.Goals as goal

pub returns-clause-saved : goal.returns-clause-saved
returns-clause-saved g c = λ honest moment shows.
    let same : g.D.Disk.contents c.scan.new.disk ≡ g.D.Disk.contents c.args.disk.now = c.in_ok-catalog.ensures.reads.same in
    let scanned = c.restore_from.ensures.reads.honest honest in
    c.restore_from.ensures.saved moment
    (subst (λ contents. IsCatalogOf contents c.in_ok-catalog.catalog) (sym same) (c.in_ok-catalog.ensures.catalog scanned))
    (subst (λ contents. Shows contents (Some moment)) (sym same) shows)

pub returns-clause-wanted : goal.returns-clause-wanted
returns-clause-wanted g c = λ honest out.
    let scanned = c.restore_from.ensures.reads.honest honest in
    let tip = c.restore_from.ensures.wanted out in
    tip_opens (g.D.Disk.contents c.args.disk.now) c.in_ok-catalog.catalog tip.0 (c.in_ok-catalog.ensures.catalog scanned) c.sound.ensures tip.1

pub returns-in_err-catalog-clause-wanted : goal.returns-in_err-catalog-clause-wanted
returns-in_err-catalog-clause-wanted g c = λ honest out.
    let store = c.in_err-catalog.ensures.wanted honest (search rules) in
    (store.0, store.1.here.1.opens)

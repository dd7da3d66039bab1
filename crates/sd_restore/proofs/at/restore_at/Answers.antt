use Rattle.std.proofs.Common.{rules, ◌≡◌, sym, subst}
use Rattle.sd_chain.specs.Store.{IsCatalogOf}
use Rattle.sd_restore.specs.At.{ShowsAt}
use Rattle.sd_restore.proofs.WantLemmas.{member_opens}
use Rattle.sd_restore.proofs.at.restore_at.Goals as goal

pub returns-clause-good : goal.returns-clause-good
returns-clause-good g c = λ honest memory shows.
    let same : g.D.Disk.contents c.scan.new.disk ≡ g.D.Disk.contents c.args.disk.now = c.in_ok-catalog.ensures.reads.same in
    let scanned = c.restore_at_from.ensures.reads.honest honest in
    c.restore_at_from.ensures.good memory
    (subst (λ contents. IsCatalogOf contents c.in_ok-catalog.catalog) (sym same) (c.in_ok-catalog.ensures.catalog scanned))
    (subst (λ contents. ShowsAt contents c.args.number memory) (sym same) shows)

pub returns-clause-saved : goal.returns-clause-saved
returns-clause-saved g c = λ honest memory shows.
    let same : g.D.Disk.contents c.scan.new.disk ≡ g.D.Disk.contents c.args.disk.now = c.in_ok-catalog.ensures.reads.same in
    let scanned = c.restore_at_from.ensures.reads.honest honest in
    c.restore_at_from.ensures.saved memory
    (subst (λ contents. IsCatalogOf contents c.in_ok-catalog.catalog) (sym same) (c.in_ok-catalog.ensures.catalog scanned))
    (subst (λ contents. ShowsAt contents c.args.number memory) (sym same) shows)

pub returns-clause-wanted : goal.returns-clause-wanted
returns-clause-wanted g c = λ honest out.
    let scanned = c.restore_at_from.ensures.reads.honest honest in
    let image = c.restore_at_from.ensures.wanted out in
    member_opens (g.D.Disk.contents c.args.disk.now) c.in_ok-catalog.catalog image.0 (c.in_ok-catalog.ensures.catalog scanned) c.sound.ensures image.1.member

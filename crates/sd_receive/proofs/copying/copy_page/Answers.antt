use Rattle.std.proofs.Common.{[], ◌∷◌, ◌++◌, ◌∙◌, refl, ap, length}
use Rattle.sd_restore.specs.Placed.{PlacedPage}
use Rattle.sd_receive.specs.Merged.{page_of, pages_seen}
use Rattle.sd_receive.proofs.CopyLemmas.{bytes_alike, copies_step}
use Rattle.sd_receive.proofs.copying.copy_page.Goals as goal

pub returns-clause-copied : goal.returns-clause-copied
returns-clause-copied g c = λ honest from pages alike was.
    let d = g.D.Disk in
    let old = c.args.disk.now in
    let new = c.copy_bytes.new.disk in
    let page = c.args.page.now in
    let copy : PlacedPage = record { space = page.space; page = page.page; prot = page.prot; there = c.in_ok-there.there } in
    copies_step from (d.contents old) (d.contents new) (d.may_leave old) (d.may_leave new) c.args.slot pages c.args.copied.now
    (record { pages = c.push.new.pages; stored = c.copy_bytes.new.copied.stored; digester = c.copy_bytes.new.copied.digester }) (page_of page) copy
    (bytes_alike c.args.slot (length (d.contents old)) from (d.contents old) page.there c.requires.elsewhere alike) was (c.in_ok-there.ensures.copied honest was.has) refl refl refl
    (c.in_ok-push.ensures ∙ ap (λ ps. pages_seen ps.items ++ copy ∷ []) c.in_ok-there.ensures.pages)

use Rattle.std.proofs.Common.{[], refl}
use Rattle.sd_receive.specs.Arriving.{KeepsImages}
use Rattle.sd_receive.proofs.ArriveLemmas.{at_end, keeps_join}
use Rattle.sd_receive.proofs.CopyLemmas.{none_copied}
use Rattle.sd_receive.proofs.copying.copy_memory.Goals as goal

pub returns-in_err-copy_pages-clause-keeps : goal.returns-in_err-copy_pages-clause-keeps
returns-in_err-copy_pages-clause-keeps g c = λ honest rest shut.
    let d = g.D.Disk in
    let old = c.args.disk.now in
    let mid = c.format.new.disk in
    let was = c.copy_pages.ensures.honest honest in
    let keeps = c.format.ensures.keeps was rest shut in
    keeps_join d old mid c.copy_pages.new.disk keeps
    (at_end d old mid (KeepsImages (d.contents old)) (g.met.D.Disk.as_read mid) (λ t files since may. g.met.D.Disk.counts_now mid t files since may) keeps)
    (c.copy_pages.ensures.keeps honest (d.contents old) c.format.ensures.others
    (record { has = record { pages = []; fills = c.in_ok-format.ensures.filled was rest shut; counted = refl; fed = c.new-2.ensures.fed }; each = none_copied (d.contents c.args.disk.now) [] c.args.slot c.new.result.items c.new.ensures.items }))

pub returns-clause-keeps : goal.returns-clause-keeps
returns-clause-keeps g c = λ honest rest shut.
    let d = g.D.Disk in
    let old = c.args.disk.now in
    let mid = c.format.new.disk in
    let was = c.copy_pages.ensures.honest honest in
    let keeps = c.format.ensures.keeps was rest shut in
    keeps_join d old mid c.copy_pages.new.disk keeps
    (at_end d old mid (KeepsImages (d.contents old)) (g.met.D.Disk.as_read mid) (λ t files since may. g.met.D.Disk.counts_now mid t files since may) keeps)
    (c.copy_pages.ensures.keeps honest (d.contents old) c.format.ensures.others
    (record { has = record { pages = []; fills = c.in_ok-format.ensures.filled was rest shut; counted = refl; fed = c.new-2.ensures.fed }; each = none_copied (d.contents c.args.disk.now) [] c.args.slot c.new.result.items c.new.ensures.items }))

pub returns-clause-copied : goal.returns-clause-copied
returns-clause-copied g c = λ honest rest shut.
    let d = g.D.Disk in
    let was = c.copy_pages.ensures.honest honest in
    c.in_ok-copy_pages.ensures.copied honest (d.contents c.args.disk.now) c.format.ensures.others
    (record { has = record { pages = []; fills = c.in_ok-format.ensures.filled was rest shut; counted = refl; fed = c.new-2.ensures.fed }; each = none_copied (d.contents c.args.disk.now) [] c.args.slot c.new.result.items c.new.ensures.items })

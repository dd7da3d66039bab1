use Rattle.std.proofs.Common.{[], refl}
use Rattle.sd_receive.specs.Arrived.{HasPages}
use Rattle.sd_receive.specs.Arriving.{KeepsImages}
use Rattle.sd_receive.proofs.ArriveLemmas.{at_end, keeps_join}
use Rattle.sd_receive.proofs.arrived.fill.Goals as goal

pub returns-in_err-take_pages-clause-keeps : goal.returns-in_err-take_pages-clause-keeps
returns-in_err-take_pages-clause-keeps g c = λ honest rest shut.
    let d = g.D.Disk in
    let old = c.args.disk.now in
    let mid = c.format.new.disk in
    let was = c.take_pages.ensures.honest honest in
    let keeps = c.format.ensures.keeps was rest shut in
    let has : HasPages (d.contents mid) (d.may_leave mid) c.args.slot 0 c.new-digester.result =
    record { pages = []; fills = c.in_ok-format.ensures.filled was rest shut; counted = refl; fed = c.new-digester.ensures.fed } in
    keeps_join d old mid c.take_pages.new.disk keeps
    (at_end d old mid (KeepsImages (d.contents old)) (g.met.D.Disk.as_read mid) (λ t files since may. g.met.D.Disk.counts_now mid t files since may) keeps)
    (c.take_pages.ensures.keeps has)

pub returns-clause-keeps : goal.returns-clause-keeps
returns-clause-keeps g c = λ honest rest shut.
    let d = g.D.Disk in
    let old = c.args.disk.now in
    let mid = c.format.new.disk in
    let was = c.take_pages.ensures.honest honest in
    let keeps = c.format.ensures.keeps was rest shut in
    let has : HasPages (d.contents mid) (d.may_leave mid) c.args.slot 0 c.new-digester.result =
    record { pages = []; fills = c.in_ok-format.ensures.filled was rest shut; counted = refl; fed = c.new-digester.ensures.fed } in
    keeps_join d old mid c.take_pages.new.disk keeps
    (at_end d old mid (KeepsImages (d.contents old)) (g.met.D.Disk.as_read mid) (λ t files since may. g.met.D.Disk.counts_now mid t files since may) keeps)
    (c.take_pages.ensures.keeps has)

pub returns-clause-filled : goal.returns-clause-filled
returns-clause-filled g c = λ honest rest shut.
    let was = c.take_pages.ensures.honest honest in
    c.in_ok-take_pages.ensures.taken (record { pages = []; fills = c.in_ok-format.ensures.filled was rest shut; counted = refl; fed = c.new-digester.ensures.fed })

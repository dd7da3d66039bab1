use Rattle.sd_image.specs.Shows.{Shows}
use Rattle.sd_receive.proofs.FillLemmas.{span_of_reads}
use Rattle.sd_arrivals.proofs.ArrivalLemmas.{shows_join, shows_still}
use Rattle.sd_arrivals.proofs.attaching.begin.Goals as goal

pub returns-in_err-reader-clause-keeps : goal.returns-in_err-reader-clause-keeps
returns-in_err-reader-clause-keeps g c = λ honest shown shows within.
    let disk = c.args.disk.now in
    shows_still g.D.Disk shown disk (λ files left. g.met.D.Disk.only_now disk files left) within

pub returns-in_err-check_store-clause-keeps : goal.returns-in_err-check_store-clause-keeps
returns-in_err-check_store-clause-keeps g c = λ honest shown shows within.
    let old = c.args.disk.now in
    span_of_reads g.D.Disk old c.check_store.new.disk (λ files. Shows files shown) c.check_store.ensures.reads (λ files left. g.met.D.Disk.only_now old files left) within

pub returns-clause-keeps : goal.returns-clause-keeps
returns-clause-keeps g c = λ honest shown shows within.
    let old = c.args.disk.now in
    let mid = c.check_store.new.disk in
    shows_join g.D.Disk shown old mid c.make_ready.new.disk (g.met.D.Disk.as_read mid) (λ t files since may. g.met.D.Disk.counts_now mid t files since may)
    (span_of_reads g.D.Disk old mid (λ files. Shows files shown) c.check_store.ensures.reads (λ files left. g.met.D.Disk.only_now old files left) within)
    (c.make_ready.ensures.keeps honest shown)

use Rattle.sd_image.specs.Shows.{Shows}
use Rattle.sd_receive.proofs.FillLemmas.{span_of_reads}
use Rattle.sd_arrivals.proofs.ArrivalLemmas.{shows_join}
use Rattle.sd_arrivals.proofs.leftovers.close_leftovers.Goals as goal

pub returns-in_err-catalog-clause-keeps : goal.returns-in_err-catalog-clause-keeps
returns-in_err-catalog-clause-keeps g c = λ honest shown shows within.
    let old = c.args.disk.now in
    span_of_reads g.D.Disk old c.scan.new.disk (λ files. Shows files shown) c.scan.ensures.reads (λ files left. g.met.D.Disk.only_now old files left) within

pub returns-in_err-slots-clause-keeps : goal.returns-in_err-slots-clause-keeps
returns-in_err-slots-clause-keeps g c = λ honest shown shows within.
    let old = c.args.disk.now in
    span_of_reads g.D.Disk old c.scan.new.disk (λ files. Shows files shown) c.scan.ensures.reads (λ files left. g.met.D.Disk.only_now old files left) within

pub returns-clause-keeps : goal.returns-clause-keeps
returns-clause-keeps g c = λ honest shown shows within.
    let old = c.args.disk.now in
    let mid = c.scan.new.disk in
    shows_join g.D.Disk shown old mid c.close_all.new.disk (g.met.D.Disk.as_read mid) (λ t files since may. g.met.D.Disk.counts_now mid t files since may)
    (span_of_reads g.D.Disk old mid (λ files. Shows files shown) c.scan.ensures.reads (λ files left. g.met.D.Disk.only_now old files left) within)
    (c.close_all.ensures.keeps honest shown)

use Rattle.sd_image.specs.Shows.{Shows}
use Rattle.sd_receive.proofs.FillLemmas.{span_of_reads}
use Rattle.sd_arrivals.proofs.ArrivalLemmas.{shows_join}
use Rattle.sd_arrivals.proofs.attaching.make_ready.Goals as goal

pub returns-in_err-receiver-clause-keeps : goal.returns-in_err-receiver-clause-keeps
returns-in_err-receiver-clause-keeps g c = λ honest shown shows within.
    let old = c.args.disk.now in
    let mid = c.close_leftovers.new.disk in
    shows_join g.D.Disk shown old mid c.begin.new.disk (g.met.D.Disk.as_read mid) (λ t files since may. g.met.D.Disk.counts_now mid t files since may)
    (c.close_leftovers.ensures.keeps (c.begin.ensures.reads.honest honest) shown shows within)
    (λ there is. span_of_reads g.D.Disk mid c.begin.new.disk (λ files. Shows files shown) c.begin.ensures.reads (λ files left. g.met.D.Disk.only_now mid files left) is)

pub returns-clause-keeps : goal.returns-clause-keeps
returns-clause-keeps g c = λ honest shown shows within.
    let old = c.args.disk.now in
    let mid = c.close_leftovers.new.disk in
    shows_join g.D.Disk shown old mid c.begin.new.disk (g.met.D.Disk.as_read mid) (λ t files since may. g.met.D.Disk.counts_now mid t files since may)
    (c.close_leftovers.ensures.keeps (c.begin.ensures.reads.honest honest) shown shows within)
    (λ there is. span_of_reads g.D.Disk mid c.begin.new.disk (λ files. Shows files shown) c.begin.ensures.reads (λ files left. g.met.D.Disk.only_now mid files left) is)

use Rattle.sd_arrivals.proofs.ArrivalLemmas.{shows_join, shows_still}
use Rattle.sd_arrivals.proofs.leftovers.close_all.Goals as goal

pub loop-slot-init : goal.loop-slot-init
loop-slot-init g c =
    let disk = c.args.disk.now in
    record { honest = λ honest. honest; keeps = λ honest shown shows within. shows_still g.D.Disk shown disk (λ files left. g.met.D.Disk.only_now disk files left) within }

pub returns-in_err-close-clause-keeps : goal.returns-in_err-close-clause-keeps
returns-in_err-close-clause-keeps g c = λ honest shown shows within.
    let mid = c.loop-slot.disk in
    shows_join g.D.Disk shown c.args.disk.now mid c.close.new.disk (g.met.D.Disk.as_read mid) (λ t files since may. g.met.D.Disk.counts_now mid t files since may)
    (c.loop-slot.invariant.keeps (c.close.ensures.honest honest) shown shows within) (c.close.ensures.keeps honest shown)

pub returns-in_err-close-clause-honest : goal.returns-in_err-close-clause-honest
returns-in_err-close-clause-honest g c = λ honest. c.loop-slot.invariant.honest (c.close.ensures.honest honest)

pub loop-slot-preserved : goal.loop-slot-preserved
loop-slot-preserved g c =
    let mid = c.loop-slot.disk in
    record {
      honest = λ honest. c.loop-slot.invariant.honest (c.close.ensures.honest honest);
      keeps = λ honest shown shows within.
          shows_join g.D.Disk shown c.args.disk.now mid c.close.new.disk (g.met.D.Disk.as_read mid) (λ t files since may. g.met.D.Disk.counts_now mid t files since may)
          (c.loop-slot.invariant.keeps (c.close.ensures.honest honest) shown shows within) (c.close.ensures.keeps honest shown);
    }

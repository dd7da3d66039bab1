use Rattle.sd_image.specs.Shows.{Shows}
use Rattle.sd_receive.proofs.ArriveLemmas.{at_end}
use Rattle.sd_receive.proofs.KeepLemmas.{shows_join}
use Rattle.sd_receive.proofs.room.merge.Goals as goal

pub returns-clause-keeps : goal.returns-clause-keeps
returns-clause-keeps g c = λ honest ready shown shows.
    let d = g.D.Disk in
    let old = c.args.disk.now in
    let mid = c.merge_newest.new.disk in
    let was = c.close_unneeded.ensures.honest honest in
    let span = c.merge_newest.ensures.keeps was ready shown shows in
    let there = at_end d old mid (λ files. Shows files shown) (g.met.D.Disk.as_read mid) (λ t files since may. g.met.D.Disk.counts_now mid t files since may) span in
    shows_join d shown old mid c.close_unneeded.new.disk span (c.close_unneeded.ensures.keeps honest (c.in_ok-merge_newest.ensures.ready was ready) shown there)

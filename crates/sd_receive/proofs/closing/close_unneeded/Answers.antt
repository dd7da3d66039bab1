use Rattle.sd_image.specs.Shows.{Shows}
use Rattle.sd_receive.proofs.ArriveLemmas.{at_end}
use Rattle.sd_receive.proofs.KeepLemmas.{shows_join, shows_still}
use Rattle.sd_receive.proofs.closing.close_unneeded.Goals as goal

pub returns-in_err-serials-clause-keeps : goal.returns-in_err-serials-clause-keeps
returns-in_err-serials-clause-keeps g c = λ honest ready shown shows.
    let disk = c.args.disk.now in
    shows_still g.D.Disk shown disk (λ files left. g.met.D.Disk.only_now disk files left) (λ files may. g.met.D.Disk.same_slots disk files may) ready.rests shows

pub loop-serial-init : goal.loop-serial-init
loop-serial-init g c =
    let disk = c.args.disk.now in
    record {
      images = c.requires;
      honest = λ honest. honest;
      ready = λ honest ready. ready;
      keeps = λ honest ready shown shows. shows_still g.D.Disk shown disk (λ files left. g.met.D.Disk.only_now disk files left) (λ files may. g.met.D.Disk.same_slots disk files may) ready.rests shows;
    }

pub returns-in_err-close_image-clause-keeps : goal.returns-in_err-close_image-clause-keeps
returns-in_err-close_image-clause-keeps g c = λ honest ready shown shows.
    let d = g.D.Disk in
    let old = c.args.disk.now in
    let mid = c.loop-serial.disk in
    let was = c.loop-serial.invariant in
    let before = c.close_image.ensures.honest honest in
    let span = was.keeps before ready shown shows in
    let there = at_end d old mid (λ files. Shows files shown) (g.met.D.Disk.as_read mid) (λ t files since may. g.met.D.Disk.counts_now mid t files since may) span in
    shows_join d shown old mid c.close_image.new.disk span (c.close_image.ensures.keeps honest (was.ready before ready) shown there)

pub loop-serial-preserved : goal.loop-serial-preserved
loop-serial-preserved g c =
    let d = g.D.Disk in
    let old = c.args.disk.now in
    let mid = c.loop-serial.disk in
    let was = c.loop-serial.invariant in
    let now = c.in_ok-close_image.ensures in
    record {
      images = now.images;
      honest = λ honest. was.honest (now.honest honest);
      ready = λ honest ready. now.ready honest (was.ready (now.honest honest) ready);
      keeps = λ honest ready shown shows.
          let before = now.honest honest in
          let span = was.keeps before ready shown shows in
          let there = at_end d old mid (λ files. Shows files shown) (g.met.D.Disk.as_read mid) (λ t files since may. g.met.D.Disk.counts_now mid t files since may) span in
          shows_join d shown old mid c.close_image.new.disk span (now.keeps honest (was.ready before ready) shown there);
    }

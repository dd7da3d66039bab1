use Rattle.sd_image.specs.Shows.{Shows}
use Rattle.sd_receive.specs.Arrived.{ReadsNext}
use Rattle.sd_receive.proofs.ArriveLemmas.{at_end, keeps_still}
use Rattle.sd_receive.proofs.KeepLemmas.{receives_after, receives_only}
use Rattle.sd_receive.proofs.OpenLemmas.{receives_nothing}
use Rattle.sd_receive.proofs.StreamLemmas.{both_ok, reads_after}
use Rattle.sd_receive.proofs.receiver.Receiver.take_image.Goals as goal

pub returns-in_err-header-clause-keeps : goal.returns-in_err-header-clause-keeps
returns-in_err-header-clause-keeps g c = λ honest ready shown shows.
    let disk = c.args.disk.now in
    receives_nothing g.D.Disk shown c.args.self.now.last disk disk c.from_residual.result c.from_residual.ensures.0 shows
    (keeps_still g.D.Disk disk (λ files left. g.met.D.Disk.only_now disk files left) (λ files may. g.met.D.Disk.same_slots disk files may) ready.rests)

pub returns-in_err-make_room-clause-keeps : goal.returns-in_err-make_room-clause-keeps
returns-in_err-make_room-clause-keeps g c = λ honest ready shown shows.
    receives_only g.D.Disk shown c.args.self.now.last c.args.disk.now c.make_room.new.disk c.from_residual-in_err-make_room.result c.from_residual-in_err-make_room.ensures.0
    (c.make_room.ensures.keeps honest ready shown shows)

pub returns-clause-keeps : goal.returns-clause-keeps
returns-clause-keeps g c = λ honest ready shown shows.
    let d = g.D.Disk in
    let old = c.args.disk.now in
    let mid = c.make_room.new.disk in
    let new = c.put_image.new.disk in
    let was = c.put_image.ensures.honest honest in
    let span = c.make_room.ensures.keeps was ready shown shows in
    let there = at_end d old mid (λ files. Shows files shown) (g.met.D.Disk.as_read mid) (λ t files since may. g.met.D.Disk.counts_now mid t files since may) span in
    let to = c.put_image.ensures.keeps honest (c.in_ok-make_room.ensures.ready was ready) shown there in
    (to.0, receives_after d shown c.put_image.new.self.last to.0 old mid new c.put_image.result span to.1)

pub returns-clause-ready : goal.returns-clause-ready
returns-clause-ready g c = λ honest ready.
    c.put_image.ensures.ready honest (c.in_ok-make_room.ensures.ready (c.put_image.ensures.honest honest) ready)

pub returns-clause-reads : goal.returns-clause-reads
returns-clause-reads g c =
    let from = g.R.Read.remaining in
    both_ok {S = ReadsNext from c.args.self.now.reader c.put_image.new.self.reader} c.put_image.result (λ r is then. reads_after from c.args.self.now.reader c.take_header.new.reader c.put_image.new.self.reader r is c.in_ok-header.ensures.reads then)
    c.put_image.ensures.image c.put_image.ensures.reads

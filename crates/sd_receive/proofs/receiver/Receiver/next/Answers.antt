use Rattle.std.proofs.Common.{[], refl, subst}
use Rattle.sd_receive.proofs.ArriveLemmas.{keeps_still}
use Rattle.sd_receive.proofs.OpenLemmas.{receives_nothing, receives_still}
use Rattle.sd_receive.specs.Arrived.{GoesOn}
use Rattle.sd_receive.proofs.StreamLemmas.{both_ok, none_more, reads_after}
use Rattle.sd_stream.specs.declared.item.Item.{Item}
use Rattle.sd_stream.specs.Progress.{with_image}
use Rattle.sd_stream.specs.Reading.{IsNext}
use Rattle.sd_receive.proofs.receiver.Receiver.next.Goals as goal

pub returns-in_err-len-clause-keeps : goal.returns-in_err-len-clause-keeps
returns-in_err-len-clause-keeps g c = λ honest ready shown shows.
    let disk = c.args.disk.now in
    receives_nothing g.D.Disk shown c.args.self.now.last disk disk c.from_residual.result c.from_residual.ensures.0 shows
    (keeps_still g.D.Disk disk (λ files left. g.met.D.Disk.only_now disk files left) (λ files may. g.met.D.Disk.same_slots disk files may) ready.rests)

pub returns-in-Acknowledged-clause-keeps : goal.returns-in-Acknowledged-clause-keeps
returns-in-Acknowledged-clause-keeps g c = λ honest ready shown shows.
    let disk = c.args.disk.now in
    receives_nothing g.D.Disk shown c.args.self.now.last disk disk _ refl shows
    (keeps_still g.D.Disk disk (λ files left. g.met.D.Disk.only_now disk files left) (λ files may. g.met.D.Disk.same_slots disk files may) ready.rests)

pub returns-in-End-clause-keeps : goal.returns-in-End-clause-keeps
returns-in-End-clause-keeps g c = λ honest ready shown shows.
    let disk = c.args.disk.now in
    receives_still g.D.Disk shown c.args.self.now.last disk (λ files left. g.met.D.Disk.only_now disk files left) (λ files may. g.met.D.Disk.same_slots disk files may) ready.rests shows

pub returns-in-Image-clause-reads : goal.returns-in-Image-clause-reads
returns-in-Image-clause-reads g c =
    let from = g.R.Read.remaining in
    let begun : GoesOn from c.args.self.now.reader [] c.next.new.self = λ before p read.
    let item = subst (λ (found : Item). IsNext from before p found c.next.new.self) c.in-Image.is (c.in_ok-len.ensures.read before p read) in
    none_more from before p (with_image p) c.next.new.self item.0 refl refl in
    both_ok c.take_image.result (λ r is then. reads_after from c.args.self.now.reader c.next.new.self c.take_image.new.self.reader r is begun then) c.take_image.ensures.image
    c.take_image.ensures.reads

pub returns-in-End-clause-reads : goal.returns-in-End-clause-reads
returns-in-End-clause-reads g c = λ before p read.
    subst (λ (found : Item). IsNext g.R.Read.remaining before p found c.next.new.self) c.in-End.is (c.in_ok-len.ensures.read before p read)

use Rattle.std.proofs.Common.{[], inl, refl}
use Rattle.sd_image.specs.Shows.{Shows}
use Rattle.sd_arrivals.proofs.ArrivalLemmas.{within_now}
use Rattle.sd_arrivals.proofs.ReceivedLemmas.{of_stream, on_err, received_after, received_none}
use Rattle.sd_arrivals.proofs.receiving.receive.Goals as goal

pub returns-in_err-receiver-clause-keeps : goal.returns-in_err-receiver-clause-keeps
returns-in_err-receiver-clause-keeps g c = λ honest shown shows within.
    let result = c.from_residual.result in (
      [],
      received_none g.D.Disk result c.args.disk.now c.begin.new.disk shown (g.W.Write.contents c.args.out.now.writer) (c.begin.ensures.keeps honest shown shows within) c.from_residual.ensures.0,
      record { first = inl refl; all = on_err result _ c.from_residual.ensures.0 },
    )

pub returns-clause-keeps : goal.returns-clause-keeps
returns-clause-keeps g c = λ honest shown shows within.
    let d = g.D.Disk in
    let old = c.args.disk.now in
    let mid = c.begin.new.disk in
    let was = c.receive_all.ensures.honest honest in
    let first = c.begin.ensures.keeps was shown shows within in
    let there = within_now d old mid (λ files. Shows files shown) (λ t files since may. g.met.D.Disk.counts_now mid t files since may) first (d.contents mid) (g.met.D.Disk.as_read mid) in
    let all = c.receive_all.ensures.keeps honest (c.in_ok-receiver.ensures.ready was) shown there in
    let receiver = c.in_ok-receiver.receiver in (
      all.0,
      received_after d c.receive_all.result old mid c.receive_all.new.disk shown all.0 (g.W.Write.contents c.args.out.now.writer) (g.W.Write.contents c.receive_all.new.out.writer) first all.1,
      of_stream g.R.Read.remaining (d.contents old) (g.R.Read.remaining c.args.input) all.0 c.receive_all.result receiver.reader c.receive_all.new.receiver.reader receiver.reader.base
          (c.in_ok-receiver.ensures.attached was) c.in_ok-receiver.ensures.begun all.2,
    )

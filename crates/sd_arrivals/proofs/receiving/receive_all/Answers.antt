use Rattle.std.proofs.Common.{[], sym, subst}
use Rattle.std.specs.Io.KnownBytes.{Appends}
use Rattle.std.proofs.lemmas.Result.{err_from_is_err_and}
use Rattle.sd_receive.specs.declared.receive_error.ReceiveError.{ReceiveError}
use Rattle.sd_receive.proofs.SettledLemmas.{settled_leaves}
use Rattle.sd_receive.proofs.ShowLemmas.{keeps_shows}
use Rattle.sd_arrivals.specs.Arrivals.{UnlessOutput}
use Rattle.sd_arrivals.proofs.ReceivedLemmas.{ended_now, received_err, received_now, so_far_first, so_far_more}
use Rattle.sd_arrivals.proofs.receiving.receive_all.Goals as goal

pub loop-count-init : goal.loop-count-init
loop-count-init g c =
    let d = g.D.Disk in
    let old = c.args.disk.now in
    record {
      images = c.requires;
      honest = λ honest. honest;
      ready = λ honest ready. ready;
      so_far = λ honest ready shown shows. so_far_first d g.R.Read.remaining old c.args.receiver.now.reader shown (g.W.Write.contents c.args.out.now.writer)
          (λ files left. keeps_shows (d.contents old) files shown (settled_leaves (d.contents old) files (d.may_leave old) ready.rests (g.met.D.Disk.same_slots old files left) left) shows);
    }

pub returns-in_err-received-clause-keeps : goal.returns-in_err-received-clause-keeps
returns-in_err-received-clause-keeps g c = λ honest ready shown shows.
    let d = g.D.Disk in
    let mid = c.loop-count.disk in
    let was = c.loop-count.invariant in
    let before = c.receive_next.ensures.honest honest in
    let s = was.so_far before ready shown shows in
    let step = c.receive_next.ensures.keeps honest (was.ready before ready) s.now (s.shows (d.contents mid) (g.met.D.Disk.as_read mid)) in
    let p = err_from_is_err_and c.from_residual.result c.from_residual.ensures.1 in
    received_err d g.R.Read.remaining c.from_residual.result c.args.disk.now mid c.receive_next.new.disk c.args.receiver.now.reader c.loop-count.receiver.reader
    c.receive_next.new.receiver.reader shown (g.W.Write.contents c.args.out.now.writer) (g.W.Write.contents c.loop-count.out.writer)
    (g.W.Write.contents c.receive_next.new.out.writer) s c.receive_next.new.receiver.last step.0 step.1.any_moment p.0 p.1
    (subst (λ (e : ReceiveError). UnlessOutput e (Appends (g.W.Write.contents c.loop-count.out.writer) (g.W.Write.contents c.receive_next.new.out.writer) [])) (sym p.2)
    c.in_err-received.ensures.printed)

pub returns-then-is_end-clause-keeps : goal.returns-then-is_end-clause-keeps
returns-then-is_end-clause-keeps g c = λ honest ready shown shows.
    let d = g.D.Disk in
    let mid = c.loop-count.disk in
    let new = c.receive_next.new.disk in
    let was = c.loop-count.invariant in
    let before = c.receive_next.ensures.honest honest in
    let s = was.so_far before ready shown shows in
    let step = c.in_ok-received.ensures.keeps honest (was.ready before ready) s.now (s.shows (d.contents mid) (g.met.D.Disk.as_read mid)) in
    ended_now d g.R.Read.remaining c.loop-count.count c.args.disk.now mid new c.args.receiver.now.reader c.loop-count.receiver.reader c.receive_next.new.receiver.reader shown
    (g.W.Write.contents c.args.out.now.writer) (g.W.Write.contents c.loop-count.out.writer) (g.W.Write.contents c.receive_next.new.out.writer)
    (λ t files since may. g.met.D.Disk.counts_now new t files since may) (λ files left. g.met.D.Disk.only_now new files left) s c.receive_next.new.receiver.last step.0
    c.in_ok-received.received (c.is_end.ensures.yes c.if-is_end.true) step.1.at_end c.in_ok-received.ensures.printed c.in_ok-received.ensures.reads

pub loop-count-preserved : goal.loop-count-preserved
loop-count-preserved g c =
    let d = g.D.Disk in
    let mid = c.loop-count.disk in
    let new = c.receive_next.new.disk in
    let was = c.loop-count.invariant in
    let now = c.in_ok-received.ensures in
    record {
      images = now.images;
      honest = λ honest. was.honest (now.honest honest);
      ready = λ honest ready. now.ready honest (was.ready (now.honest honest) ready);
      so_far = λ honest ready shown shows.
          let before = now.honest honest in
          let s = was.so_far before ready shown shows in
          let step = now.keeps honest (was.ready before ready) s.now (s.shows (d.contents mid) (g.met.D.Disk.as_read mid)) in
          so_far_more d g.R.Read.remaining c.args.disk.now mid new c.args.receiver.now.reader c.loop-count.receiver.reader c.receive_next.new.receiver.reader shown
          (g.W.Write.contents c.args.out.now.writer) (g.W.Write.contents c.loop-count.out.writer) (g.W.Write.contents c.receive_next.new.out.writer)
          (λ t files since may. g.met.D.Disk.counts_now new t files since may) s c.receive_next.new.receiver.last step.0 step.1.any_moment c.in_ok-received.received
          (c.is_end.ensures.no c.if-is_end.false) step.1.at_end now.printed now.reads;
    }

pub returns-clause-keeps : goal.returns-clause-keeps
returns-clause-keeps g c = λ honest ready shown shows.
    let mid = c.loop-count.disk in
    received_now g.D.Disk g.R.Read.remaining _ c.args.disk.now mid c.args.receiver.now.reader c.loop-count.receiver.reader c.loop-count.receiver.reader shown
    (g.W.Write.contents c.args.out.now.writer) (g.W.Write.contents c.loop-count.out.writer) (λ files left. g.met.D.Disk.only_now mid files left)
    (c.loop-count.invariant.so_far honest ready shown shows) tt

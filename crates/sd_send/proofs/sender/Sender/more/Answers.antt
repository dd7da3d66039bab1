use Rattle.std.proofs.Common.{ℕ, List, [], map, Bor, sym, subst}
use Rattle.std.proofs.lemmas.Result.{err_from_is_err_and}
use Rattle.sd_chain.specs.Catalog.{Opened}
use Rattle.sd_send.specs.Last.{IsOfSending}
use Rattle.sd_send.specs.Sending.{HasSent}
use Rattle.sd_send.proofs.GroupLemmas.{sent_flushed}
use Rattle.sd_send.proofs.LastLemmas.{stop_was_there}
use Rattle.sd_send.proofs.sender.Sender.more.Goals as goal

pub returns-clause-sent : goal.returns-clause-sent
returns-clause-sent g c = λ honest before p was.
    let contents : List (List ℕ) = g.D.Disk.contents c.args.disk.now in
    let found : List Opened = map (λ (i : Bor Opened). i.now) c.in_ok-images.images.items in
    let sent = subst (λ (xs : List (Bor Opened)). HasSent g.W.Write.contents before p contents (map (λ (i : Bor Opened). i.now) xs) [] c.send_images.new.writer) c.deref-2.ensures.value
    (c.in_ok-sent.ensures.sent honest before p was) in
    record {
      stop = c.in_ok-stop.stop;
      stops = c.in_ok-stop.ensures.stop;
      found = found;
      reaches = c.in_ok-images.ensures.since;
      sent = sent_flushed g.W.Write.contents before p contents found c.send_images.new.writer c.flush.new.self sent c.in_ok-flush.ensures.bytes c.in_ok-flush.ensures.tally;
    }

pub returns-in_err-sent-clause-gone : goal.returns-in_err-sent-clause-gone
returns-in_err-sent-clause-gone g c =
    let p = err_from_is_err_and c.from_residual-in_err-sent.result c.from_residual-in_err-sent.ensures.1 in
    stop_was_there _ c.args.catalog.now c.args.self.now.last c.in_ok-stop.stop c.from_residual-in_err-sent.result p.0 c.in_ok-stop.ensures.stop p.1
    (subst IsOfSending (sym p.2) c.in_err-sent.ensures.errors)

use Rattle.std.proofs.Common.{◌≡◌, ◌<◌, ℕ, List, [], Option, All, length, map, Bor, refl, sym, ◌∙◌, subst}
use Rattle.sd_disk.specs.Reads.{reads_join}
use Rattle.sd_chain.specs.Catalog.{Opened}
use Rattle.sd_stream.specs.Progress.{started}
use Rattle.sd_send.specs.Sending.{HasSent}
use Rattle.sd_send.specs.Sent.{IsBaseAt}
use Rattle.sd_send.proofs.GroupLemmas.{stream_of}
use Rattle.sd_send.proofs.sending.send_to.Goals as goal

pub send_images-requires-clause-slots : goal.send_images-requires-clause-slots
send_images-requires-clause-slots g c =
    let count : ℕ = length (g.D.Disk.contents c.args.disk.now) in
    subst (λ files. All (λ (i : Bor Opened). i.now.slot < length files) c.deref.result.now) (sym (c.in_ok-base.ensures.reads.same ∙ c.in_ok-catalog.ensures.reads.same))
    (subst (λ found. All (λ (i : Bor Opened). i.now.slot < count) found) (sym c.deref.ensures.value)
    (c.in_ok-images.ensures.slots count c.in_ok-catalog.ensures.slots))

pub returns-in_err-buffer-clause-reads : goal.returns-in_err-buffer-clause-reads
returns-in_err-buffer-clause-reads g c =
    reads_join g.D.Disk c.args.disk.now c.scan.new.disk c.base_of.new.disk c.in_ok-catalog.ensures.reads c.in_ok-base.ensures.reads

pub returns-in_err-writer-clause-reads : goal.returns-in_err-writer-clause-reads
returns-in_err-writer-clause-reads g c =
    reads_join g.D.Disk c.args.disk.now c.scan.new.disk c.base_of.new.disk c.in_ok-catalog.ensures.reads c.in_ok-base.ensures.reads

pub returns-in_err-sent-clause-reads : goal.returns-in_err-sent-clause-reads
returns-in_err-sent-clause-reads g c =
    reads_join g.D.Disk c.args.disk.now c.base_of.new.disk c.send_images.new.disk
    (reads_join g.D.Disk c.args.disk.now c.scan.new.disk c.base_of.new.disk c.in_ok-catalog.ensures.reads c.in_ok-base.ensures.reads) c.in_err-sent.ensures.reads

pub returns-in_err-out-clause-reads : goal.returns-in_err-out-clause-reads
returns-in_err-out-clause-reads g c =
    reads_join g.D.Disk c.args.disk.now c.base_of.new.disk c.send_images.new.disk
    (reads_join g.D.Disk c.args.disk.now c.scan.new.disk c.base_of.new.disk c.in_ok-catalog.ensures.reads c.in_ok-base.ensures.reads) c.in_ok-sent.ensures.reads

pub returns-clause-reads : goal.returns-clause-reads
returns-clause-reads g c =
    reads_join g.D.Disk c.args.disk.now c.base_of.new.disk c.send_images.new.disk
    (reads_join g.D.Disk c.args.disk.now c.scan.new.disk c.base_of.new.disk c.in_ok-catalog.ensures.reads c.in_ok-base.ensures.reads) c.in_ok-sent.ensures.reads

pub returns-clause-stream : goal.returns-clause-stream
returns-clause-stream g c = λ honest.
    let contents : List (List ℕ) = g.D.Disk.contents c.args.disk.now in
    let before : Option (List ℕ) = g.W.Write.contents c.args.out in
    let sent = c.in_ok-sent.ensures in
    let at_send = sent.reads.honest honest in
    let at_base = c.in_ok-base.ensures.reads.honest at_send in
    let first : g.D.Disk.contents c.scan.new.disk ≡ contents = c.in_ok-catalog.ensures.reads.same in
    let same : g.D.Disk.contents c.base_of.new.disk ≡ contents = c.in_ok-base.ensures.reads.same ∙ first in
    stream_of g.W.Write.contents before (started c.in_ok-base.base) contents (g.W.Write.contents c.in_ok-out.out) c.args.since c.in_ok-catalog.catalog c.in_ok-stop.stop
    (map (λ (i : Bor Opened). i.now) c.in_ok-images.images.items) c.in_ok-base.base c.send_images.new.writer refl
    (subst (λ files. IsBaseAt files c.args.since c.in_ok-base.base) first (c.in_ok-base.ensures.base at_send))
    (c.in_ok-catalog.ensures.catalog at_base) c.in_ok-stop.ensures c.in_ok-images.ensures.since
    (subst (λ found. HasSent g.W.Write.contents before (started c.in_ok-base.base) contents (map (λ (i : Bor Opened). i.now) found) [] c.send_images.new.writer) c.deref.ensures.value
    (subst (λ files. HasSent g.W.Write.contents before (started c.in_ok-base.base) files (map (λ (i : Bor Opened). i.now) c.deref.result.now) [] c.send_images.new.writer) same
    (sent.sent honest before (started c.in_ok-base.base) c.in_ok-writer.ensures.begun)))
    (λ q was. c.in_ok-out.ensures.stream before q was)

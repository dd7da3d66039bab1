use Rattle.std.proofs.Common.{ℕ, List, drop, map, Bor, ◌∙◌, subst, ◌+◌}
use Rattle.sd_disk.specs.Reads.{reads_join}
use Rattle.sd_chain.specs.Catalog.{Opened}
use Rattle.sd_stream.specs.Writing.{HasWritten}
use Rattle.sd_send.specs.Sending.{HasSent, with_opened}
use Rattle.sd_send.proofs.GroupLemmas.{next_left, sent_more}
use Rattle.sd_send.proofs.sending.send_images.Goals as goal

pub loop-image-preserved : goal.loop-image-preserved
loop-image-preserved g c =
    let was = c.loop-image.invariant in
    let now = c.in_ok-len.ensures in
    let contents : List (List ℕ) = g.D.Disk.contents c.args.disk.now in
    let all : List Opened = map (λ (i : Bor Opened). i.now) c.args.images.now in
    let k : ℕ = c.loop-image.image-index in
    record {
      room = now.room ∙ was.room;
      reads = reads_join g.D.Disk c.args.disk.now c.loop-image.disk c.send_image.new.disk was.reads now.reads;
      sent = λ honest before p begun.
          sent_more g.W.Write.contents before p contents all (drop (k + 1) all) c.image-item.result.now c.loop-image.writer c.send_image.new.writer
          (subst (λ left. HasSent g.W.Write.contents before p contents all left c.loop-image.writer)
          (next_left (λ (i : Bor Opened). i.now) c.args.images.now k c.image-item.result c.loop-image-test.true c.image-item.is)
          (was.sent (now.reads.honest honest) before p begun))
          (λ q is. subst (λ files. HasWritten g.W.Write.contents before (with_opened files q c.image-item.result.now) c.send_image.new.writer) was.reads.same
          (now.sent honest before q is));
    }

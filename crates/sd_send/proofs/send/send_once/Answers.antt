-- All of the disk that was opened was sent.
use Rattle.std.proofs.Common.{◌∙◌}
use Rattle.sd_send.proofs.FilesLemmas.{sends_files}
use Rattle.sd_send.proofs.send.send_once.Goals as goal

pub returns : goal.returns
returns g c = record {
  sends = sends_files _ _ c.args.since (g.W.Write.contents c.args.out) (λ sent. g.W.Write.contents sent.0) c.disk-disk.result c.send_to-ended.new.disk c.send_to-ended.result
      (c.disk-disk.ensures.files ∙ c.in_ok-open_store.ensures.files) c.send_to-ended.ensures.reads c.send_to-ended.ensures.stream;
}

-- A stream is received into the disk that was made.
use Rattle.std.proofs.Common.{◌∙◌, inr}
use Rattle.sd_arrivals.proofs.programs.receive_program.Goals as goal

pub returns : goal.returns
returns g c = record {
  receives = inr (record {
    old = c.disk-disk.result;
    new = c.receive-ended.new.disk;
    opened = c.disk-disk.ensures.files ∙ c.in_ok-make_store.ensures.files;
    input = _;
    ended = c.receive-ended.result;
    reported = g.W.Write.contents c.receive-ended.new.out.writer;
    keeps = c.receive-ended.ensures.keeps;
    ends = c.end.ensures.ends;
  });
}

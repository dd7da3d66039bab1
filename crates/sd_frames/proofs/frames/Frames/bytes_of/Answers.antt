use Rattle.sd_frames.specs.Bytes.{zeros}
use Rattle.sd_frames.proofs.frames.Frames.bytes_of.Goals as goal

pub returns-in-None-clause-value : goal.returns-in-None-clause-value
unfolding zeros
returns-in-None-clause-value c = rw c.in-None.is

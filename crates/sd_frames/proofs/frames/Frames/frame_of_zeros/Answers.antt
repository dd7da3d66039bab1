use Rattle.sd_frames.specs.Bytes.{zeros}
use Rattle.sd_frames.proofs.frames.Frames.frame_of_zeros.Goals as goal

pub returns-in_default-clause-zeros : goal.returns-in_default-clause-zeros
unfolding zeros
returns-in_default-clause-zeros c = c.copy_of.ensures

pub returns-clause-zeros : goal.returns-clause-zeros
unfolding zeros
returns-clause-zeros c = c.refill.ensures

use Rattle.std.proofs.Common.{subst, Some}
use Rattle.std.proofs.lemmas.Result.{IfOk-weaker}
use Rattle.sd_frames.specs.Frames.{Cell, SetsCell}
use Rattle.sd_frames.proofs.frames.Frames.fresh.Goals as goal

pub returns-clause-ok : goal.returns-clause-ok
returns-clause-ok c =
    rw (← c.frame_of_zeros.ensures.same) (IfOk-weaker c.place.result _ _ (λ number h. subst (λ (cell : Cell). SetsCell c.frame_of_zeros.new.self c.place.new.self number (Some cell)) c.in_ok-frame.ensures.zeros h) c.place.ensures.ok)

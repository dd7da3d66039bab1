use Rattle.std.proofs.Common.{inr}
use Rattle.sd_shared.proofs.driving.go_on.Goals as goal

pub loop-preserved : goal.loop-preserved
loop-preserved g c = (
  (λ reply told. c.loop.invariant.0 reply (c.go_on.ensures.same reply told)),
  inr (c.loop.invariant.0 _ c.go_on.ensures.told),
)

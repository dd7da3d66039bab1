use Rattle.std.proofs.Common.{None, arith}
use Rattle.std.proofs.lemmas.Option.{slice_get_within}
use Rattle.sd_rounds.proofs.WriteLemmas.{all_out}
use Rattle.sd_rounds.proofs.lanes.free_lane.Goals as goal

pub returns-clause-free : goal.returns-clause-free
returns-clause-free c = all_out c.args.writes.now (λ lane is. c.loop-lane.invariant lane
    (let over = c.loop-lane-test.false in omega (arith, over, c.told-writes, slice_get_within c.args.writes.now lane None is)) is)

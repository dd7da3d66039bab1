-- The point that a run comes to by the stores of a put.
use Rattle.sd_run.proofs.BulkLemmas.{puts_reach}
use Rattle.sd_run.proofs.bulk.put_bytes.Goals as goal

pub returns-clause-promise : goal.returns-clause-promise
returns-clause-promise g c = λ honest first stands.
    puts_reach g.D.Disk c.points_follow.ensures c.args.world.now c.put_pieces.new.world c.args.place.space c.args.place.address c.args.bytes.now
    c.put_pieces.result c.put_pieces.ensures.answered honest first stands

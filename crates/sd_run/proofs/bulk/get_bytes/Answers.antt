-- The point that a run comes to by the loads of a get.
use Rattle.sd_run.proofs.BulkLemmas.{gets_reach}
use Rattle.sd_run.proofs.bulk.get_bytes.Goals as goal

pub returns-clause-promise : goal.returns-clause-promise
returns-clause-promise g c = λ honest first stands.
    gets_reach g.D.Disk c.points_follow.ensures c.args.world.now c.get_pieces.new.world c.args.place.space c.args.place.address c.args.length
    c.args.bytes.now.items c.get_pieces.new.bytes.items c.get_pieces.result c.get_pieces.ensures.answered honest first stands

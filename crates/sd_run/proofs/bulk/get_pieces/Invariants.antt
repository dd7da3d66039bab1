-- The loads so far were answered bytes, which stand after those that were there.
use Rattle.std.proofs.Common.{◌≡◌, ◌+◌, ◌++◌, List}
use Rattle.sd_world.specs.Goes.{GoesOn}
use Rattle.sd_run.specs.Bulk.{Loaded, all_bytes, asked_by, answers_of_bytes, loads_of, past_loads}
use Rattle.sd_run.specs.Lines.{AnswersLines}
use Rattle.sd_run.proofs.bulk.get_pieces.Given as goal

abbrev pub invariant-loop-left : goal.invariant-loop-left
invariant-loop-left g l = record {
  loads : List Loaded;
  asked : asked_by loads + l.left ≡ l.fn.length;
  bytes : l.bytes.items ≡ l.fn.bytes.items ++ all_bytes loads;
  address : l.address ≡ past_loads l.fn.place.address loads;
  answered : AnswersLines g.D.Disk l.fn.world (loads_of l.fn.place.space l.fn.place.address loads) (answers_of_bytes loads) l.world;
  goes_on : GoesOn g.D.Disk l.fn.world l.world;
}

abbrev pub decreases-loop-left : goal.decreases-loop-left
decreases-loop-left g l = l.left

-- The pieces so far were stored, and the rest is after them.
use Rattle.std.proofs.Common.{◌≡◌, ◌++◌, List, ℕ, length}
use Rattle.std.specs.List.{concat}
use Rattle.sd_world.specs.Goes.{GoesOn}
use Rattle.sd_run.specs.Bulk.{address_after_all, dones, stores_of}
use Rattle.sd_run.specs.Lines.{AnswersLines}
use Rattle.sd_run.proofs.bulk.put_pieces.Given as goal

abbrev pub invariant-loop-piece : goal.invariant-loop-piece
invariant-loop-piece g l = record {
  pieces : List (List ℕ);
  parts : l.fn.bytes ≡ concat pieces ++ l.rest;
  address : l.address ≡ address_after_all l.fn.place.address pieces;
  answered : AnswersLines g.D.Disk l.fn.world (stores_of l.fn.place.space l.fn.place.address pieces) (dones pieces) l.world;
  goes_on : GoesOn g.D.Disk l.fn.world l.world;
}

abbrev pub decreases-loop-piece : goal.decreases-loop-piece
decreases-loop-piece g l = length l.rest

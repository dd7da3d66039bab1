use Rattle.std.proofs.Common.{◌≤◌, vec_capacity}
use Rattle.sd_journal.proofs.MovedLemmas.{AreMoved}
use Rattle.sd_journal.proofs.journal.move_behind.Given as goal

abbrev pub invariant-loop-entries : goal.invariant-loop-entries
invariant-loop-entries l = AreMoved l.fn.entries.items l.count l.entries.items l.kept.items × (vec_capacity l.fn.kept ≤ vec_capacity l.kept)

abbrev pub decreases-loop-entries : goal.decreases-loop-entries
decreases-loop-entries l = goal.left-loop-entries l

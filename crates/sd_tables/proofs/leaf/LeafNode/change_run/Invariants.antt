use Rattle.sd_tables.specs.Radix.{leaf_at}
use Rattle.sd_tables.specs.Runs.{ChangesRun}
use Rattle.sd_tables.proofs.leaf.LeafNode.change_run.Given as goal

-- the pages so far are changed
abbrev pub invariant-loop-page : goal.invariant-loop-page
invariant-loop-page l = ChangesRun l.change (leaf_at l.fn.self.used.words l.fn.self.entries) (leaf_at l.self.used.words l.self.entries) l.from l.page

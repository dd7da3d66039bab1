use Rattle.sd_tables.specs.Radix.{leaf_at}
use Rattle.sd_tables.specs.Runs.{FillsRun}
use Rattle.sd_tables.proofs.leaf.LeafNode.fill_run.Given as goal

-- the pages so far are filled
abbrev pub invariant-loop-page : goal.invariant-loop-page
invariant-loop-page l = FillsRun l.entry (leaf_at l.fn.self.used.words l.fn.self.entries) (leaf_at l.self.used.words l.self.entries) l.from l.page

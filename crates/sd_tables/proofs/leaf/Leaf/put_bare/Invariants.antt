use Rattle.std.proofs.Common.{◌-◌, ◌≤◌}
use Rattle.sd_tables.specs.Radix.{leaf_at}
use Rattle.sd_tables.proofs.CopyLemmas.{CopiedTo}
use Rattle.sd_tables.proofs.leaf.Leaf.put_bare.Given as goal

-- the pages before the bound are copied
abbrev pub invariant-loop-place : goal.invariant-loop-place
invariant-loop-place l = record {
  within : l.from ≤ 512;
  so : CopiedTo (leaf_at l.other.used.words l.other.entries) (leaf_at l.self.used.words l.self.entries) l.from;
}

abbrev pub decreases-loop-place : goal.decreases-loop-place
decreases-loop-place l = 512 - l.from

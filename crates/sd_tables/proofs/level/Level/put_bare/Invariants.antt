use Rattle.std.proofs.Common.{◌-◌, ◌≤◌}
use Rattle.sd_tables.specs.Radix.{IsLevel}
use Rattle.sd_tables.proofs.CopyLemmas.{AreCopied}
use Rattle.sd_tables.proofs.level.Level.put_bare.Given as goal

-- the tables of the places before the bound are copied
abbrev pub invariant-loop-place : goal.invariant-loop-place
invariant-loop-place g l = record {
  within : l.from ≤ 512;
  kept : IsLevel (λ table. g.T.Node.at table.value) (λ table. g.T.Node.IsKept table.value) g.T.Node.span l.self.used.words l.self.tables;
  so : AreCopied (λ table. g.T.Node.at table.value) l.other.tables l.self.tables l.from;
}

abbrev pub decreases-loop-place : goal.decreases-loop-place
decreases-loop-place g l = 512 - l.from

use Rattle.std.proofs.Common.{◌≡◌}
use Rattle.sd_import.specs.Changes.{ChangesOnly, MayGoOn}
use Rattle.sd_import.proofs.importing.Import.take_area.Given as goal

-- the space alone was changed so far
abbrev pub invariant-loop-segment : goal.invariant-loop-segment
invariant-loop-segment g l = record {
  changes : ChangesOnly g.D.Disk l.fn.self.space l.fn.world l.world;
  goes_on : MayGoOn g.D.Disk l.fn.world l.world;
  space : l.self.space ≡ l.fn.self.space;
}

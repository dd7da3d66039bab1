use Rattle.sd_import.specs.Changes.{ChangesOnly, MayGoOn}
use Rattle.sd_import.proofs.importing.Import.store_pieces.Given as goal

-- the space alone was changed so far
abbrev pub invariant-loop-piece : goal.invariant-loop-piece
invariant-loop-piece g l = record {
  changes : ChangesOnly g.D.Disk l.self.space l.fn.world l.world;
  goes_on : MayGoOn g.D.Disk l.fn.world l.world;
}

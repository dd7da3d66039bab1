use Rattle.std.specs.Iterator.Adapters.{zip_first, zip_second}
use Rattle.sd_audit.proofs.Seen.{pages_in}
use Rattle.sd_audit.proofs.SameLemmas.{AreAsRests}
use Rattle.sd_audit.proofs.same.is_same_memory.Given as goal

abbrev pub invariant-loop-space : goal.invariant-loop-space
invariant-loop-space l = AreAsRests pages_in l.one.spaces.entries l.other.spaces.entries (zip_first l.space-iterator) (zip_second l.space-iterator)

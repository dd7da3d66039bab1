use Rattle.sd_audit.proofs.Seen.{pages_in}
use Rattle.sd_fold.proofs.CopyLemmas.{IsCopied}
use Rattle.sd_audit.proofs.copying.copy_of.Given as goal

abbrev pub invariant-loop-space : goal.invariant-loop-space
invariant-loop-space l = IsCopied pages_in l.snapshot.spaces.entries l.space-iterator l.spaces.entries

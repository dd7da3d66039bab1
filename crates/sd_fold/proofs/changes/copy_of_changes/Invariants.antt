use Rattle.sd_fold.proofs.CopyLemmas.{IsCopied}
use Rattle.sd_fold.proofs.OverLemmas.{change_of}
use Rattle.sd_fold.proofs.changes.copy_of_changes.Given as goal

abbrev pub invariant-loop-page : goal.invariant-loop-page
invariant-loop-page l = IsCopied change_of l.changes.entries l.page-iterator l.copy.entries

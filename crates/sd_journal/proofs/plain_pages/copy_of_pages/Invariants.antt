use Rattle.sd_journal.proofs.PlainLemmas.{IsCopied}
use Rattle.sd_journal.proofs.plain_pages.copy_of_pages.Given as goal

abbrev pub invariant-loop-page : goal.invariant-loop-page
invariant-loop-page l = IsCopied l.pages.entries l.page-iterator l.copy.entries

use Rattle.std.specs.Prelude.{None}
use Rattle.sd_fold.proofs.OverLemmas.{Filling}
use Rattle.sd_fold.proofs.changes.hide_all.Given as goal

abbrev pub invariant-loop-page : goal.invariant-loop-page
invariant-loop-page l = Filling (λ _. None) l.fn.pages l.page-iterator l.fn.changes.entries l.changes.entries

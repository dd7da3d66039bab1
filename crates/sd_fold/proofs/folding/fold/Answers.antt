use Rattle.std.proofs.Common.{sym, ◌∙◌}
use Rattle.sd_fold.proofs.EffectiveLemmas.{unchanged}
use Rattle.sd_fold.proofs.folding.fold.Goals as goal

pub returns-then-not-any_effective-clause-ok : goal.returns-then-not-any_effective-clause-ok
returns-then-not-any_effective-clause-ok c = λ start is. sym is ∙ sym (unchanged start c.args.entries.now (sym c.if-not-any_effective.ensures))

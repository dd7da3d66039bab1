-- What is read before and after leaves the contents as they are.
use Rattle.std.proofs.Common.{subst}
use Rattle.sd_diff.specs.Difference.{HasBoth}
use Rattle.sd_queries.proofs.difference.diff_steady.Goals as goal

pub returns-clause-both : goal.returns-clause-both
returns-clause-both g c = λ honest.
    subst (λ contents. HasBoth contents c.args.compared.old c.args.compared.new) c.fronts.ensures.reads.same
    (c.in_ok-difference.ensures.shown (c.fronts-2.ensures.reads.honest honest))

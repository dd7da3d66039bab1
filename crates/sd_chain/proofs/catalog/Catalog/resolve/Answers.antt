use Rattle.std.proofs.Common.{sym, subst}
use Rattle.sd_chain.proofs.Lies.{IsResolved}
use Rattle.sd_chain.proofs.Traces.{resolved_by}
use Rattle.sd_chain.proofs.catalog.Catalog.resolve.Goals as goal

pub returns-clause-exact : goal.returns-clause-exact
returns-clause-exact c = λ good.
    subst (IsResolved c.args.self.now c.args.serial (c.args.space, c.args.page)) (sym c.found.ensures)
    (resolved_by c.args.self.now c.args.serial (c.args.space, c.args.page) c.trace.result (c.trace.ensures.found good))

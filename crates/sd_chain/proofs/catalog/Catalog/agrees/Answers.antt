use Rattle.std.proofs.Common.{subst}
use Rattle.sd_chain.specs.Catalog.{AreInOrder}
use Rattle.sd_chain.proofs.Agreement.{agrees}
use Rattle.sd_chain.proofs.catalog.Catalog.agrees.Goals as goal

pub returns : goal.returns
returns c = λ all tells. agrees c.args.self.now all (subst AreInOrder c.self.view_is c.self.invariant) tells

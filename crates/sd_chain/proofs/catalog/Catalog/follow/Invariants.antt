use Rattle.std.specs.Prelude.{Contains}
use Rattle.sd_chain.specs.Catalog.{images}
use Rattle.sd_chain.specs.Ways.{AreImages}
use Rattle.sd_chain.proofs.Traces.{IsWalked}
use Rattle.sd_chain.proofs.catalog.Catalog.follow.Given as goal

abbrev pub invariant-loop-way : goal.invariant-loop-way
invariant-loop-way l = AreImages l.fn.self → Contains (images l.fn.self) l.fn.image → IsWalked l.fn.self (l.fn.space, l.fn.page) l.fn.image l.image l.unlisted

abbrev pub decreases-loop-way : goal.decreases-loop-way
decreases-loop-way l = l.image.header.stands_for

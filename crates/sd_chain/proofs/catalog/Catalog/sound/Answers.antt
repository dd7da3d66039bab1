use Rattle.std.proofs.Common.{subst}
use Rattle.sd_chain.specs.Catalog.{AreInOrder}
use Rattle.sd_chain.proofs.Members.{is_sound}
use Rattle.sd_chain.proofs.catalog.Catalog.sound.Goals as goal

pub returns : goal.returns
returns c = is_sound c.args.self.now (subst AreInOrder c.self.view_is c.self.invariant)

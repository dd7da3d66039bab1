use Rattle.std.proofs.Common.{subst}
use Rattle.sd_chain.specs.Catalog.{AreInOrder}
use Rattle.sd_chain.proofs.Stores.{has_the_images}
use Rattle.sd_chain.proofs.catalog.Catalog.has_the_images.Goals as goal

pub returns : goal.returns
returns c = λ contents all catalog slots.
    has_the_images contents all c.args.self.now
    (record { one = c.one_image.ensures; order = subst AreInOrder c.self.view_is c.self.invariant; catalog = catalog; slots = slots })

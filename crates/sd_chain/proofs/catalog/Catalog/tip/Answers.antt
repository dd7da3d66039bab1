use Rattle.std.proofs.Common.{subst}
use Rattle.sd_chain.specs.Catalog.{AreInOrder, Places, images, IsNewestChoice}
use Rattle.sd_chain.proofs.Members.{own_place}
use Rattle.sd_chain.proofs.Stores.{finds_tip}
use Rattle.sd_chain.proofs.catalog.Catalog.tip.Goals as goal

pub returns-clause-store : goal.returns-clause-store
returns-clause-store c = λ contents catalog.
    finds_tip c.one_image.ensures contents c.args.self.now c.newest_of.result (subst AreInOrder c.self.view_is c.self.invariant) catalog
    (subst (λ (es : Places). IsNewestChoice (images es) c.newest_of.result) c.self.view_is c.newest_of.ensures)

pub returns-clause-own : goal.returns-clause-own
returns-clause-own c =
    own_place c.args.self.now c.newest_of.result (subst AreInOrder c.self.view_is c.self.invariant)
    (subst (λ (es : Places). IsNewestChoice (images es) c.newest_of.result) c.self.view_is c.newest_of.ensures)

use Rattle.std.proofs.Common.{subst}
use Rattle.sd_chain.specs.Catalog.{AreInOrder, Places, images, IsNamedChoice}
use Rattle.sd_chain.proofs.Stores.{finds_named}
use Rattle.sd_chain.proofs.catalog.Catalog.find.Goals as goal

pub returns-clause-named : goal.returns-clause-named
returns-clause-named c = λ contents all catalog slots.
    finds_named contents all c.args.self.now c.args.stands_for c.named_of.result
    (record { one = c.one_image.ensures; order = subst AreInOrder c.self.view_is c.self.invariant; catalog = catalog; slots = slots })
    (subst (λ (es : Places). IsNamedChoice c.args.stands_for (images es) c.named_of.result) c.self.view_is c.named_of.ensures)

use Rattle.std.proofs.Common.{subst}
use Rattle.sd_chain.specs.Catalog.{AreInOrder}
use Rattle.sd_chain.specs.Ways.{found_in}
use Rattle.sd_chain.proofs.Stores.{held_by, inside_by}
use Rattle.sd_chain.proofs.Traces.{resolved_by}
use Rattle.sd_chain.proofs.catalog.Catalog.traced_is_held.Goals as goal

pub returns-clause-held : goal.returns-clause-held
returns-clause-held c = λ contents all serial page answer catalog slots traced.
    held_by c.page_in_file.ensures contents all c.args.self.now serial page (found_in answer)
    (record { one = c.one_image.ensures; order = subst AreInOrder c.self.view_is c.self.invariant; catalog = catalog; slots = slots })
    (resolved_by c.args.self.now serial page answer traced.found)

pub returns-clause-inside : goal.returns-clause-inside
returns-clause-inside c = λ contents serial page answer catalog traced.
    inside_by c.page_in_file.ensures contents c.args.self.now serial page (found_in answer) (subst AreInOrder c.self.view_is c.self.invariant) catalog
    (resolved_by c.args.self.now serial page answer traced.found)

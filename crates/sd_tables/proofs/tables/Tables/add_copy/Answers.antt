use Rattle.std.proofs.Common.{sym, ap, ◌∙◌}
use Rattle.std.specs.FinMap as finmap
use Rattle.sd_tables.specs.Tables.{inside, value_at}
use Rattle.sd_tables.proofs.TableLemmas.{tree_put, inside_put}
use Rattle.sd_tables.proofs.tables.Tables.add_copy.Goals as goal

pub returns-clause-pages : goal.returns-clause-pages
returns-clause-pages c =
    let put = tree_put c.self.inside.spaces.entries c.insert.new.self.entries c.args.child c.in_ok-copy.copy c.in_ok-insert.ensures.updates.0 ∙ ap (λ m. finmap.insert m c.args.child c.in_ok-copy.copy) c.self.view_is in
    λ page. ap (λ m. value_at m c.args.child page) put ∙ ap (λ t. finmap.get t page) (inside_put c.args.self.now c.args.child c.in_ok-copy.copy) ∙ c.in_ok-copy.ensures page

pub returns-clause-others : goal.returns-clause-others
returns-clause-others c =
    let put = tree_put c.self.inside.spaces.entries c.insert.new.self.entries c.args.child c.in_ok-copy.copy c.in_ok-insert.ensures.updates.0 ∙ ap (λ m. finmap.insert m c.args.child c.in_ok-copy.copy) c.self.view_is in
    put ∙ ap (finmap.insert c.args.self.now c.args.child) (sym (ap (λ m. inside m c.args.child) put ∙ inside_put c.args.self.now c.args.child c.in_ok-copy.copy))

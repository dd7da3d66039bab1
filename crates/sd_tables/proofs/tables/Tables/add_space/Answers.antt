use Rattle.std.proofs.Common.{ap, ◌∙◌}
use Rattle.std.specs.FinMap as finmap
use Rattle.sd_tables.proofs.TableLemmas.{tree_put}
use Rattle.sd_tables.proofs.tables.Tables.add_space.Goals as goal

pub returns-clause-ok : goal.returns-clause-ok
returns-clause-ok c = tree_put c.self.inside.spaces.entries c.insert.new.self.entries c.args.space c.new.result c.in_ok-insert.ensures.updates.0 ∙ ap (λ m. finmap.insert m c.args.space c.new.result) c.self.view_is ∙ ap (λ t. finmap.insert c.args.self.now c.args.space t) c.new.ensures

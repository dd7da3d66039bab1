use Rattle.std.proofs.Common.{ap, ◌∙◌}
use Rattle.std.specs.FinMap as finmap
use Rattle.sd_tables.proofs.TableLemmas.{tree_removed}
use Rattle.sd_tables.proofs.tables.Tables.remove_space.Goals as goal

pub returns : goal.returns
returns c = tree_removed c.self.inside.spaces.entries c.remove.new.self.entries c.args.space c.remove.ensures.updates.0 ∙ ap (λ m. finmap.remove m c.args.space) c.self.view_is

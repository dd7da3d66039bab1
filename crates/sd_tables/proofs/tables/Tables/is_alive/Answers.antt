use Rattle.std.proofs.Common.{ap, ◌∙◌, sym, is_some}
use Rattle.sd_tables.specs.Tables.{is_alive}
use Rattle.sd_tables.proofs.TableLemmas.{get_tree}
use Rattle.sd_tables.proofs.tables.Tables.is_alive.Goals as goal

pub returns : goal.returns
returns c = c.contains_key.ensures ∙ ap is_some (sym (get_tree c.self.inside.spaces.entries c.args.space)) ∙ ap (λ m. is_alive m c.args.space) c.self.view_is

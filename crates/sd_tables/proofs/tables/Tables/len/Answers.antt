use Rattle.std.proofs.Common.{ap, ◌∙◌, sym}
use Rattle.std.specs.FinMap as finmap
use Rattle.sd_tables.proofs.TableLemmas.{len_tree}
use Rattle.sd_tables.proofs.tables.Tables.len.Goals as goal

pub returns : goal.returns
returns c = c.len.ensures.len ∙ sym (len_tree c.self.inside.spaces.entries c.len.ensures.ordered) ∙ ap finmap.len c.self.view_is

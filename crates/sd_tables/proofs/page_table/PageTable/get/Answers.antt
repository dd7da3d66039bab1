use Rattle.std.proofs.Common.{◌^◌, sym, ap, ◌∙◌}
use Rattle.std.specs.FinMap as finmap
use Rattle.sd_tables.proofs.TableOfLemmas.{get_within}
use Rattle.sd_tables.proofs.page_table.PageTable.get.Goals as goal

pub returns : goal.returns
returns c = c.get_in.ensures ∙ sym (get_within _ (2 ^ 35) c.number.result c.number.ensures.within) ∙ ap (λ m. finmap.get m c.number.result) c.self.view_is ∙ ap (finmap.get c.args.self.now) c.number.ensures.value

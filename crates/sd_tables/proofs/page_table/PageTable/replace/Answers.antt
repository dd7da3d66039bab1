use Rattle.std.proofs.Common.{◌^◌, ap, ◌∙◌}
use Rattle.std.specs.FinMap as finmap
use Rattle.sd_tables.proofs.TableOfLemmas.{table_put, count_same, some_there}
use Rattle.sd_tables.proofs.page_table.PageTable.replace.Goals as goal

pub replace_in-requires-clause-mapped : goal.replace_in-requires-clause-mapped
replace_in-requires-clause-mapped c = some_there (2 ^ 35) _ c.number.result c.args.page c.number.ensures.value c.number.ensures.within c.args.self.now c.self.view_is c.requires

pub invariant_of-self : goal.invariant_of-self
invariant_of-self c = (c.replace_in.ensures.kept, count_same (2 ^ 35) _ c.self.inside.mapped c.number.result c.self.invariant.1 c.number.ensures.within _ c.args.entry c.replace_in.ensures.value (some_there (2 ^ 35) _ c.number.result c.args.page c.number.ensures.value c.number.ensures.within c.args.self.now c.self.view_is c.requires))

pub returns : goal.returns
returns c = table_put (2 ^ 35) _ _ c.number.result c.args.entry c.number.ensures.within c.replace_in.ensures.value ∙ ap (λ m. finmap.insert m c.number.result c.args.entry) c.self.view_is ∙ ap (λ k. finmap.insert c.args.self.now k c.args.entry) c.number.ensures.value

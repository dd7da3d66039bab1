use Rattle.std.proofs.Common.{◌^◌, None, refl, sym, ap, ◌∙◌}
use Rattle.std.specs.FinMap as finmap
use Rattle.std.specs.FinMap.{len-empty}
use Rattle.std.specs.Ordering.{nat_cmp}
use Rattle.std.proofs.lemmas.Option.{none-some}
use Rattle.sd_tables.specs.declared.entry.Entry.{Entry}
use Rattle.sd_tables.proofs.TableOfLemmas.{table_empty}
use Rattle.sd_tables.proofs.page_table.PageTable.new.Goals as goal

pub invariant_of-result : goal.invariant_of-result
invariant_of-result c = (λ x e. absurd (none-some x e), sym (ap finmap.len (table_empty (2 ^ 35) (λ _. None) (λ _. refl)) ∙ len-empty nat_cmp Entry))

pub returns : goal.returns
returns c = table_empty (2 ^ 35) (λ _. None) (λ _. refl)

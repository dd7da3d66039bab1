use Rattle.std.proofs.Common.{◌^◌, is_some, sym, ap, ◌∙◌}
use Rattle.sd_tables.proofs.TableOfLemmas.{len_same}
use Rattle.sd_tables.proofs.CopyLemmas.{bare_seen, table_bare}
use Rattle.sd_tables.proofs.page_table.PageTable.bare_copy.Goals as goal

pub invariant_of-result : goal.invariant_of-result
invariant_of-result c = (c.in_ok-top.ensures.kept, c.self.invariant.1 ∙ sym (len_same _ _ (λ q. ap is_some (c.in_ok-top.ensures.value q) ∙ bare_seen _) (2 ^ 35)))

pub returns : goal.returns
returns c = table_bare (2 ^ 35) _ _ c.in_ok-top.ensures.value c.args.self.now c.self.view_is

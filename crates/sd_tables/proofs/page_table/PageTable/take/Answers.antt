use Rattle.std.proofs.Common.{◌^◌, is_some, sym, ap, ◌∙◌}
use Rattle.std.specs.FinMap as finmap
use Rattle.sd_tables.proofs.TableOfLemmas.{get_within, table_removed, count_less, count_kept, some_count}
use Rattle.sd_tables.proofs.page_table.PageTable.take.Goals as goal

pub overflow_sub-self : goal.overflow_sub-self
overflow_sub-self c = some_count (2 ^ 35) _ c.self.inside.mapped c.number.result c.self.invariant.1 c.number.ensures.within (ap is_some (sym c.remove_in-before.ensures.before) ∙ sym c.is_some.ensures ∙ c.if-is_some.true)

pub invariant_of-self : goal.invariant_of-self
invariant_of-self c = (c.remove_in-before.ensures.kept, count_less (2 ^ 35) _ c.self.inside.mapped c.number.result c.self.invariant.1 c.number.ensures.within _ c.remove_in-before.ensures.value (ap is_some (sym c.remove_in-before.ensures.before) ∙ sym c.is_some.ensures ∙ c.if-is_some.true))

pub invariant_of-self-else-is_some : goal.invariant_of-self-else-is_some
invariant_of-self-else-is_some c = (c.remove_in-before.ensures.kept, count_kept (2 ^ 35) _ c.self.inside.mapped c.number.result c.self.invariant.1 c.number.ensures.within _ c.remove_in-before.ensures.value (ap is_some (sym c.remove_in-before.ensures.before) ∙ sym c.is_some.ensures ∙ c.if-is_some.false))

pub returns-then-is_some-clause-taken : goal.returns-then-is_some-clause-taken
returns-then-is_some-clause-taken c = table_removed (2 ^ 35) _ _ c.number.result c.number.ensures.within c.remove_in-before.ensures.value ∙ ap (λ m. finmap.remove m c.number.result) c.self.view_is ∙ ap (finmap.remove c.args.self.now) c.number.ensures.value

pub returns-else-is_some-clause-taken : goal.returns-else-is_some-clause-taken
returns-else-is_some-clause-taken c = table_removed (2 ^ 35) _ _ c.number.result c.number.ensures.within c.remove_in-before.ensures.value ∙ ap (λ m. finmap.remove m c.number.result) c.self.view_is ∙ ap (finmap.remove c.args.self.now) c.number.ensures.value

pub returns-then-is_some-clause-entry : goal.returns-then-is_some-clause-entry
returns-then-is_some-clause-entry c = c.remove_in-before.ensures.before ∙ sym (get_within _ (2 ^ 35) c.number.result c.number.ensures.within) ∙ ap (λ m. finmap.get m c.number.result) c.self.view_is ∙ ap (finmap.get c.args.self.now) c.number.ensures.value

pub returns-else-is_some-clause-entry : goal.returns-else-is_some-clause-entry
returns-else-is_some-clause-entry c = c.remove_in-before.ensures.before ∙ sym (get_within _ (2 ^ 35) c.number.result c.number.ensures.within) ∙ ap (λ m. finmap.get m c.number.result) c.self.view_is ∙ ap (finmap.get c.args.self.now) c.number.ensures.value

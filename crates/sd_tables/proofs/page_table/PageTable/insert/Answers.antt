use Rattle.std.proofs.Common.{◌^◌, is_some, sym, ap, ◌∙◌, arith}
use Rattle.std.specs.FinMap as finmap
use Rattle.sd_tables.proofs.LevelLemmas.{at_exit}
use Rattle.sd_tables.proofs.TableOfLemmas.{table_same, table_put, count_more, count_same, count_bound}
use Rattle.sd_tables.proofs.page_table.PageTable.insert.Goals as goal

pub invariant_of-self : goal.invariant_of-self
invariant_of-self c = (c.insert_in.ensures.kept, c.self.invariant.1 ∙ ap finmap.len (sym (table_same (2 ^ 35) _ _ c.in_err-before.ensures.err)))

pub returns-in_err-before-clause-err : goal.returns-in_err-before-clause-err
returns-in_err-before-clause-err c = at_exit c.from_residual.result (table_same (2 ^ 35) _ _ c.in_err-before.ensures.err ∙ c.self.view_is)

pub overflow_add-self : goal.overflow_add-self
overflow_add-self c = (let l = count_bound (2 ^ 35) _ c.self.inside.mapped c.self.invariant.1 in omega arith)

pub invariant_of-self-then-is_none : goal.invariant_of-self-then-is_none
invariant_of-self-then-is_none c = (c.insert_in.ensures.kept, count_more (2 ^ 35) _ c.self.inside.mapped c.number.result c.self.invariant.1 c.number.ensures.within _ c.args.entry c.in_ok-before.ensures.value (ap is_some (sym c.in_ok-before.ensures.before) ∙ c.if-is_none.ensures))

pub invariant_of-self-else-is_none : goal.invariant_of-self-else-is_none
invariant_of-self-else-is_none c = (c.insert_in.ensures.kept, count_same (2 ^ 35) _ c.self.inside.mapped c.number.result c.self.invariant.1 c.number.ensures.within _ c.args.entry c.in_ok-before.ensures.value (ap is_some (sym c.in_ok-before.ensures.before) ∙ c.if-is_none.ensures))

pub returns-then-is_none-clause-ok : goal.returns-then-is_none-clause-ok
returns-then-is_none-clause-ok c = table_put (2 ^ 35) _ _ c.number.result c.args.entry c.number.ensures.within c.in_ok-before.ensures.value ∙ ap (λ m. finmap.insert m c.number.result c.args.entry) c.self.view_is ∙ ap (λ k. finmap.insert c.args.self.now k c.args.entry) c.number.ensures.value

pub returns-else-is_none-clause-ok : goal.returns-else-is_none-clause-ok
returns-else-is_none-clause-ok c = table_put (2 ^ 35) _ _ c.number.result c.args.entry c.number.ensures.within c.in_ok-before.ensures.value ∙ ap (λ m. finmap.insert m c.number.result c.args.entry) c.self.view_is ∙ ap (λ k. finmap.insert c.args.self.now k c.args.entry) c.number.ensures.value

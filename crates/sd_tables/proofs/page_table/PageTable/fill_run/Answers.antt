use Rattle.std.proofs.Common.{◌+◌, ◌-◌, ◌^◌, sym, ap, ◌∙◌, arith}
use Rattle.std.specs.FinMap as finmap
use Rattle.sd_tables.proofs.LevelLemmas.{at_exit}
use Rattle.sd_tables.proofs.RunLemmas.{table_fill, fill_from, len_filled}
use Rattle.sd_tables.proofs.TableOfLemmas.{table_same, get_within, count_bound}
use Rattle.sd_tables.proofs.page_table.PageTable.fill_run.Goals as goal

pub invariant_of-self : goal.invariant_of-self
invariant_of-self c = (c.fill_in.ensures.kept, c.self.invariant.1 ∙ ap finmap.len (sym (table_same (2 ^ 35) _ _ c.in_err-reached.ensures.err)))

pub returns-in_err-reached-clause-err : goal.returns-in_err-reached-clause-err
returns-in_err-reached-clause-err c = at_exit c.from_residual.result (table_same (2 ^ 35) _ _ c.in_err-reached.ensures.err ∙ c.self.view_is)

pub overflow_add-self : goal.overflow_add-self
overflow_add-self c =
    let l = count_bound (2 ^ 35) _ c.self.inside.mapped c.self.invariant.1 in
    let end = c.in_ok-reached.ensures.end in
    let limit = c.requires.within in
    omega arith

pub invariant_of-self-2 : goal.invariant_of-self-2
invariant_of-self-2 c =
    let run = table_fill c.args.entry (2 ^ 35) _ _ c.number-from.result c.in_ok-reached.reached (let end = c.in_ok-reached.ensures.end in let limit = c.requires.within in omega arith) c.in_ok-reached.ensures.run in
    (c.fill_in.ensures.kept, ap (λ n. n + (c.in_ok-reached.reached - c.number-from.result)) c.self.invariant.1 ∙ sym (len_filled _ _ c.number-from.result c.in_ok-reached.reached c.in_ok-reached.ensures.reached c.args.entry run))

pub returns-clause-more : goal.returns-clause-more
returns-clause-more c = λ none.
    let is = c.number-from.ensures.value in
    let more = c.in_ok-reached.ensures.more (sym (get_within _ (2 ^ 35) c.number-from.result c.number-from.ensures.within) ∙ ap (λ m. finmap.get m c.number-from.result) c.self.view_is ∙ ap (finmap.get c.args.self.now) is ∙ none) in
    omega arith

pub returns-clause-run : goal.returns-clause-run
returns-clause-run c =
    let run = table_fill c.args.entry (2 ^ 35) _ _ c.number-from.result c.in_ok-reached.reached (let end = c.in_ok-reached.ensures.end in let limit = c.requires.within in omega arith) c.in_ok-reached.ensures.run in
    fill_from c.args.entry _ _ (finmap.get c.args.self.now) c.number-from.result c.args.first c.in_ok-reached.reached (λ q. ap (λ m. finmap.get m q) (sym c.self.view_is)) c.number-from.ensures.value run

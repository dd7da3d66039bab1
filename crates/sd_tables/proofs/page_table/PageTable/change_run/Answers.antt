use Rattle.std.proofs.Common.{◌^◌, ◌∙◌, ap, sym, arith}
use Rattle.std.specs.FinMap as finmap
use Rattle.sd_tables.proofs.RunLemmas.{run_from, table_run, len_changed}
use Rattle.sd_tables.proofs.page_table.PageTable.change_run.Goals as goal

pub invariant_of-self : goal.invariant_of-self
invariant_of-self c =
    let run = table_run (2 ^ 35) _ c.args.change _ c.number.result c.change_in.result (omega arith) c.change_in.ensures.run in
    (c.change_in.ensures.kept, c.self.invariant.1 ∙ sym (len_changed _ _ c.number.result c.change_in.result c.change_in.ensures.reached c.args.change run))

pub returns-clause-run : goal.returns-clause-run
returns-clause-run c =
    let run = table_run (2 ^ 35) _ c.args.change _ c.number.result c.change_in.result (omega arith) c.change_in.ensures.run in
    run_from c.args.change _ _ (finmap.get c.args.self.now) c.number.result c.args.first c.change_in.result (λ q. ap (λ m. finmap.get m q) (sym c.self.view_is)) c.number.ensures.value run

use Rattle.std.proofs.Common.{◌^◌, subst, arith}
use Rattle.std.specs.FinMap as finmap
use Rattle.sd_tables.specs.declared.entry.Entry.{Entry}
use Rattle.sd_tables.specs.Tables.{Table}
use Rattle.sd_tables.specs.Runs.{AreMapped}
use Rattle.sd_tables.proofs.RunLemmas.{table_mapped}
use Rattle.sd_tables.proofs.page_table.PageTable.mapped_to.Goals as goal

pub returns-clause-mapped : goal.returns-clause-mapped
returns-clause-mapped c =
    let own = table_mapped (2 ^ 35) _ c.number.result c.mapped_in.result (omega arith) c.mapped_in.ensures.mapped in
    let seen = subst (λ (m : Table Entry). AreMapped (finmap.get m) c.number.result c.mapped_in.result) c.self.view_is own in
    subst (λ k. AreMapped (finmap.get c.args.self.now) k c.mapped_in.result) c.number.ensures.value seen

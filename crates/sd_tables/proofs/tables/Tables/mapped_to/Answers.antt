use Rattle.std.proofs.Common.{sym, subst, arith}
use Rattle.std.specs.FinMap as finmap
use Rattle.sd_tables.specs.Tables.{Table}
use Rattle.sd_tables.specs.Runs.{AreMapped}
use Rattle.sd_tables.specs.declared.entry.Entry.{Entry}
use Rattle.sd_tables.proofs.TableLemmas.{found_table, inside_is}
use Rattle.sd_tables.proofs.tables.Tables.mapped_to.Goals as goal

pub returns-in-Some-clause-mapped : goal.returns-in-Some-clause-mapped
returns-in-Some-clause-mapped c = subst (λ (t : Table Entry). AreMapped (finmap.get t) c.args.first c.mapped_to.result)
    (sym (inside_is c.args.self.now c.args.space c.in-Some.table.now (found_table c.self.inside.spaces.entries c.args.self.now c.args.space c.in-Some.table.now c.self.view_is c.in-Some.ensures.value)))
    c.mapped_to.ensures.mapped

pub returns-in-None-clause-mapped : goal.returns-in-None-clause-mapped
returns-in-None-clause-mapped c = λ page l m. absurd (omega arith)

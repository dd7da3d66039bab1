use Rattle.std.proofs.Common.{ap, ◌∙◌, sym, Option, unwrap_or}
use Rattle.std.specs.FinMap as finmap
use Rattle.std.specs.Ordering.{nat_cmp}
use Rattle.sd_tables.specs.Tables.{Table}
use Rattle.sd_tables.specs.declared.entry.Entry.{Entry}
use Rattle.sd_tables.proofs.TableLemmas.{found_table, no_table, inside_is}
use Rattle.std.specs.FinMap.{len-empty}
use Rattle.sd_tables.proofs.tables.Tables.pages_in.Goals as goal

pub returns-in-Some : goal.returns-in-Some
returns-in-Some c = c.len.ensures ∙ ap finmap.len (sym (inside_is c.args.self.now c.args.space c.in-Some.table.now (found_table c.self.inside.spaces.entries c.args.self.now c.args.space c.in-Some.table.now c.self.view_is c.in-Some.ensures.value)))

pub returns-in-None : goal.returns-in-None
returns-in-None c = sym (ap (λ (o : Option (Table Entry)). finmap.len (unwrap_or o finmap.empty)) (no_table c.self.inside.spaces.entries c.args.self.now c.args.space c.self.view_is c.in-None.ensures.value) ∙ len-empty nat_cmp Entry)

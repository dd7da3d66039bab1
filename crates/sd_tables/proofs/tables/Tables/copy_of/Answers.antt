use Rattle.std.proofs.Common.{sym, ap, ◌∙◌}
use Rattle.std.specs.Option.{option_map}
use Rattle.std.specs.Ordering.{nat_cmp}
use Rattle.std.specs.FinMap as finmap
use Rattle.std.specs.FinMap.{get-empty}
use Rattle.sd_tables.specs.Copies.{bare_entry}
use Rattle.sd_tables.proofs.RunLemmas.{if_ok_then}
use Rattle.sd_tables.proofs.TableLemmas.{found_table, no_table, inside_is, none_inside}
use Rattle.sd_tables.proofs.tables.Tables.copy_of.Goals as goal

pub returns-in-Some : goal.returns-in-Some
returns-in-Some c =
    let found = found_table c.self.inside.spaces.entries c.args.self.now c.args.space c.in-Some.table.now c.self.view_is c.in-Some.ensures.value in
    if_ok_then c.bare_copy.result (λ copy is page. is page ∙ ap (λ t. option_map bare_entry (finmap.get t page)) (sym (inside_is c.args.self.now c.args.space c.in-Some.table.now found))) c.bare_copy.ensures

pub returns-in-None : goal.returns-in-None
returns-in-None c = λ page. ap (λ t. finmap.get t page) c.new.ensures ∙ get-empty nat_cmp page
    ∙ sym (ap (option_map bare_entry) (none_inside c.args.self.now c.args.space page (no_table c.self.inside.spaces.entries c.args.self.now c.args.space c.self.view_is c.in-None.ensures.value)))

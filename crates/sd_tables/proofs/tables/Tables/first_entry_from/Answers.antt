use Rattle.std.proofs.Common.{◌≡◌, Some, sym, subst}
use Rattle.std.specs.Prelude.{IfSome}
use Rattle.std.specs.Option.{option_map}
use Rattle.std.specs.FinMap as finmap
use Rattle.sd_tables.specs.Tables.{Table}
use Rattle.sd_tables.specs.declared.entry.Entry.{Entry}
use Rattle.sd_tables.specs.Firsts.{IsFirstFrom}
use Rattle.sd_tables.proofs.TableLemmas.{not_none, inside_is, none_inside}
use Rattle.sd_tables.proofs.tables.Tables.first_entry_from.Goals as goal

pub returns-in_err-table-clause-first : goal.returns-in_err-table-clause-first
returns-in_err-table-clause-first c = rw c.from_residual.ensures (λ page some. absurd (not_none _ (none_inside c.args.self.now c.args.space page (sym c.in_err-table.ensures)) some))

pub returns-clause-first : goal.returns-clause-first
returns-clause-first c = subst (λ (t : Table Entry). IsFirstFrom t c.args.start (option_map (λ found. found.0) c.first_entry_from.result))
    (sym (inside_is c.args.self.now c.args.space c.in_ok-table.field-0.now (sym c.in_ok-table.ensures))) c.first_entry_from.ensures.first

pub returns-clause-entry : goal.returns-clause-entry
returns-clause-entry c = subst (λ (t : Table Entry). IfSome c.first_entry_from.result (λ found. finmap.get t found.0 ≡ Some found.1))
    (sym (inside_is c.args.self.now c.args.space c.in_ok-table.field-0.now (sym c.in_ok-table.ensures))) c.first_entry_from.ensures.entry

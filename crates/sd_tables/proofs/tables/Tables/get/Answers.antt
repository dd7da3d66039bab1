use Rattle.std.proofs.Common.{ap, ◌∙◌, sym}
use Rattle.std.specs.FinMap as finmap
use Rattle.sd_tables.proofs.TableLemmas.{inside_is, none_inside}
use Rattle.sd_tables.proofs.tables.Tables.get.Goals as goal

pub returns-in_err-table : goal.returns-in_err-table
returns-in_err-table c = c.from_residual.ensures ∙ sym (none_inside c.args.self.now c.args.space c.args.page (sym c.in_err-table.ensures))

pub returns : goal.returns
returns c = c.get.ensures ∙ ap (λ t. finmap.get t c.args.page) (sym (inside_is c.args.self.now c.args.space c.in_ok-table.field-0.now (sym c.in_ok-table.ensures)))

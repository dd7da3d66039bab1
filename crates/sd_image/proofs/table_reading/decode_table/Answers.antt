use Rattle.std.proofs.Common.{List, Result, map, ap, subst, ◌∙◌, arith}
use Rattle.sd_image.specs.declared.reason.Reason.{Reason}
use Rattle.sd_image.specs.Table.{Listed, listing_of}
use Rattle.sd_image.specs.Reading.{ReadsTable, table_in}
use Rattle.sd_image.proofs.TableLaws.{is_found, table_again}
use Rattle.sd_image.proofs.table_reading.decode_table.Goals as goal

pub returns-clause-found : goal.returns-clause-found
returns-clause-found c = is_found c.args.header.now c.args.bytes.now c.table_of.result (λ i. omega (arith, c.type_inv.bytes i)) c.table_of.ensures.exact

pub returns-clause-only : goal.returns-clause-only
returns-clause-only c = λ spaces e good. subst (λ (r : Result (List Listed) Reason). ReadsTable (λ t. map listing_of t.spaces.items) c.table_of.result r) (ap (table_in c.args.header.now) e ∙ table_again c.args.header.now spaces good) c.table_of.ensures.exact

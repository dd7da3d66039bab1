use Rattle.std.proofs.Common.{◌∙◌, ap, subst}
use Rattle.std.specs.Prelude.{List, IfOk}
use Rattle.std.proofs.lemmas.Result.{IfOk-weaker}
use Rattle.sd_image.specs.declared.table.SpaceTable.{SpaceTable}
use Rattle.sd_image.specs.declared.table.Table.{Table}
use Rattle.sd_writing.specs.Entries.{ImageEntry}
use Rattle.sd_writing.specs.Tables.{listed}
use Rattle.sd_merge.specs.Gathered.{IsTableOf, tables_of}
use Rattle.sd_merge.proofs.TableLemmas.{table_of}
use Rattle.sd_merge.proofs.copies.Copies.table.Goals as goal

pub returns : goal.returns
returns c =
    subst (λ (e : List ImageEntry). IfOk c.gathered_table.result (λ (table : Table). IsTableOf (listed c.args.source.now.spaces.items) e (listed table.spaces.items))) c.self.view_is
    (IfOk-weaker c.gathered_table.result _ _
    (λ table made. table_of (listed c.args.source.now.spaces.items) (listed c.self.inside.spaces.items) (listed table.spaces.items) c.entries_law.ensures c.self.invariant.tables
    (made ∙ ap (λ (l : List SpaceTable). tables_of (listed c.args.source.now.spaces.items) (listed l)) c.deref.ensures.value))
    c.gathered_table.ensures)

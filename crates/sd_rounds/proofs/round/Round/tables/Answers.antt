use Rattle.std.proofs.Common.{List, sym, subst}
use Rattle.sd_image.specs.declared.table.SpaceTable.{SpaceTable}
use Rattle.sd_rounds.specs.SpaceTables.{AreLow}
use Rattle.sd_writing.specs.Tables.{listed}
use Rattle.sd_rounds.proofs.RoundLemmas.{low_tables}
use Rattle.sd_rounds.proofs.round.Round.tables.Goals as goal

pub returns-clause-low : goal.returns-clause-low
returns-clause-low c =
    subst (λ (l : List SpaceTable). AreLow (listed l)) (sym c.deref.ensures.value)
    (low_tables c.self.inside.takes_all c.self.inside.tables.items c.self.inside.after c.self.inside.taking c.self.inside.copy c.self.invariant)

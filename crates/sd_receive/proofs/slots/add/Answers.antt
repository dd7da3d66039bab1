use Rattle.std.proofs.Common.{List, sym, subst}
use Rattle.sd_chain.specs.Catalog.{Opened}
use Rattle.sd_image.specs.Table.{IsTable, Listed}
use Rattle.sd_receive.proofs.CatalogLemmas.{images_more}
use Rattle.sd_receive.proofs.slots.add.Goals as goal

pub returns-in-Ok-clause-images : goal.returns-in-Ok-clause-images
returns-in-Ok-clause-images c = λ are falls table.
    let i : Opened = record { slot = c.args.slot; header = c.args.header; spaces = c.in_ok-placed.placed } in
    images_more c.args.catalog.now c.add.new.self i are falls (subst (λ (spaces : List Listed). IsTable c.args.header spaces) (sym c.in_ok-placed.ensures) table) c.in-Ok.ensures.no_others

use Rattle.std.proofs.Common.{subst}
use Rattle.std.specs.Prelude.{IsNone}
use Rattle.sd_image.specs.Table.{IsTable}
use Rattle.sd_chain.specs.declared.way.Way.{Way}
use Rattle.sd_chain.specs.Catalog.{Opened}
use Rattle.sd_chain.specs.Ways.{HasPage}
use Rattle.sd_chain.proofs.image.OpenImage.stretch.Goals as goal

pub returns-clause-none : goal.returns-clause-none
returns-clause-none c =
    subst (λ (i : Opened). IsTable i.header i.spaces → IsNone c.stretch.result → (w : Way) → HasPage i.spaces (c.args.space, c.args.page) w → ⊥) c.self.view_is
    (c.stretch.ensures.none c.self.inside.header)

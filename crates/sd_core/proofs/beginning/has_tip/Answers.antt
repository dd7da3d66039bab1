use Rattle.std.proofs.Common.{◌∙◌}
use Rattle.sd_core.proofs.TipLemmas.{tip_is_some}
use Rattle.sd_core.proofs.beginning.has_tip.Goals as goal

pub returns : goal.returns
returns c = c.is_some.ensures ∙ tip_is_some c.args.catalog.now c.tip.result c.tip.ensures.newest

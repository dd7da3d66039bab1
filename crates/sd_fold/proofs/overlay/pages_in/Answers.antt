use Rattle.sd_fold.proofs.Tables.{lent_pages}
use Rattle.sd_fold.proofs.overlay.pages_in.Goals as goal

pub returns : goal.returns
returns c = lent_pages c.args.base.now c.args.space c.get.result c.args.none c.unwrap_or.result c.get.ensures.value c.requires c.unwrap_or.ensures

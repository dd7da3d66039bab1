use Rattle.std.proofs.Common.{◌∙◌, ap, sym}
use Rattle.std.specs.Option.{option_copied}
use Rattle.sd_fold.proofs.RoomLemmas.{page_there, none_there}
use Rattle.sd_fold.proofs.room.has_page.Goals as goal

pub returns-in-Some : goal.returns-in-Some
returns-in-Some c = c.contains_key.ensures ∙ page_there c.args.base.now c.args.space c.args.page c.in-Some.pages.now (ap option_copied (sym c.in-Some.is) ∙ c.get.ensures.value)

pub returns-in-None : goal.returns-in-None
returns-in-None c = none_there c.args.base.now c.args.space c.args.page (ap option_copied (sym c.in-None.is) ∙ c.get.ensures.value)

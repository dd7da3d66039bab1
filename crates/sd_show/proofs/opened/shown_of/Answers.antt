use Rattle.sd_show.proofs.TableLemmas.{shown_short}
use Rattle.sd_show.proofs.opened.shown_of.Goals as goal

pub returns-in-Some : goal.returns-in-Some
returns-in-Some c = λ table begins whole. shown_short c.args.fault _ table c.args.judged.bytes.items c.first_of.result.items c.in-Some.is begins c.first_of.ensures

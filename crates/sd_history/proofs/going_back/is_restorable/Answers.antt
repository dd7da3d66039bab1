use Rattle.sd_history.proofs.BackLemmas.{absent_goes, placed_goes}
use Rattle.sd_history.proofs.going_back.is_restorable.Goals as goal

pub returns-in-Ok-clause-exact : goal.returns-in-Ok-clause-exact
returns-in-Ok-clause-exact c = λ contents catalog. placed_goes contents c.args.number c.place_one.result _ c.in-Ok.is (c.place_one.ensures.goes contents catalog)

pub returns-in-Err-clause-exact : goal.returns-in-Err-clause-exact
returns-in-Err-clause-exact c = λ contents catalog.
    absent_goes contents c.args.number c.place_one.result c.in-Err.fault c.absent_by.result c.in-Err.is c.absent_by.ensures.absent (c.place_one.ensures.good contents catalog) (c.place_one.ensures.saved contents catalog)

use Rattle.std.proofs.Common.{refl}
use Rattle.sd_world.specs.Steps.{WorkerTakesUp}
use Rattle.sd_world.proofs.stepping.take_up.Goals as goal

pub returns-in-Call : goal.returns-in-Call
returns-in-Call c = WorkerTakesUp.call c.in-Call.request c.in-Call.ensures
    c.keep_request.ensures refl

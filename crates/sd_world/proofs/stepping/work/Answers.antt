use Rattle.sd_world.specs.Steps.{WorkerWorks}
use Rattle.sd_world.proofs.KeptLemmas.{made_there}
use Rattle.sd_world.proofs.stepping.work.Goals as goal

pub returns-in-Some : goal.returns-in-Some
returns-in-Some c =
    let there = made_there c.args.kept.now c.args.worker 0 c.in-Some.lane c.in-Some.ensures.found in
    WorkerWorks.hands_in (record {
      lane = c.in-Some.lane;
      at = c.in-Some.ensures.found;
      made = there.0;
      is = there.1;
      hands = c.hand_in.ensures there.0 there.1;
    })

pub returns-in-None : goal.returns-in-None
returns-in-None c = WorkerWorks.takes_up c.in-None.ensures.found c.take_up.ensures

use Rattle.sd_world.specs.Steps.{HandsInIfAny}
use Rattle.sd_world.proofs.KeptLemmas.{made_there}
use Rattle.sd_world.proofs.stepping.hand_in_at.Goals as goal

pub returns-in-Some : goal.returns-in-Some
returns-in-Some c =
    let there = made_there c.args.kept.now c.args.worker c.args.place c.in-Some.lane c.in-Some.ensures.found in
    HandsInIfAny.hands_in (record {
      lane = c.in-Some.lane;
      at = c.in-Some.ensures.found;
      made = there.0;
      is = there.1;
      hands = c.hand_in.ensures there.0 there.1;
    })

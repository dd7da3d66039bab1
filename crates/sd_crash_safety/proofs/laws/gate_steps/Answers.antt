use Rattle.sd_crash_safety.proofs.GateSteps.{gate_steps_lem}
use Rattle.sd_crash_safety.proofs.laws.gate_steps.Goals as goal

pub returns : goal.returns
returns c = gate_steps_lem (record {
  follow = c.beliefs_follow_calls.ensures;
  changes = c.one_belief_changes.ensures;
  keep = c.steps_keep.ensures;
  show = c.steps_show.ensures;
  pends = c.pending_shows.ensures;
  closing = c.closing_retires.ensures;
  drop = c.slots_drop.ensures;
  calls = c.slots_follow_calls.ensures;
  images = c.slots_follow_images.ensures;
  jobs = c.slots_follow_jobs.ensures;
})

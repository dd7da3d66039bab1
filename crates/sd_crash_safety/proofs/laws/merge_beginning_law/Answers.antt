use Rattle.sd_crash_safety.proofs.BeginsMerge.{begins_merge_lem}
use Rattle.sd_crash_safety.proofs.laws.merge_beginning_law.Goals as goal

pub returns : goal.returns
returns c = begins_merge_lem c.gate_steps.ensures c.needs_no_more.ensures c.making_law.ensures c.needed_is_reached.ensures c.args.catalog.now
    c.live_catalog_agrees.ensures c.recorded_reaches_so.ensures c.agrees.ensures

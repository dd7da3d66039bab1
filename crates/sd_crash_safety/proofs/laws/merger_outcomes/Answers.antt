use Rattle.sd_crash_safety.proofs.MergerHands.{fails_lem, goes_on_lem}
use Rattle.sd_crash_safety.proofs.MergerOpens.{copies_lem, opens_lem, orderly_lem, rests_lem}
use Rattle.sd_crash_safety.proofs.MergerRetires.{cuts_lem, retires_lem}
use Rattle.sd_crash_safety.proofs.laws.merger_outcomes.Goals as goal

pub returns : goal.returns
returns c = record {
  fails = fails_lem c.quiet_steps.ensures;
  goes_on = goes_on_lem c.quiet_steps.ensures c.gate_steps.ensures c.making_law.ensures c.merge_law.ensures c.merged_file_law.ensures c.closing_retires.ensures c.steps_keep.ensures
      c.steps_give.ensures c.needs_no_more.ensures c.catalog_follows.ensures c.cut_holds_the_same.ensures c.page_in_file.ensures;
  opens = opens_lem c.quiet_steps.ensures c.gate_steps.ensures c.making_law.ensures c.steps_keep.ensures c.steps_give.ensures c.needs_no_more.ensures c.catalog_follows.ensures
      c.plans_lead.ensures c.needed_is_reached.ensures c.args.catalog.now c.live_catalog_agrees.ensures c.recorded_reaches_so.ensures c.agrees.ensures;
  copies = copies_lem c.quiet_steps.ensures c.gate_steps.ensures c.making_law.ensures c.steps_keep.ensures c.steps_give.ensures c.needs_no_more.ensures c.catalog_follows.ensures
      c.plans_lead.ensures c.needed_is_reached.ensures c.source_reaches_needed.ensures c.merged_file_law.ensures c.args.catalog.now c.live_catalog_agrees.ensures
      c.recorded_reaches_so.ensures c.agrees.ensures;
  rests = rests_lem c.quiet_steps.ensures c.gate_steps.ensures c.making_law.ensures c.steps_keep.ensures c.steps_give.ensures c.needs_no_more.ensures c.catalog_follows.ensures
      c.plans_lead.ensures c.needed_is_reached.ensures c.source_reaches_needed.ensures c.merged_file_law.ensures c.args.catalog.now c.live_catalog_agrees.ensures
      c.recorded_reaches_so.ensures c.agrees.ensures;
  orderly = orderly_lem c.quiet_steps.ensures c.gate_steps.ensures c.making_law.ensures c.steps_keep.ensures c.steps_give.ensures c.needs_no_more.ensures c.catalog_follows.ensures
      c.plans_lead.ensures c.needed_is_reached.ensures c.args.catalog.now c.live_catalog_agrees.ensures c.recorded_reaches_so.ensures c.agrees.ensures;
  cuts = cuts_lem c.quiet_steps.ensures c.gate_steps.ensures c.making_law.ensures c.closing_retires.ensures c.steps_keep.ensures c.steps_give.ensures c.needs_no_more.ensures
      c.catalog_follows.ensures c.cut_holds_the_same.ensures c.plans_lead.ensures;
  retires = retires_lem c.quiet_steps.ensures c.gate_steps.ensures c.making_law.ensures c.closing_retires.ensures c.steps_keep.ensures c.steps_give.ensures c.needs_no_more.ensures
      c.catalog_follows.ensures c.cut_holds_the_same.ensures c.plans_lead.ensures;
}

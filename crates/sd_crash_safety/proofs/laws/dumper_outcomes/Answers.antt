use Rattle.sd_crash_safety.proofs.HandsLaw.{fails_lem, goes_on_lem}
use Rattle.sd_crash_safety.proofs.OpensLaw.{dump_lem, open_lem, pre_dump_lem}
use Rattle.sd_crash_safety.proofs.PageLaw.{written_lem}
use Rattle.sd_crash_safety.proofs.laws.dumper_outcomes.Goals as goal

pub returns : goal.returns
returns c = record {
  fails = fails_lem c.quiet_steps.ensures;
  goes_on = goes_on_lem c.quiet_steps.ensures c.gate_steps.ensures c.making_law.ensures c.closing_retires.ensures c.steps_give.ensures c.needs_no_more.ensures c.catalog_follows.ensures c.cut_holds_the_same.ensures;
  written = written_lem c.writes_commute.ensures c.making_law.ensures c.quiet_steps.ensures;
  opens_pre_dump = λ old new running image made phase opened asked bodies files s at b.
      pre_dump_lem c.quiet_steps.ensures c.gate_steps.ensures c.file_law.ensures c.steps_give.ensures c.needs_no_more.ensures c.catalog_follows.ensures c.cut_holds_the_same.ensures c.unused_is_uncalled.ensures
      old new running image made phase opened asked bodies files s.opens_it at b s.more s.history s.grows s.is;
  opens_dump = λ old new running image made phase opened asked bodies files s at b.
      dump_lem c.quiet_steps.ensures c.gate_steps.ensures c.file_law.ensures c.steps_give.ensures c.needs_no_more.ensures c.catalog_follows.ensures c.cut_holds_the_same.ensures c.unused_is_uncalled.ensures
      old new running image made phase opened asked bodies files s.opens_it at b s.last s.items s.legal s.grows s.is;
  enters_open = open_lem c.quiet_steps.ensures c.gate_steps.ensures c.file_law.ensures c.steps_give.ensures c.needs_no_more.ensures c.catalog_follows.ensures c.cut_holds_the_same.ensures c.unused_is_uncalled.ensures;
}

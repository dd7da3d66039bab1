use Rattle.std.proofs.Common.{sym, subst}
use Rattle.sd_crash_safety.specs.MergerOutcomes.{MergerOutcomes}
use Rattle.sd_core.proofs.HandedLaws.{is_handed}
use Rattle.sd_core.proofs.next_laws.outcome_law.Goals as goal

pub returns : goal.returns
returns c = λ old made answer new sound after is. is_handed old sound made answer new after (record {
  dumper = c.dumper_outcomes.ensures;
  merger = subst MergerOutcomes (sym is) c.merger_outcomes.ensures;
  opener = c.opener_steps.ensures;
  tracked = c.journal_laws.ensures.tracked;
  due = c.journal_laws.ensures.due;
  little = c.journal_laws.ensures.little;
  left = c.left_law.ensures;
  merge_left = c.left_law-2.ensures;
  plain = c.plain_law.ensures;
})

use Rattle.std.proofs.Common.{◌≡◌, Some, None, sym, ◌∙◌, rules}
use Rattle.sd_core.proofs.NextLooking.{opens_believed, opens_own, refuses_as_scan, refuses_rightly}
use Rattle.sd_core.proofs.OpenerTakes.{opener_leaves, opener_takes}
use Rattle.sd_core.proofs.TakenLaws.{opener_beside, opener_flags}
use Rattle.sd_core.proofs.next_laws.opener_law.Goals as goal

pub returns : goal.returns
returns c = λ old made new sound after may step. record {
  step = step;
  takes = opener_takes c.opener_steps.ensures old sound c.core_steps.ensures c.tracked_laws.ensures c.plain_law.ensures c.reopened_law.ensures made new after step;
  refused = λ why is. absurd (let no : Some why ≡ None = sym is ∙ may in cc);
  leaves = λ is. opener_leaves old made new may step;
  lasts = search rules;
  fixes = search rules;
  finds = search rules;
  rounds = search rules;
  flags = opener_flags old made new step;
  beside = opener_beside old made new step;
  refuses = λ is. refuses_rightly old made new may step;
  scans = λ is. refuses_as_scan old made new may step;
  opens = λ is. opens_believed old made new may sound c.opener_finds.ensures step;
  shows = λ is. opens_own old made new may step;
}

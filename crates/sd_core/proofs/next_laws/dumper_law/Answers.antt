use Rattle.std.proofs.Common.{◌≡◌, Some, None, sym, ◌∙◌, rules}
use Rattle.sd_core.proofs.DumperTakes.{dumper_leaves, dumper_takes}
use Rattle.sd_core.proofs.TakenLaws.{dumper_beside, dumper_flags, dumper_rounds}
use Rattle.sd_core.proofs.next_laws.dumper_law.Goals as goal

pub returns : goal.returns
returns c = λ old made new sound may step. record {
  step = step;
  takes = dumper_takes c.dumper_steps.ensures old sound c.core_steps.ensures c.tracked_laws.ensures c.rises_law.ensures made new step;
  refused = λ why is. absurd (let no : Some why ≡ None = sym is ∙ may in cc);
  leaves = λ is. dumper_leaves c.left_law.ensures old made new may step;
  lasts = search rules;
  fixes = search rules;
  finds = search rules;
  rounds = λ is. dumper_rounds old made new step;
  flags = dumper_flags old made new step;
  beside = dumper_beside old made new sound step;
  refuses = search rules;
  scans = search rules;
  opens = search rules;
  shows = search rules;
}

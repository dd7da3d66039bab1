use Rattle.std.proofs.Common.{◌≡◌, Some, None, sym, ◌∙◌, subst, rules}
use Rattle.sd_crash_safety.specs.MergerSteps.{MergerSteps}
use Rattle.sd_core.proofs.MergerTakes.{merger_finds, merger_leaves, merger_takes}
use Rattle.sd_core.proofs.TakenLaws.{merger_beside, merger_fixes, merger_flags, merger_lasts}
use Rattle.sd_core.proofs.next_laws.merger_law.Goals as goal

pub returns : goal.returns
returns c = λ old made new sound may is step. let laws = subst MergerSteps (sym is) c.merger_steps.ensures in record {
  step = step;
  takes = merger_takes old sound c.core_steps.ensures made new laws step;
  refused = λ why is. absurd (let no : Some why ≡ None = sym is ∙ may in cc);
  leaves = λ is. merger_leaves c.left_law.ensures old made new may step;
  lasts = merger_lasts old made new step;
  fixes = merger_fixes old made new step;
  finds = λ is. merger_finds old sound made new laws may step;
  rounds = search rules;
  flags = merger_flags old made new step;
  beside = merger_beside old made new step;
  refuses = search rules;
  scans = search rules;
  opens = search rules;
  shows = search rules;
}

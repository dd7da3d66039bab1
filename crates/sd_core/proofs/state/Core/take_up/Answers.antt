use Rattle.std.proofs.Common.{◌≡◌, None, sym, ◌∙◌, ap, subst}
use Rattle.sd_crash_safety.specs.View.{CoreView}
use Rattle.sd_core.specs.Called.{IsTakenUp}
use Rattle.sd_core.specs.Refusals.{work_refusal}
use Rattle.sd_core.proofs.TakenLaws.{taken_refused}
use Rattle.sd_core.proofs.state.Core.take_up.Goals as goal

pub returns-in-Some : goal.returns-in-Some
returns-in-Some c = taken_refused c.core_steps.ensures c.args.self.now c.args.worker c.in-Some.why (sym c.refusal_of_work.ensures ∙ c.in-Some.is)

pub returns-in-Dumper : goal.returns-in-Dumper
returns-in-Dumper c = subst (λ w. IsTakenUp w c.args.self.now c.take_up_dumper.result c.take_up_dumper.new.self) (sym c.in-Dumper.is)
    (c.dumper_law.ensures c.args.self.now c.take_up_dumper.result c.take_up_dumper.new.self c.is_sound.ensures
    (subst (λ w. work_refusal c.args.self.now w ≡ None) c.in-Dumper.is (sym c.refusal_of_work.ensures ∙ c.in_default.is)) c.take_up_dumper.ensures)

pub returns-in-Merger : goal.returns-in-Merger
returns-in-Merger c = subst (λ w. IsTakenUp w c.args.self.now c.take_up_merger-made.result c.take_up_merger-made.new.self) (sym c.in-Merger.is)
    (c.merger_law.ensures c.args.self.now c.take_up_merger-made.result c.take_up_merger-made.new.self c.is_sound.ensures
    (subst (λ w. work_refusal c.args.self.now w ≡ None) c.in-Merger.is (sym c.refusal_of_work.ensures ∙ c.in_default.is)) (ap (λ (v : CoreView). v.catalog) (sym c.self.view_is)) c.take_up_merger-made.ensures)

pub returns-in-Opener : goal.returns-in-Opener
returns-in-Opener c = subst (λ w. IsTakenUp w c.args.self.now c.take_up_opener-made.result c.take_up_opener-made.new.self) (sym c.in-Opener.is)
    (c.opener_law.ensures c.args.self.now c.take_up_opener-made.result c.take_up_opener-made.new.self c.is_sound.ensures c.is_sound-in-Opener.ensures
    (subst (λ w. work_refusal c.args.self.now w ≡ None) c.in-Opener.is (sym c.refusal_of_work.ensures ∙ c.in_default.is)) c.take_up_opener-made.ensures)

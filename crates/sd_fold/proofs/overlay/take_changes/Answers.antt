use Rattle.std.proofs.Common.{ap, sym, ◌∙◌}
use Rattle.std.specs.Prelude.{Some}
use Rattle.sd_fold.proofs.OverlayLemmas.{found_changes, gone_changes, no_changes, taken_changes}
use Rattle.sd_fold.proofs.overlay.take_changes.Goals as goal

pub returns-in-Some-Some-clause-changes : goal.returns-in-Some-Some-clause-changes
returns-in-Some-Some-clause-changes c = λ base alive. found_changes c.args.overlay.now.entries base c.args.space c.in-Some-Some.changes
    (ap Some (sym c.in-Some-Some.field-0-is) ∙ sym c.in-Some-Some.is ∙ c.remove.ensures.value)

pub returns-in-Some-Some-clause-rest : goal.returns-in-Some-Some-clause-rest
returns-in-Some-Some-clause-rest c = λ base pages. taken_changes c.args.overlay.now.entries c.remove.new.self.entries base c.args.space pages c.remove.ensures.updates.0

pub returns-in-Some-None-clause-changes : goal.returns-in-Some-None-clause-changes
returns-in-Some-None-clause-changes c = λ base alive. absurd (gone_changes c.args.overlay.now.entries base c.args.space
    (ap Some (sym c.in-Some-None.field-0-is) ∙ sym c.in-Some-None.is ∙ c.remove.ensures.value) alive)

pub returns-in-Some-None-clause-rest : goal.returns-in-Some-None-clause-rest
returns-in-Some-None-clause-rest c = λ base pages. taken_changes c.args.overlay.now.entries c.remove.new.self.entries base c.args.space pages c.remove.ensures.updates.0

pub returns-in-None-clause-changes : goal.returns-in-None-clause-changes
returns-in-None-clause-changes c = λ base alive. no_changes c.args.overlay.now.entries base c.args.space c.new-in-None.result (sym c.in-None.is ∙ c.remove.ensures.value) c.new-in-None.ensures.empty

pub returns-in-None-clause-rest : goal.returns-in-None-clause-rest
returns-in-None-clause-rest c = λ base pages. taken_changes c.args.overlay.now.entries c.remove.new.self.entries base c.args.space pages c.remove.ensures.updates.0

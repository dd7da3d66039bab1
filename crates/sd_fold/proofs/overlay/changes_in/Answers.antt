use Rattle.std.proofs.Common.{ap, sym, ◌∙◌}
use Rattle.std.specs.Option.{option_copied}
use Rattle.std.specs.Prelude.{Some}
use Rattle.sd_fold.proofs.OverlayLemmas.{found_changes, gone_changes, no_changes}
use Rattle.sd_fold.proofs.overlay.changes_in.Goals as goal

pub returns-in-Some-Some : goal.returns-in-Some-Some
returns-in-Some-Some c = λ base alive. found_changes c.args.overlay.now.entries base c.args.space c.in-Some-Some.changes
    (ap Some (sym c.in-Some-Some.field-0-is) ∙ ap option_copied (sym c.in-Some-Some.is) ∙ c.get.ensures.value)

pub returns-in-Some-None : goal.returns-in-Some-None
returns-in-Some-None c = λ base alive. absurd (gone_changes c.args.overlay.now.entries base c.args.space
    (ap Some (sym c.in-Some-None.field-0-is) ∙ ap option_copied (sym c.in-Some-None.is) ∙ c.get.ensures.value) alive)

pub returns-in-None : goal.returns-in-None
returns-in-None c = λ base alive. no_changes c.args.overlay.now.entries base c.args.space c.args.none.now (ap option_copied (sym c.in-None.is) ∙ c.get.ensures.value) c.requires

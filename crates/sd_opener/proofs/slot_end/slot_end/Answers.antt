use Rattle.std.proofs.Common.{◌≡◌, ◌∙◌, sym}
use Rattle.sd_gate.specs.declared.phase.Phase.TheVariants.{Whole}
use Rattle.sd_gate.specs.Laws.{found_phase}
use Rattle.sd_gate.specs.Plans.{found_of}
use Rattle.sd_opener.proofs.Ends.{phase_is}
use Rattle.sd_opener.proofs.slot_end.slot_end.Goals as goal

pub returns-in_ok-open_stage-in-Whole-clause-sees : goal.returns-in_ok-open_stage-in-Whole-clause-sees
returns-in_ok-open_stage-in-Whole-clause-sees c file is =
    let whole : found_phase file ≡ Whole = sym (phase_is file (found_of c.args.found) c.in_ok-phase.phase is (sym c.phase.ensures ∙ c.in_ok-phase.was)) ∙ c.in-Whole.is in
    (whole, c.in_ok-open_stage-in-Whole.ensures.sees file is whole)

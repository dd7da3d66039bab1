use Rattle.std.proofs.Common.{◌∙◌}
use Rattle.sd_pagetable.specs.Contents.{plain_of}
use Rattle.sd_command.specs.Events.{event_of}
use Rattle.sd_command.proofs.EventLemmas.{same_effect}
use Rattle.sd_command.proofs.laws.effect_law.Goals as goal

pub returns : goal.returns
returns c = λ old new asked answer step. c.effect_law.ensures old new (event_of asked answer) step ∙ same_effect asked answer (plain_of old)

use Rattle.std.proofs.Common.{Ok, ◌∙◌, ap}
use Rattle.sd_core.proofs.NextOrders.{dumper_seen}
use Rattle.sd_core.proofs.state.Core.go_on_image.Goals as goal

pub returns-in-Ok-false : goal.returns-in-Ok-false
returns-in-Ok-false c = dumper_seen _ _ _ _ (c.pass_image.ensures.other (c.in-Ok-false.is ∙ ap Ok c.in-Ok-false.field-0-test)).1 c.call_image.ensures

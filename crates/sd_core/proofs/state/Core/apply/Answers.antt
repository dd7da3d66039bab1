use Rattle.std.proofs.Common.{subst}
use Rattle.sd_command.specs.declared.command.Command.{Command}
use Rattle.sd_core.specs.Called.{IsApplied}
use Rattle.sd_core.proofs.state.Core.apply.Goals as goal

pub returns : goal.returns
returns c = subst (λ (k : Command). IsApplied c.args.seat k c.apply_owned.result c.args.self.now c.apply_owned.new.self) c.in-Ok.ensures.copy c.apply_owned.ensures

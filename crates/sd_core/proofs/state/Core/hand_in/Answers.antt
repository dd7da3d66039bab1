use Rattle.std.proofs.Common.{sym, ap}
use Rattle.sd_crash_safety.specs.View.{CoreView}
use Rattle.sd_core.proofs.state.Core.hand_in.Goals as goal

pub returns : goal.returns
returns c = c.outcome_law.ensures c.args.self.now c.args.outcome c.hand_in_known-reply.result c.hand_in_known-reply.new.self c.is_sound.ensures c.is_sound-2.ensures (ap (λ (v : CoreView). v.catalog) (sym c.self.view_is)) c.hand_in_known-reply.ensures

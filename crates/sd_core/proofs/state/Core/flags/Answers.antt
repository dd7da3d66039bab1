use Rattle.std.proofs.Common.{◌≡◌, subst, rules}
use Rattle.sd_crash_safety.specs.View.{CoreView, history_of}
use Rattle.sd_core.specs.Grown.{has_grown}
use Rattle.sd_core.proofs.state.Core.flags.Goals as goal

pub returns : goal.returns
returns c = record {
  grows = subst (λ (v : CoreView). v.grows ≡ has_grown v.base (history_of v)) c.self.view_is c.self.invariant.flags_are.grown;
  committing = search rules;
  begun = search rules;
  given = search rules;
  used = search rules;
  pends = search rules;
  counted = search rules;
}

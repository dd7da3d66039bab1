use Rattle.std.proofs.Common.{refl, sym, ◌∙◌}
use Rattle.sd_core.specs.Next.{refused}
use Rattle.sd_core.proofs.state.Core.reopen.Goals as goal

pub returns-in-Some : goal.returns-in-Some
returns-in-Some c = c.reopen_law.ensures c.args.self.now _ _ c.is_sound.ensures (refused c.in-Some.why (sym c.refusal_of_reopen.ensures ∙ c.in-Some.is) (refl, refl))

pub returns-in-None : goal.returns-in-None
returns-in-None c = c.reopen_law.ensures c.args.self.now _ _ c.is_sound.ensures c.open_again.ensures

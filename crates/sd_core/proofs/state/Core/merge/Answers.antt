use Rattle.std.proofs.Common.{refl, sym, ap, ◌∙◌}
use Rattle.sd_crash_safety.specs.View.{CoreView}
use Rattle.sd_core.specs.Next.{refused}
use Rattle.sd_core.proofs.state.Core.merge.Goals as goal

pub returns-in-Some : goal.returns-in-Some
returns-in-Some c =
    c.merge_order_law.ensures c.args.self.now _ _ c.is_sound.ensures (ap (λ (v : CoreView). v.catalog) (sym c.self.view_is))
    (refused c.in-Some.why (sym c.refusal_of_merge.ensures ∙ c.in-Some.is) (refl, refl))

pub returns-in-None : goal.returns-in-None
returns-in-None c = c.merge_order_law.ensures c.args.self.now _ _ c.is_sound.ensures (ap (λ (v : CoreView). v.catalog) (sym c.self.view_is)) c.merge_tip.ensures

use Rattle.std.proofs.Common.{◌^◌, not, nat_le, is_some, ◌∙◌, ap}
use Rattle.sd_command.specs.declared.refusal.Refusal.TheVariants as refusal
use Rattle.sd_crash_safety.specs.View.{CoreView}
use Rattle.sd_core.specs.Beginning.{is_down, is_not_open}
use Rattle.sd_core.specs.Merging.{has_tip}
use Rattle.sd_core.proofs.BeginLemmas.{is_busy}
use Rattle.sd_core.proofs.MergeBegin.{first_five}
use Rattle.sd_core.proofs.state.Core.refusal_of_merge.Goals as goal

pub returns : goal.returns
returns c =
    let is = c.self.view_is in
    c.first_of.ensures ∙ first_five _ _ _ _ _ _ _ _ _ _ refusal.NotOpen refusal.StoreDown refusal.Busy refusal.Idle refusal.NumbersUsed
    (c.is_not_open.ensures ∙ ap (λ (v : CoreView). is_not_open v.standing) is)
    (c.is_down.ensures ∙ ap (λ (v : CoreView). is_down v.standing) is)
    (is_busy c.self.inside.merger c.is_idle.result c.is_idle.ensures ∙ ap (λ (v : CoreView). is_some v.merger) is)
    (ap not c.has_tip.ensures ∙ ap (λ (v : CoreView). not (has_tip v.catalog)) is)
    (c.are_serials_used_up.ensures ∙ ap (λ (v : CoreView). nat_le (2 ^ 63) v.numbers.serial) is)

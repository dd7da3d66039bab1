use Rattle.std.proofs.Common.{ℕ, Option, Some, None, refl, sym, subst}
use Rattle.std.specs.Prelude.{IsErrOf, Err, ◌↔◌}
use Rattle.sd_send.specs.declared.send_error.SendError.{SendError}
use Rattle.sd_send.specs.declared.send_error.SendError.TheVariants as send
use Rattle.sd_send.specs.declared.sender.Last.{Last}
use Rattle.sd_send.specs.Last.{IsGone, IsStopAfter}
use Rattle.sd_send.proofs.LastLemmas.{another_gone, not_none, stop_is_gone, stop_is_there}
use Rattle.sd_send.proofs.sender.stop_after.Goals as goal

pub returns-in-Some-of_checkpoint-clause-gone : goal.returns-in-Some-of_checkpoint-clause-gone
returns-in-Some-of_checkpoint-clause-gone c = stop_is_there c.args.catalog.now c.args.last (Some c.slot.result)
    (subst (λ (last : Option Last). IsStopAfter c.args.catalog.now last (Some c.slot.result)) (sym c.in-Some.is)
    (c.in-Some-of_checkpoint.image.now, record { newest = c.in-Some-of_checkpoint.ensures.found; stands = c.if-is_of.ensures.0 refl }, c.slot.ensures))

pub returns-in-None-clause-gone : goal.returns-in-None-clause-gone
returns-in-None-clause-gone c = stop_is_there c.args.catalog.now c.args.last None
    (subst (λ (last : Option Last). IsStopAfter c.args.catalog.now last None) (sym c.in-Some.is)
    (record { sent = not_none c.in-Some.last.stands_for c.if-is_some.ensures; lacks = c.in-None.ensures.found; newer = c.if-has_newer.ensures.0 refl }))

pub returns-in_default-of_checkpoint-clause-gone : goal.returns-in_default-of_checkpoint-clause-gone
returns-in_default-of_checkpoint-clause-gone c = λ number. subst (λ (last : Option Last). IsErrOf {T = Option ℕ} {E = SendError} (Err (send.Gone c.in-Some.last.number)) (send.Gone number) ↔ IsGone c.args.catalog.now last number) (sym c.in-Some.is)
    (stop_is_gone c.args.catalog.now c.in-Some.last
    (another_gone c.args.catalog.now c.in-Some.last c.in-Some-of_checkpoint.image.now c.sound.ensures c.in-Some-of_checkpoint.ensures.found (λ same. absurd (let e = c.if-is_of.ensures.1 same in cc))) number)

-- What the steps and outcomes of an image leave of its plan, its cursor and its freeze.
use Rattle.std.proofs.Common.{◌≡◌, ◌≢◌, ℕ, ◌==◌, ◌&&◌, [], Some, None, sym, ◌∙◌, ap, arith}
use Rattle.std.proofs.lemmas.Option.{same_Some}
use Rattle.sd_gate.specs.Plans.{Gives, Planned}
use Rattle.sd_gate.specs.Requests.{Asked}
use Rattle.sd_gate.specs.Sequences.{Calls}
use Rattle.sd_image.specs.declared.header.Kind.{Kind}
use Rattle.sd_image.specs.Words.{kind_number}
use Rattle.sd_journal.specs.Marked.{Marked}
use Rattle.sd_pagetable.specs.Contents.{Contents}
use Rattle.sd_rounds.specs.declared.copied.Copied.{Copied}
use Rattle.sd_rounds.specs.declared.image_order.ImageOrder.{ImageOrder}
use Rattle.sd_rounds.specs.declared.stage.Stage.{Stage}
use Rattle.sd_rounds.specs.declared.stage.Stage.TheVariants.{Format, Close}
use Rattle.sd_rounds.specs.Making.{closing_outcomes, is_past_freeze, out_of, plan_of, stage_after, stage_when_done, with_plan}
use Rattle.sd_rounds.specs.Pass.{Pass}
use Rattle.sd_rounds.specs.Rounds.{Copies}
use Rattle.sd_core.specs.Sound.{IsStageOfImage, IsVisitingIn}

-- ---- a call of its plan is asked for

-- the slot, and what is out then
pub record IsAskedIn (order : ImageOrder) (stage : Stage) (next : Planned) (request : Asked) : Type 0 where
  pub stage_is : IsStageOfImage order (with_plan stage next)
  pub slot : request.id.slot ≡ order.slot
  pub out : out_of (with_plan stage next) ≡ Some request.id

pub asked_in : (order : ImageOrder) (stage : Stage) (plan next : Planned) (request : Asked) → plan_of stage ≡ Some plan → Gives plan next request
    → IsStageOfImage order stage → IsAskedIn order stage next request
asked_in order (Format p) plan next request was gives is = record { stage_is = own next.slot gives.same_slot; slot = own request.id.slot gives.slot; out = gives.out }
  where
    own : (slot : ℕ) → slot ≡ plan.slot → slot ≡ order.slot
    own slot same = same ∙ ap (λ (q : Planned). q.slot) (sym (same_Some p plan was)) ∙ is
asked_in order (Close p header tables) plan next request was gives is =
    record { stage_is = (own next.slot gives.same_slot, is.1); slot = own request.id.slot gives.slot; out = gives.out }
  where
    own : (slot : ℕ) → slot ≡ plan.slot → slot ≡ order.slot
    own slot same = same ∙ ap (λ (q : Planned). q.slot) (sym (same_Some p plan was)) ∙ is.0
asked_in order _ plan next request was gives is = absurd (let no : None ≡ Some plan = was in cc)

pub visiting_asked : (items : Marked) (serial : ℕ) (pass : Pass) (stage : Stage) (next : Planned) → IsVisitingIn items serial pass stage
    → IsVisitingIn items serial pass (with_plan stage next)
visiting_asked items serial pass stage next is = grind arith

-- ---- an outcome with which it goes on

pub record IsAfterPlace (items : Marked) (order : ImageOrder) (pass : Pass) (stage new : Stage) : Type 0 where
  pub stage_is : IsStageOfImage order stage → IsStageOfImage order new
  pub rests : out_of new ≡ None
  pub frozen : ((kind_number order.kind == 2) && is_past_freeze new) ≡ ((kind_number order.kind == 2) && is_past_freeze stage)
  pub visiting_in : IsVisitingIn items order.serial pass stage → IsVisitingIn items order.serial pass new

slot_on : (p plan next : Planned) (slot : ℕ) → Some p ≡ Some plan → next.slot ≡ plan.slot → p.slot ≡ slot → next.slot ≡ slot
slot_on p plan next slot was same is = same ∙ ap (λ (q : Planned). q.slot) (sym (same_Some p plan was)) ∙ is

format_behind : (items : Marked) (order : ImageOrder) (pass : Pass) (plan : Planned) (kind : Kind) → order.kind ≡ kind
    → IsAfterPlace items order pass (Format plan) (stage_when_done kind (Format plan))
format_behind items order pass plan kind is = grind arith

pub behind : (items : Marked) (order : ImageOrder) (pass : Pass) (stage : Stage) (plan next : Planned) (calls : Calls) → plan_of stage ≡ Some plan
    → next.slot ≡ plan.slot → next.out ≡ None → (closing_outcomes stage ≢ 0 → calls ≢ []) → IsAfterPlace items order pass stage (stage_after order.kind stage next calls)
behind items order pass stage plan next calls was same rests closes = grind arith

-- ---- its cursor

pub copied_after : (old new : Pass) (memory : Contents) (copied : Copied) → Copies old memory copied new → new.after ≡ old.after
copied_after old new memory copied copies = grind arith

-- What is known of an image once an outcome of its plan's call was handed in, and it goes on.
use Rattle.std.proofs.Common.{◌≡◌, ◌≢◌, ◌⊎◌, ℕ, ◌==◌, ◌&&◌, true, List, [], ◌∷◌, Option, Some, None, refl, sym, ◌∙◌, ap, subst, inl, inr, arith}
use Rattle.sd_image.specs.declared.header.Header.{Header}
use Rattle.sd_image.specs.declared.header.Kind.{Kind}
use Rattle.sd_image.specs.Image.{Image, IsImage, gate, image_text}
use Rattle.sd_image.specs.Table.{Listed}
use Rattle.sd_image.specs.Words.{kind_number}
use Rattle.sd_gate.specs.declared.answer.Answer.{Answer}
use Rattle.sd_gate.specs.declared.phase.Phase.{Phase}
use Rattle.sd_gate.specs.Calls.{is_done}
use Rattle.sd_gate.specs.Inspections.{nothing, calls_then}
use Rattle.sd_gate.specs.Phases.{after, body_after}
use Rattle.sd_gate.specs.Plans.{Planned, plan_after}
use Rattle.sd_gate.specs.Requests.{Asked, Made}
use Rattle.sd_gate.specs.Sequences.{Calls}
use Rattle.sd_pagetable.specs.Contents.{Contents}
use Rattle.sd_rounds.specs.declared.image_order.ImageOrder.{ImageOrder}
use Rattle.sd_rounds.specs.declared.stage.Stage.{Stage}
use Rattle.sd_rounds.specs.declared.stage.Stage.TheVariants.{Format, Pass as PassStage, Close}
use Rattle.sd_rounds.specs.Files.{HasAreasIn, IsFiledIn}
use Rattle.sd_rounds.specs.Making.{is_past_freeze, plan_of, stage_after, stage_when_done}
use Rattle.sd_writing.specs.Files.{Pages, image_of}
use Rattle.sd_rounds.specs.Pass.{Pass}
use Rattle.sd_store_laws.specs.Beliefs.{Belief, Closed}
use Rattle.sd_store_laws.specs.Gates.{IsBelievedAs}
use Rattle.sd_crash_safety.specs.DumperOutcomes.{closes_for_sure}
use Rattle.sd_crash_safety.specs.LiveImages.{IsFilledSlot, IsSlotFor}
use Rattle.sd_crash_safety.proofs.HandsSlot.{belief_after, closes_more, formats_last, formats_more, formatted_then}

-- ---- the plan

-- no call follows those that are known
known_calls : (calls : Calls) (answer : Answer) (back : Option (List ℕ)) → (calls_then calls nothing answer back).0 ≡ calls
known_calls calls answer back = grind arith

pub calls_of_done : (plan : Planned) (made : Made) → plan.awaits ≡ nothing → is_done made.answer ≡ true → (plan_after plan made).calls ≡ plan.calls
calls_of_done plan made known done = grind arith

-- ---- what the stage says of the image's file

pub files_after : (kind : Kind) (stage : Stage) (plan : Planned) (calls : Calls) (order : ImageOrder) (pass : Pass) (pages : Pages)
    → IsFiledIn stage order pass pages → IsFiledIn (stage_after kind stage plan calls) order pass pages
files_after kind stage plan calls order pass pages is = grind arith

pub areas_after : (kind : Kind) (stage : Stage) (plan : Planned) (calls : Calls) (cut : Contents) → HasAreasIn stage cut → HasAreasIn (stage_after kind stage plan calls) cut
areas_after kind stage plan calls cut is = grind arith

-- a dump that is frozen now was frozen before
pub was_frozen : (kind : Kind) (stage : Stage) (plan own : Planned) (calls : Calls) → plan_of stage ≡ Some own
    → ((kind_number kind == 2) && is_past_freeze (stage_after kind stage plan calls)) ≡ true → is_past_freeze stage ≡ true
was_frozen kind stage plan own calls was is = grind arith

-- ---- its slot

-- the slot as it is then, and what is believed of it is what its phase says, unless it is closed for sure
pub record SlotGoesOn (stage : Stage) (order : ImageOrder) (pages : Pages) (phase : Phase) (body : List ℕ) (request : Asked) (belief : Belief) (dump : Option Image) : Type 0 where
  pub slot_is : IsSlotFor stage order pages (after phase request.id.call true) (body_after body request.id.call request.bytes) None (belief_after (closes_for_sure phase request.id.call) belief) dump
  pub exact : (belief_after (closes_for_sure phase request.id.call) belief ≡ Closed)
      ⊎ IsBelievedAs (after phase request.id.call true) (body_after body request.id.call request.bytes) (belief_after (closes_for_sure phase request.id.call) belief)

module _ (order : ImageOrder) (pages : Pages) (phase : Phase) (body : List ℕ) (request : Asked) (belief : Belief) (dump : Option Image) (next : Planned) where
  abbrev then_phase : Phase
  then_phase = after phase request.id.call true

  abbrev then_body : List ℕ
  then_body = body_after body request.id.call request.bytes

  abbrev then_belief : Belief
  then_belief = belief_after (closes_for_sure phase request.id.call) belief

  behind_format : (kind : Kind) (own : Planned) → IsSlotFor PassStage order pages then_phase then_body None then_belief dump
      → IsSlotFor (stage_when_done kind (Format own)) order pages then_phase then_body None then_belief dump
  behind_format kind own is = grind arith

  format_goes_on : (own : Planned) (calls : Calls) → next.calls ≡ calls → next.calls ≡ own.calls → next.slot ≡ own.slot → pages ≡ []
      → IsSlotFor (Format own) order pages phase body (Some request) belief dump → SlotGoesOn (stage_after order.kind (Format own) next calls) order pages phase body request belief dump
  format_goes_on own [] none same on empty s = record {
    slot_is = behind_format order.kind own (
      subst (λ p. IsFilledSlot p then_phase then_body then_belief) (sym empty) (formats_last order own next phase body request belief s.0 same on (sym same ∙ none)),
      refl,
      s.1,
    );
    exact = inr (formatted_then order own next phase body request belief s.0 same on);
  }
  format_goes_on own (c ∷ calls) some same on empty s = record {
    slot_is = (formats_more order own next phase body request belief s.0 same on, s.1);
    exact = inr (formatted_then order own next phase body request belief s.0 same on);
  }

  close_goes_on : (own : Planned) (header : Header) (tables : List Listed) (calls : Calls) → next.calls ≡ calls → next.calls ≡ own.calls → next.slot ≡ own.slot → own.calls ≢ []
      → IsImage (gate ∷ image_text (image_of header pages tables)) (image_of header pages tables)
      → IsSlotFor (Close own header tables) order pages phase body (Some request) belief dump
      → SlotGoesOn (stage_after order.kind (Close own header tables) next calls) order pages phase body request belief dump
  close_goes_on own header tables [] none same on some spelled s = absurd (some (sym same ∙ none))
  close_goes_on own header tables (c ∷ calls) more same on some spelled s =
      let i = image_of header pages tables in
      let on_it = closes_more order i own next phase body request belief dump s some same on in
      let stays : belief ≡ then_belief = sym (ap (λ b. belief_after b belief) on_it.stays) in
      record {
        slot_is = subst (λ b. IsSlotFor (Close next header tables) order pages then_phase then_body None b dump) stays on_it.closing_is;
        exact = subst (λ b. (b ≡ Closed) ⊎ IsBelievedAs then_phase then_body b) stays (elim on_it.exact [
          | inl closed ↦ inl closed
          | inr opened ↦ inr (subst (λ p. IsBelievedAs p then_body belief) (sym opened.0)
              (i, inr opened.1, subst (λ text. IsImage (gate ∷ text) i) (sym opened.2) spelled))
        ]);
      }

pub hands_slot : (stage : Stage) (order : ImageOrder) (pages : Pages) (phase : Phase) (body : List ℕ) (request : Asked) (belief : Belief) (dump : Option Image) (plan next : Planned)
    → plan_of stage ≡ Some plan → next.calls ≡ plan.calls → next.slot ≡ plan.slot
    → ((own : Planned) → stage ≡ Format own → pages ≡ [])
    → ((own : Planned) (header : Header) (tables : List Listed) → stage ≡ Close own header tables → (plan.calls ≢ []) × IsImage (gate ∷ image_text (image_of header pages tables)) (image_of header pages tables))
    → IsSlotFor stage order pages phase body (Some request) belief dump
    → SlotGoesOn (stage_after order.kind stage next next.calls) order pages phase body request belief dump
hands_slot (Format own) order pages phase body request belief dump plan next was calls on empty closes s =
    format_goes_on order pages phase body request belief dump next own next.calls refl (calls ∙ ap (λ (p : Planned). p.calls) (own_plan was)) (on ∙ ap (λ (p : Planned). p.slot) (own_plan was)) (empty own refl) s
  where
    own_plan : Some own ≡ Some plan → plan ≡ own
    own_plan e = cc
hands_slot (Close own header tables) order pages phase body request belief dump plan next was calls on empty closes s =
    let its = closes own header tables refl in
    close_goes_on order pages phase body request belief dump next own header tables next.calls refl (calls ∙ ap (λ (p : Planned). p.calls) (own_plan was)) (on ∙ ap (λ (p : Planned). p.slot) (own_plan was))
    (λ none. its.0 (ap (λ (p : Planned). p.calls) (own_plan was) ∙ none)) its.1 s
  where
    own_plan : Some own ≡ Some plan → plan ≡ own
    own_plan e = cc
hands_slot _ order pages phase body request belief dump plan next was calls on empty closes s = absurd (let no : None ≡ Some plan = was in cc)

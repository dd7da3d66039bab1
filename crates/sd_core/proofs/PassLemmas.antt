-- A step of the pass, as one of the image in the making.
use Rattle.std.proofs.Common.{◌≡◌, ◌||◌, ℕ, Bool, true, false, not, if◌then◌else◌, is_none, is_some, [], ◌∷◌, Option, None, Some, IfSome, IsSome, slice_get, ◌⊎◌, refl, sym, ◌∙◌, ap, subst, arith}
use Rattle.sd_command.specs.declared.refusal.Refusal.TheVariants as refusal
use Rattle.sd_gate.specs.declared.slot_state.SlotState.{SlotState}
use Rattle.sd_gate.specs.declared.slot_state.SlotState.TheVariants.{Raw}
use Rattle.sd_gate.specs.declared.worker.Worker.TheVariants.{Dumper}
use Rattle.sd_pagetable.specs.Contents.{Contents, plain_of}
use Rattle.sd_rounds.specs.declared.image_step.ImageStep.{ImageStep}
use Rattle.sd_rounds.specs.declared.pass_step.PassStep.{PassStep}
use Rattle.sd_rounds.specs.Dumper.{Dumping, Running, Works, next_slot, serial_of_running, slot_before}
use Rattle.sd_rounds.specs.Making.{Making}
use Rattle.sd_rounds.specs.PassSteps.{NoPageIsNext, Passes}
use Rattle.sd_rounds.specs.PlanSteps.{image_step}
use Rattle.sd_rounds.specs.Waits.{dumper_must_wait}
use Rattle.sd_crash_safety.specs.View.{CoreView}
use Rattle.sd_core.specs.Beginning.{first_of}
use Rattle.sd_core.specs.Called.{HasNoPassStep}
use Rattle.sd_core.specs.Dumping.{PassesOn, StepsOn}
use Rattle.sd_core.specs.Refusals.{is_idle, is_page_out, is_resting, must_wait, must_wait_for_pages, none_at, work_refusal}
use Rattle.sd_core.proofs.GoOnLemmas.{goes_by}

-- the work of a dumper that has an image is a step of that image
module _ (ticket serial : ℕ) (state : SlotState) (old : Dumping) (before : Contents) (step : ImageStep) (new : Dumping) (after : Contents)
    (work : Works serial state ticket old before step new after) where
  on_image : (image : Option Making) → work.running.image ≡ image → slot_before work.running image ≡ None → StepsOn ticket old before step new after
  on_image image is none = grind arith

  pub steps_on : next_slot old.running ≡ None → StepsOn ticket old before step new after
  steps_on none = on_image work.running.image refl (sym (ap next_slot work.was) ∙ none)

-- and so for each step that a pass finds
module _ (old : Dumping) (before : Contents) (new : Dumping) (after : Contents) (none : next_slot old.running ≡ None) where
  pub passes_on : (found : Option PassStep) → IsSome old.running → dumper_must_wait old.running (plain_of before) ≡ false → Passes old before found new after
      → IfSome found (λ step. PassesOn old before step new after)
  passes_on None runs goes passes = tt
  passes_on (Some step) runs goes passes = record {
    runs = runs;
    goes = goes;
    steps = λ ticket. steps_on ticket 0 Raw old before (image_step step) new after (passes 0 Raw ticket) none;
  }

-- the step of a pass that found one
pub step_passed : (old : Dumping) (before : Contents) (new : Dumping) (after : Contents) (found : Option PassStep) (step : PassStep) → found ≡ Some step
    → IfSome found (λ step. PassesOn old before step new after) → PassesOn old before step new after
step_passed old before new after found step is steps = subst (λ f. IfSome f (λ step. PassesOn old before step new after)) is steps

-- the image that made a step has its serial
pub serial_on : {ticket : ℕ} {old : Dumping} {before : Contents} {step : ImageStep} {new : Dumping} {after : Contents} → StepsOn ticket old before step new after → IsSome (serial_of_running new.running)
serial_on on = subst (λ r. IsSome (serial_of_running r)) (sym on.is) refl

-- ---- where a step is refused

not_none : {X : Type 0} (one : Option X) → IsSome one → is_none one ≡ false
not_none one some = grind arith

module _ (core : CoreView) where
  abbrev waits : Bool
  waits = dumper_must_wait core.dumper.running (plain_of core.memory)

  runs_waits : IsSome core.dumper.running → must_wait_for_pages core ≡ waits
  runs_waits runs = ap (λ none. if none then is_page_out core.outs else waits) (not_none core.dumper.running runs)

  -- a dumper that rests, runs and needn't wait isn't refused
  pub not_refused : slice_get core.outs 0 ≡ Some None → IsSome core.dumper.running → waits ≡ false → work_refusal core Dumper ≡ None
  not_refused rests runs goes =
      goes_by core Dumper (ap (λ o. not (none_at o) || must_wait_for_pages core) rests ∙ runs_waits runs ∙ goes) (not_none core.dumper.running runs)

  refused_by : must_wait core Dumper ≡ true → IsSome (work_refusal core Dumper)
  refused_by must = ap (λ b. is_some (first_of ((b, refusal.Busy) ∷ (is_idle core Dumper, refusal.Idle) ∷ []))) must

  -- one of which a request is out is refused
  pub busy_refused : is_resting core.outs Dumper ≡ false → IsSome (work_refusal core Dumper)
  busy_refused busy = refused_by (ap (λ b. not b || must_wait_for_pages core) busy)

  either_waits : (rests : Bool) → (not rests || true) ≡ true
  either_waits rests = grind arith

  -- and so is one that must wait
  pub waiting_refused : waits ≡ true → IsSome (work_refusal core Dumper)
  waiting_refused must = refused_by (ap (λ b. not (is_resting core.outs Dumper) || b) (runs_waits (runs core.dumper.running must) ∙ must) ∙ either_waits (is_resting core.outs Dumper))
    where
      runs : (r : Option Running) → dumper_must_wait r (plain_of core.memory) ≡ true → IsSome r
      runs None must = absurd (let no : false ≡ true = must in cc)
      runs (Some running) must = refl

  -- a pass that finds no step, of a dumper that isn't asked whether it must wait
  pub none_found : ((waits ≡ true) ⊎ NoPageIsNext core.dumper.running core.memory) → HasNoPassStep core
  none_found found = grind arith

  -- where the dumper isn't refused, none is next
  pub none_next : work_refusal core Dumper ≡ None → HasNoPassStep core → NoPageIsNext core.dumper.running core.memory
  none_next free found = grind arith

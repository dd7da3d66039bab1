-- A step of the pass of the image that is being made, made apart from the other steps.
use Rattle.std.specs.Prelude.{◌≡◌, ℕ, Option, Some, None}
use Rattle.sd_gate.specs.declared.slot_state.SlotState.{SlotState}
use Rattle.sd_pagetable.specs.Contents.{Contents}
use Rattle.sd_rounds.specs.declared.pass_step.PassStep.{PassStep}
use Rattle.sd_rounds.specs.Dumper.{Dumping, Running, Works}
use Rattle.sd_rounds.specs.PlanSteps.{HaveNoPage, image_step}

-- the next step of a checkpoint visits no page and copies no sector
abbrev pub NoPageIsNext : Option Running → Contents → Type 0
NoPageIsNext None before = Unit {0}
NoPageIsNext (Some running) before = HaveNoPage running.image before

-- a page is visited or a sector copied, whatever the serial, the slot and the ticket; or that isn't next, and nothing
-- changes
abbrev pub Passes : Dumping → Contents → Option PassStep → Dumping → Contents → Type 0
Passes old before None new after = NoPageIsNext old.running before × (new ≡ old) × (after ≡ before)
Passes old before (Some step) new after =
    (serial : ℕ) (state : SlotState) (ticket : ℕ) → Works serial state ticket old before (image_step step) new after

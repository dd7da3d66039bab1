-- A checkpoint after a step of its pass, and before a step that is none.
use Rattle.std.proofs.Common.{◌≡◌, ℕ, Bool, false, if◌then◌else◌, Option, Some, None, refl, sym, ◌∙◌, ap, subst, arith}
use Rattle.std.specs.Prelude.{MatchOption}
use Rattle.std.specs.Option.{option_map}
use Rattle.sd_gate.specs.declared.slot_state.SlotState.{SlotState}
use Rattle.sd_gate.specs.declared.slot_state.SlotState.TheVariants.{Raw}
use Rattle.sd_pagetable.specs.Contents.{Contents}
use Rattle.sd_rounds.specs.declared.checkpoint.Checkpoint.{Checkpoint}
use Rattle.sd_rounds.specs.declared.pass_step.PassStep.{PassStep}
use Rattle.sd_rounds.specs.Dumper.{AreRunning, Dumping, IsRunning, Running, Works, WorksOn, freezes, running_of}
use Rattle.sd_rounds.specs.PlanSteps.{HaveNoPage, image_step}
use Rattle.sd_rounds.specs.PassSteps.{NoPageIsNext, Passes}
use Rattle.sd_rounds.proofs.DumperLemmas.{works_running}

-- what a step of the pass did, if there was one, and what holds where there was none
abbrev pub Found : Running → Contents → Running → Contents → Option PassStep → Type 0
Found old before new after found = MatchOption found
    (HaveNoPage old.image before × (new ≡ old) × (after ≡ before))
    (λ step. (serial : ℕ) (state : SlotState) (ticket : ℕ) → WorksOn serial state ticket old before (image_step step) new after)

module _ (old new : Running) (before after : Contents) (found : Option PassStep) (is : Found old before new after found) where
  pub step_at : (serial : ℕ) (state : SlotState) (ticket : ℕ) (some step : PassStep) → found ≡ Some some → some ≡ step → WorksOn serial state ticket old before (image_step step) new after
  step_at serial state ticket some step e f = grind arith

  pub same_at : found ≡ None → new ≡ old
  same_at e = (subst (λ (o : Option PassStep). Found old before new after o) e is).1

pub its_running : (since : ℕ) (own : Option Checkpoint) (checkpoint : Checkpoint) → AreRunning since (option_map running_of own) → own ≡ Some checkpoint → IsRunning since (running_of checkpoint)
its_running since own checkpoint are is = subst (λ (o : Option Checkpoint). AreRunning since (option_map running_of o)) is are

pub still_running : (since : ℕ) (old new : Running) → new ≡ old → IsRunning since old → IsRunning since new
still_running since old new same is = subst (λ (r : Running). IsRunning since r) (sym same) is

freezes_not : (step : PassStep) → freezes (image_step step) ≡ false
freezes_not step = grind arith

-- the checkpoint runs on after a step of its pass, and where none was next
pub found_running : (since : ℕ) (old new : Running) (before after : Contents) (found : Option PassStep) → Found old before new after found → IsRunning since old → IsRunning since new
found_running since old new before after None is running = still_running since old new is.1 running
found_running since old new before after (Some step) is running =
    subst (λ (b : Bool). IsRunning (if b then 0 else since) new) (freezes_not step)
    (works_running since 0 Raw 0 old new before after (image_step step) running (is 0 Raw 0))

-- and the dumper with it
pub found_passes : (since : ℕ) (old new : Running) (dumping : Dumping) (before after : Contents) (found : Option PassStep)
    → ◌≡◌ {A = Dumping} (record { running = Some old; since_freeze = since }) dumping → Found old before new after found
    → Passes dumping before found (record { running = Some new; since_freeze = since }) after
found_passes since old new dumping before after None view is =
    (subst (λ (d : Dumping). NoPageIsNext d.running before) view is.0, ap (λ (r : Running). record { running = Some r; since_freeze = since }) is.1 ∙ view, is.2)
found_passes since old new dumping before after (Some step) view is = λ serial state ticket.
    subst (λ (d : Dumping). Works serial state ticket d before (image_step step) (record { running = Some new; since_freeze = since }) after) view
    (record {
      running = old;
      was = refl;
      next = new;
      works = is serial state ticket;
      is = ap (λ (b : Bool). record { running = Some new; since_freeze = if b then 0 else since }) (sym (freezes_not step));
    })

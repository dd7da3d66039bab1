-- The dumper of a core.
use Rattle.std.specs.Prelude.{◌≡◌, ℕ, ◌+◌, false, if◌then◌else◌, Option, Some, None, IsSome}
use Rattle.sd_chain.specs.Catalog.{Changes, IsHeld, Places}
use Rattle.sd_gate.specs.declared.slot_state.SlotState.{SlotState}
use Rattle.sd_gate.specs.Requests.{Asked}
use Rattle.sd_journal.specs.Kept.{JournalView}
use Rattle.sd_pagetable.specs.Contents.{Contents, plain_of}
use Rattle.sd_rounds.specs.declared.image_step.ImageStep.{ImageStep}
use Rattle.sd_rounds.specs.declared.image_step.ImageStep.TheVariants.{Call, PageCall, TableCall, Frozen, Visited}
use Rattle.sd_rounds.specs.declared.image_step.ImageStep.TheVariants.{Copied}
use Rattle.sd_rounds.specs.Dumper.{Dumping, Running, freezes, order_of}
use Rattle.sd_rounds.specs.declared.pass_step.PassStep.{PassStep}
use Rattle.sd_rounds.specs.Making.{Making, Steps, begun_image}
use Rattle.sd_rounds.specs.PlanSteps.{image_step}
use Rattle.sd_rounds.specs.Waits.{dumper_must_wait}

-- the next image begins, and asks for the first call of its slot's format
pub record BeginsNext (serial : ℕ) (state : SlotState) (ticket : ℕ) (old : Dumping) (before : Contents)
    (request : Asked) (new : Dumping) (after : Contents) : Type 0 where
  pub running : Running
  pub was : old.running ≡ Some running
  pub none : running.image ≡ None
  pub next : Making
  pub steps : Steps ticket (begun_image (order_of running serial state)) before (Call request) next after
  pub is : new.running ≡ Some (record running { image = Some next })
  pub counted : new.since_freeze ≡ old.since_freeze

-- a step of the image in the making
pub record StepsOn (ticket : ℕ) (old : Dumping) (before : Contents) (step : ImageStep) (new : Dumping)
    (after : Contents) : Type 0 where
  pub running : Running
  pub was : old.running ≡ Some running
  pub image : Making
  pub making : running.image ≡ Some image
  pub next : Making
  pub steps : Steps ticket image before step next after
  pub is : new.running ≡ Some (record running { image = Some next })
  pub counted : new.since_freeze ≡ (if freezes step then 0 else old.since_freeze)

-- a pass found this step: the checkpoint awaits no outcome, and its image made the step, whatever the ticket
pub record PassesOn (old : Dumping) (before : Contents) (step : PassStep) (new : Dumping)
    (after : Contents) : Type 0 where
  pub runs : IsSome old.running
  pub goes : dumper_must_wait old.running (plain_of before) ≡ false
  pub steps : (ticket : ℕ) → StepsOn ticket old before (image_step step) new after

-- a step that visits no page and copies no sector
abbrev pub IsNoPassStep : ImageStep → Type 0
IsNoPassStep (Call request) = Unit {0}
IsNoPassStep (PageCall lane request) = Unit {0}
IsNoPassStep (TableCall request) = Unit {0}
IsNoPassStep Frozen = Unit {0}
IsNoPassStep (Visited visit) = ⊥
IsNoPassStep (Copied copied) = ⊥

-- the held entries with a running checkpoint's: where it is pending its own serves
abbrev pub with_two : Option ℕ → ℕ → ℕ
with_two None held = held + 2
with_two (Some n) held = held

pub record LetsGoOfTwo (pending : Option ℕ) (old new : JournalView) : Type 0 where
  pub first : new.first ≡ old.first
  pub items : new.items ≡ old.items
  pub limit : new.limit ≡ old.limit
  pub held : with_two pending new.held ≡ old.held

-- the place that was held for a serial is held no more
abbrev pub ReleasesHeld : ℕ → Places → Places → Type 0
ReleasesHeld serial old new = (IsHeld old serial → Changes old new serial None) × ((IsHeld old serial → ⊥) → new ≡ old)

abbrev pub ReleasesPlace : Option ℕ → Places → Places → Type 0
ReleasesPlace None old new = new ≡ old
ReleasesPlace (Some serial) old new = ReleasesHeld serial old new

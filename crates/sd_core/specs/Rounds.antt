-- The images of a checkpoint that runs: which of them are open, and that their slots stay so.
use Rattle.std.specs.Prelude.{◌≡◌, ◌⊎◌, ℕ, ◌+◌, ◌<◌, ◌≤◌, List, get_or, length, Option, Some, IfSome, slice_get}
use Rattle.sd_chain.specs.Catalog.{Opened, Places}
use Rattle.sd_command.specs.declared.reply.Reply.{Reply}
use Rattle.sd_command.specs.declared.reply.Reply.TheVariants as reply
use Rattle.sd_gate.specs.declared.phase.Phase.TheVariants.{Whole}
use Rattle.sd_gate.specs.declared.request_id.RequestId.{RequestId}
use Rattle.sd_gate.specs.Calls.{IsLook}
use Rattle.sd_gate.specs.Requests.{Asked}
use Rattle.sd_rounds.specs.Dumper.{Running, slot_of}
use Rattle.sd_crash_safety.specs.declared.standing.Standing.TheVariants.{Open}
use Rattle.sd_crash_safety.specs.Believes.{Believes}
use Rattle.sd_crash_safety.specs.Calls.{IsFree}
use Rattle.sd_crash_safety.specs.View.{CoreView}
use Rattle.sd_core.specs.Images.{HasImage, begun_as}
use Rattle.sd_core.specs.LittleWork.{OpensPreDump}

-- the checkpoint that began goes on, with as many images open as before
pub record IsSameRound (old new : Running) : Type 0 where
  pub job : begun_as new ≡ begun_as old
  pub opened : new.opened ≡ old.opened
  pub parent : new.parent ≡ old.parent

-- it goes on with one image more, which the next names as its parent
pub record IsNextRound (old new : Running) (places : Places) : Type 0 where
  pub job : begun_as new ≡ begun_as old
  pub opened : new.opened ≡ old.opened + 1
  pub image : Opened
  pub has : HasImage old places image
  pub parent : new.parent ≡ image.header.serial

-- a checkpoint that runs after a step ran before it, and the step opens none of its images
abbrev pub SameRound : Option Running → Option Running → Type 0
SameRound old new = IfSome new (λ next. (running : Running) × (old ≡ Some running) × IsSameRound running next)

-- one that runs after an outcome ran before it, and the outcome opens one image at most
abbrev pub TurnsRound : Option Running → Option Running → Places → Type 0
TurnsRound old new places = IfSome new
    (λ next. (running : Running) × (old ≡ Some running) × (IsSameRound running next ⊎ IsNextRound running next places))

-- the gate of a slot is open, in an open store, and no request is out on it
pub record IsOpenAt (core : CoreView) (slot : ℕ) : Type 0 where
  pub stands : core.standing ≡ Open
  pub whole : slice_get core.phases slot ≡ Some Whole
  pub free : IsFree core.outs slot

-- by an outcome the image enters the catalog that the checkpoint made: a pre-dump, or the dump
abbrev pub OpensImage : Running → CoreView → Reply → CoreView → Type 0
OpensImage running old answer new =
    OpensPreDump running old new ⊎ ((old.dumper.running ≡ Some running) × ((n : ℕ) × (answer ≡ reply.Acked n)))

-- where the store is as it is believed to be, the gate of its slot is open then
abbrev pub OpensItsGate : CoreView → ℕ → Asked → Reply → CoreView → Type 0
OpensItsGate old lane request answer new =
    (running : Running) (asked : List (Option Asked)) (bodies files : List (List ℕ)) → OpensImage running old answer new
    → slice_get asked lane ≡ Some (Some request) → Believes old asked bodies files → IsOpenAt new (slot_of running)

-- no more images of a checkpoint are open than it has pre-dumps
abbrev pub HasFewOpen : Option Running → Type 0
HasFewOpen running = IfSome running (λ r. r.opened ≤ length r.pre_dumps)

-- Where the store is as it is believed to be, what is out on the slot of a pre-dump that is open only looks
abbrev pub LeavesPreDumps : CoreView → Type 0
LeavesPreDumps core = (running : Running) (place : ℕ) (asked : List (Option Asked)) (bodies files : List (List ℕ))
    → core.dumper.running ≡ Some running → place < running.opened
    → Believes core asked bodies files → (lane : ℕ) (id : RequestId) → slice_get core.outs lane ≡ Some (Some id)
    → id.slot ≡ get_or running.pre_dumps place running.dump
    → IsLook id.call

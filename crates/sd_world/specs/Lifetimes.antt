-- How long an image stays in its slot over a run.
use Rattle.std.specs.Prelude.{◌≡◌, ◌⊎◌, ℕ, List, ◌++◌}
use Rattle.sd_chain.specs.Catalog.{Opened}
use Rattle.sd_command.specs.declared.reply.Reply.{Reply}
use Rattle.sd_disk.specs.declared.disk.Disk.{Ghosts}
use Rattle.sd_crash_safety.specs.declared.standing.Standing.TheVariants.{Open}
use Rattle.sd_world.specs.declared.event.Event.{Event}
use Rattle.sd_world.specs.Acked.{IsThere}
use Rattle.sd_world.specs.Runs.{Runs}
use Rattle.sd_world.specs.Stays.{IsTaken}
use Rattle.sd_world.specs.View.{WorldView}

-- At a point of a run, which these events and answers lead to, a job has a slot.
pub record TakenWithin {D : Type 0} (g : Ghosts D) (first : WorldView D) (events : List Event) (answers : List Reply)
    (last : WorldView D) (slot : ℕ) : Type 0 where
  pub before : List Event
  pub told : List Reply
  pub mid : WorldView D
  pub there : Runs g first before told mid
  pub after : List Event
  pub more : List Reply
  pub goes_on : Runs g mid after more last
  pub events_are : events ≡ before ++ after
  pub answers_are : answers ≡ told ++ more
  pub taken : IsTaken mid.core slot

-- An image that stands in its slot as a run begins in an open store stands there at its end, or a job had the slot at a
-- point of the run: the events and answers up to there say which, a checkpoint that was begun or a merge.
abbrev pub ImagesStay : {D : Type 0} → Ghosts D → WorldView D → Type 0
ImagesStay {D} g first = first.core.standing ≡ Open → (events : List Event) (answers : List Reply) (last : WorldView D)
    → Runs g first events answers last → g.is_honest last.disk
    → (image : Opened) → IsThere (g.contents first.disk) image
    → IsThere (g.contents last.disk) image ⊎ TakenWithin g first events answers last image.slot

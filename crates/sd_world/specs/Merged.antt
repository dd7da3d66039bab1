-- How a merge ends over a run: its image entered the catalog at one of the events, and stands since.
use Rattle.std.specs.Prelude.{◌≡◌, ℕ, List, [], ◌∷◌, ◌++◌}
use Rattle.sd_command.specs.declared.reply.Reply.{Reply}
use Rattle.sd_command.specs.declared.reply.Reply.TheVariants as reply
use Rattle.sd_disk.specs.declared.disk.Disk.{Ghosts}
use Rattle.sd_merge.specs.Merger as merger
use Rattle.sd_merge.specs.Merger.{Retiring, list_of, retiring}
use Rattle.sd_crash_safety.specs.View.{CoreView}
use Rattle.sd_core.specs.Merging.{OpensMerged}
use Rattle.sd_world.specs.declared.event.Event.{Event}
use Rattle.sd_world.specs.Closing.{MergeCloses}
use Rattle.sd_world.specs.Merges.{AreCutThere, IsMergedThere}
use Rattle.sd_world.specs.Runs.{IsStep, Runs}
use Rattle.sd_world.specs.View.{WorldView}

-- At one of a run's events the image of this serial entered the catalog, in this slot; it stands there at the end of
-- the run.
pub record EnteredWithin {D : Type 0} (g : Ghosts D) (first : WorldView D) (events : List Event) (answers : List Reply)
    (last : WorldView D) (slot serial : ℕ) : Type 0 where
  pub before : List Event
  pub told : List Reply
  pub mid : WorldView D
  pub there : Runs g first before told mid
  pub event : Event
  pub answer : Reply
  pub next : WorldView D
  pub enters : IsStep g event mid answer next
  pub after : List Event
  pub more : List Reply
  pub goes_on : Runs g next after more last
  pub events_are : events ≡ before ++ event ∷ after
  pub answers_are : answers ≡ told ++ answer ∷ more
  pub merge : merger.Running
  pub opens : OpensMerged merge serial mid.core next.core
  pub in_slot : merge.slot ≡ slot
  pub stands : IsMergedThere (g.contents last.disk) mid.core.catalog merge serial

-- no merge closes images
abbrev pub ClosesNone : CoreView → Type 0
ClosesNone core = (slot serial : ℕ) → MergeCloses core slot serial → ⊥

-- where a merge has ended, its image stands, and the images of its list are closed and cut
pub record HasMerged {D : Type 0} (g : Ghosts D) (first : WorldView D) (events : List Event) (answers : List Reply)
    (last end : WorldView D) (serial : ℕ) : Type 0 where
  pub slot : ℕ
  pub entered : EnteredWithin g first events answers end slot serial
  pub cut : AreCutThere (g.contents end.disk) (list_of last.core.merger)

-- So it is after each event of a run that is answered `merged`, where the disk is honest and none closed images as the
-- run began.
abbrev pub MergesStand : {D : Type 0} → Ghosts D → Type 0
MergesStand {D} g = (first last end : WorldView D) (events : List Event) (answers : List Reply) (event : Event)
    (serial : ℕ) → ClosesNone first.core
    → Runs g first events answers last → IsStep g event last (reply.Merged serial) end → g.is_honest end.disk
    → HasMerged g first (events ++ event ∷ []) (answers ++ reply.Merged serial ∷ []) last end serial

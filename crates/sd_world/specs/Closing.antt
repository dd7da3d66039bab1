-- Merges that close images, from event to event.
use Rattle.std.specs.Prelude.{◌≡◌, ◌⊎◌, ℕ, Some}
use Rattle.sd_command.specs.declared.reply.Reply.{Reply}
use Rattle.sd_command.specs.declared.reply.Reply.TheVariants as reply
use Rattle.sd_disk.specs.declared.disk.Disk.{Ghosts}
use Rattle.sd_merge.specs.Merger as merger
use Rattle.sd_merge.specs.Merger.{Retiring, list_of, retiring}
use Rattle.sd_crash_safety.specs.View.{CoreView}
use Rattle.sd_core.specs.Merging.{OpensMerged}
use Rattle.sd_world.specs.Merges.{AreCutThere, IsMergedThere}
use Rattle.sd_world.specs.View.{WorldView}

-- a merge closes images; its own image, of this serial, is in this slot
pub record MergeCloses (core : CoreView) (slot serial : ℕ) : Type 0 where
  pub merge : merger.Running
  pub r : Retiring
  pub runs : core.merger ≡ Some merge
  pub doing : merge.doing ≡ retiring r
  pub in_slot : merge.slot ≡ slot
  pub own : r.serial ≡ serial

-- by an event the image of this serial enters the catalog, in this slot, as a copy of what its merge repeats
pub record EntersIn {D : Type 0} (g : Ghosts D) (old new : WorldView D) (slot serial : ℕ) : Type 0 where
  pub merge : merger.Running
  pub opens : OpensMerged merge serial old.core new.core
  pub in_slot : merge.slot ≡ slot
  pub stands : IsMergedThere (g.contents new.disk) old.core.catalog merge serial

-- it did so before, or its image enters
abbrev pub ComesToClose : {D : Type 0} → Ghosts D → WorldView D → WorldView D → ℕ → ℕ → Type 0
ComesToClose g old new slot serial = MergeCloses old.core slot serial ⊎ EntersIn g old new slot serial

-- a merge that closes images after an event came to it so
abbrev pub ClosesAfter : {D : Type 0} → Ghosts D → WorldView D → WorldView D → Type 0
ClosesAfter g old new = (slot serial : ℕ) → MergeCloses new.core slot serial → ComesToClose g old new slot serial

-- and so did one that ends with it; each slot of its list then has a file of one byte, with a closed gate
pub record EndsIn {D : Type 0} (g : Ghosts D) (old new : WorldView D) (serial : ℕ) : Type 0 where
  pub slot : ℕ
  pub comes : ComesToClose g old new slot serial
  pub cut : AreCutThere (g.contents new.disk) (list_of old.core.merger)

abbrev pub EndsAfter : {D : Type 0} → Ghosts D → WorldView D → Reply → WorldView D → Type 0
EndsAfter g old answer new = (serial : ℕ) → answer ≡ reply.Merged serial → EndsIn g old new serial

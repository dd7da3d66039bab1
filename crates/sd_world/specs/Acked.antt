-- The images of a checkpoint, in the contents of a disk.
use Rattle.std.specs.Prelude.{◌≡◌, ℕ, zero, suc, true, List, length, IfSome, Some}
use Rattle.sd_chain.specs.Catalog.{Opened, Places}
use Rattle.sd_chain.specs.Recorded.{IsRecordedAs}
use Rattle.sd_command.specs.declared.reply.Reply.{Reply}
use Rattle.sd_command.specs.declared.reply.Reply.TheVariants as reply
use Rattle.sd_disk.specs.Contents.{file_at}
use Rattle.sd_disk.specs.declared.disk.Disk.{Ghosts}
use Rattle.sd_image.specs.Image.{Image, IsImage}
use Rattle.sd_rounds.specs.Dumper.{Running, is_last}
use Rattle.sd_crash_safety.specs.declared.standing.Standing.TheVariants.{Open}
use Rattle.sd_core.specs.Images.{HasImage, IsPreDump, begun_as}
use Rattle.sd_world.specs.declared.event.Event.{Event}
use Rattle.sd_world.specs.declared.event.Event.TheVariants.{Command, Begin, Work, TakeUp, HandInAt, Perform, PerformAt}
use Rattle.sd_world.specs.declared.event.Event.TheVariants.{Merge, Cancel, Reopen, Trim}
use Rattle.sd_world.specs.Consistent.{IsWorld}
use Rattle.sd_world.specs.View.{WorldView}

-- an image of a catalog stands in its slot of these contents
pub record IsThere (contents : List (List ℕ)) (opened : Opened) : Type 0 where
  pub image : Image
  pub told : IsRecordedAs opened image
  pub stands : IsImage (file_at contents opened.slot) image

-- So many pre-dumps of a checkpoint are in the catalog and stand in their slots, the last of them under this serial:
-- each names the one before as its parent, and the first what the checkpoint began with.
abbrev pub ArePreDumpsThere : List (List ℕ) → Running → Places → ℕ → ℕ → Type 0
ArePreDumpsThere contents job places zero serial = serial ≡ job.first
ArePreDumpsThere contents job places (suc place) serial =
    (image : Opened) × IsPreDump job places place serial image × IsThere contents image
    × ArePreDumpsThere contents job places place image.header.parent

-- those so far of the checkpoint that runs
abbrev pub HasPreDumpsThere : {D : Type 0} → Ghosts D → WorldView D → Type 0
HasPreDumpsThere g world = IfSome world.core.dumper.running (λ running.
    ArePreDumpsThere (g.contents world.disk) (begun_as running) world.core.catalog running.opened running.parent)

-- what is so of every world: where the disk is honest they stand
pub record IsWorldThere {D : Type 0} (g : Ghosts D) (world : WorldView D) : Type 0 where
  pub is : IsWorld g world
  pub pre_dumps : g.is_honest world.disk → HasPreDumpsThere g world

-- After the acknowledgement of n its dump and all its pre-dumps stand in their slots, and the store is open: the dump
-- names the last pre-dump as its parent.
pub record IsAckedThere {D : Type 0} (g : Ghosts D) (n : ℕ) (old new : WorldView D) : Type 0 where
  pub running : Running
  pub was : old.core.dumper.running ≡ Some running
  pub number : n ≡ running.number
  pub last : is_last running ≡ true
  pub stands : new.core.standing ≡ Open
  pub dump : Opened
  pub has : HasImage running new.core.catalog dump
  pub there : IsThere (g.contents new.disk) dump
  pub pre_dumps : ArePreDumpsThere (g.contents new.disk) (begun_as running) new.core.catalog
      (length running.pre_dumps) dump.header.parent

abbrev pub AcksThere : {D : Type 0} → Ghosts D → WorldView D → Reply → WorldView D → Type 0
AcksThere g old answer new = (n : ℕ) → answer ≡ reply.Acked n → IsAckedThere g n old new

-- No other event acknowledges.
abbrev pub DoesAck : {D : Type 0} → Ghosts D → Event → WorldView D → Reply → WorldView D → Type 0
DoesAck g (Command seat command) old answer new = Unit {0}
DoesAck g (Begin rounds) old answer new = Unit {0}
DoesAck g (Work worker) old answer new = AcksThere g old answer new
DoesAck g (TakeUp worker) old answer new = AcksThere g old answer new
DoesAck g (HandInAt worker place) old answer new = AcksThere g old answer new
DoesAck g (Perform worker) old answer new = Unit {0}
DoesAck g (PerformAt worker place) old answer new = Unit {0}
DoesAck g Merge old answer new = Unit {0}
DoesAck g Cancel old answer new = Unit {0}
DoesAck g Reopen old answer new = Unit {0}
DoesAck g Trim old answer new = Unit {0}

-- What the events of a merge make of the contents of a disk.
use Rattle.std.specs.Prelude.{◌≡◌, ◌≢◌, ℕ, List, length, Contains, Some}
use Rattle.sd_command.specs.declared.reply.Reply.{Reply}
use Rattle.sd_command.specs.declared.reply.Reply.TheVariants as reply
use Rattle.sd_chain.specs.Catalog.{Places}
use Rattle.sd_disk.specs.Contents.{file_at}
use Rattle.sd_disk.specs.declared.disk.Disk.{Ghosts}
use Rattle.sd_gate.specs.declared.worker.Worker.{Worker}
use Rattle.sd_gate.specs.declared.worker.Worker.TheVariants.{Merger}
use Rattle.sd_gate.specs.Fits.{IsClosed}
use Rattle.sd_image.specs.Image.{Image, IsImage}
use Rattle.sd_merge.specs.declared.retired.Retired.{Retired}
use Rattle.sd_merge.specs.Merger as merger
use Rattle.sd_merge.specs.Merger.{Retiring, list_of, retiring}
use Rattle.sd_store_laws.specs.Makers.{IsMergedOf}
use Rattle.sd_crash_safety.specs.Copies.{AreImagesOf}
use Rattle.sd_core.specs.Merging.{OpensMerged}
use Rattle.sd_world.specs.declared.call_state.CallState.TheVariants as its
use Rattle.sd_world.specs.declared.event.Event.{Event}
use Rattle.sd_world.specs.declared.event.Event.TheVariants.{Command, Begin, Work, TakeUp, HandInAt, Perform, PerformAt}
use Rattle.sd_world.specs.declared.event.Event.TheVariants.{Merge, Cancel, Reopen, Trim}
use Rattle.sd_world.specs.View.{IsAt, WorldView}

-- The merged image is open in the merge's slot of these contents: it has the checkpoint, the number and the areas of
-- its source, no page in a parent, and at each page what the source held among the images of the catalog as it was.
pub record IsMergedThere (contents : List (List ℕ)) (places : Places) (merge : merger.Running)
    (serial : ℕ) : Type 0 where
  pub images : List Image
  pub are : AreImagesOf places images
  pub source : Image
  pub its_serial : source.header.serial ≡ merge.source.serial
  pub copy : Image
  pub own : copy.header.serial ≡ serial
  pub stands : IsImage (file_at contents merge.slot) copy
  pub copies : IsMergedOf images source copy

-- each of these slots has a file of one byte, with a closed gate
abbrev pub AreCutThere : List (List ℕ) → List Retired → Type 0
AreCutThere contents list = (one : Retired) → Contains list one
    → IsClosed (file_at contents one.slot) × (length (file_at contents one.slot) ≡ 1)

-- What a worker's event makes of a merge, where it hands in the outcome at this place.
pub record MergesThere {D : Type 0} (g : Ghosts D) (worker : Worker) (place : ℕ) (old : WorldView D) (answer : Reply)
    (new : WorldView D) : Type 0 where
  -- after the merger's outcome with which the merged image enters the catalog
  pub enters : (lane : ℕ) → worker ≡ Merger → IsAt old.kept its.Made worker place lane
      → (merge : merger.Running) (serial : ℕ)
      → OpensMerged merge serial old.core new.core → IsMergedThere (g.contents new.disk) old.core.catalog merge serial
  -- at the end the images of its list are closed
  pub cuts : (serial : ℕ) → answer ≡ reply.Merged serial → AreCutThere (g.contents new.disk) (list_of old.core.merger)

-- No other event ends a merge.
abbrev pub DoesMerge : {D : Type 0} → Ghosts D → Event → WorldView D → Reply → WorldView D → Type 0
DoesMerge g (Command seat command) old answer new = Unit {0}
DoesMerge g (Begin rounds) old answer new = Unit {0}
DoesMerge g (Work worker) old answer new = MergesThere g worker 0 old answer new
DoesMerge g (TakeUp worker) old answer new = (serial : ℕ) → answer ≢ reply.Merged serial
DoesMerge g (HandInAt worker place) old answer new = MergesThere g worker place old answer new
DoesMerge g (Perform worker) old answer new = Unit {0}
DoesMerge g (PerformAt worker place) old answer new = Unit {0}
DoesMerge g Merge old answer new = Unit {0}
DoesMerge g Cancel old answer new = Unit {0}
DoesMerge g Reopen old answer new = Unit {0}
DoesMerge g Trim old answer new = Unit {0}

-- while a merge closes images, the file of its own slot stays as it is
abbrev pub KeepsMerged : {D : Type 0} → Ghosts D → WorldView D → WorldView D → Type 0
KeepsMerged g old new =
    (merge : merger.Running) (r : Retiring) → old.core.merger ≡ Some merge → merge.doing ≡ retiring r
    → file_at (g.contents new.disk) merge.slot ≡ file_at (g.contents old.disk) merge.slot

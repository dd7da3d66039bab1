-- What stands on the disk as a merge's image enters the catalog: its source with all that this reaches, and the images
-- that it is to close.
use Rattle.std.specs.Prelude.{◌≡◌, ◌⊎◌, ℕ, false, List, Contains, Some}
use Rattle.sd_chain.specs.Catalog.{Opened, Places, place_of}
use Rattle.sd_disk.specs.Contents.{file_at}
use Rattle.sd_disk.specs.declared.disk.Disk.{Ghosts}
use Rattle.sd_gate.specs.declared.worker.Worker.{Worker}
use Rattle.sd_gate.specs.declared.worker.Worker.TheVariants.{Merger}
use Rattle.sd_image.specs.Image.{Image, IsImage, is_open}
use Rattle.sd_merge.specs.declared.retired.Retired.{Retired}
use Rattle.sd_merge.specs.Merger as merger
use Rattle.sd_merge.specs.Merger.{list_of}
use Rattle.sd_store_laws.specs.Reached.{Reaches}
use Rattle.sd_crash_safety.specs.View.{CoreView}
use Rattle.sd_core.specs.Merging.{OpensMerged, RetiresThese, opened_merge}
use Rattle.sd_world.specs.declared.call_state.CallState.TheVariants as its
use Rattle.sd_world.specs.declared.event.Event.{Event}
use Rattle.sd_world.specs.declared.event.Event.TheVariants.{Command, Begin, Work, TakeUp, HandInAt, Perform, PerformAt}
use Rattle.sd_world.specs.declared.event.Event.TheVariants.{Merge, Cancel, Reopen, Trim}
use Rattle.sd_world.specs.Acked.{IsThere}
use Rattle.sd_world.specs.Merges.{IsMergedThere}
use Rattle.sd_world.specs.View.{IsAt, WorldView}

-- the image stands in a slot of these contents
pub record StandsOn (contents : List (List ℕ)) (i : Image) : Type 0 where
  pub slot : ℕ
  pub stands : IsImage (file_at contents slot) i

-- An image of a list is in the catalog, and stands in its slot of these contents, or the slot's gate is closed, as
-- where a format was cancelled.
pub record IsListedThere (contents : List (List ℕ)) (places : Places) (one : Retired) : Type 0 where
  pub image : Opened
  pub listed : place_of places one.serial ≡ Some (Some image)
  pub slot : image.slot ≡ one.slot
  pub there : IsThere contents image ⊎ (is_open (file_at contents one.slot) ≡ false)

-- The merged image is there, and so are the images that it was read from: its source, and each that this reaches. So it
-- has at each page what they hold on the disk. The list of the images to close has exactly those that were in the
-- catalog as the merge began, and are there, that nobody needs, in slots that no job has.
pub record EntersStored (contents : List (List ℕ)) (merge : merger.Running) (serial : ℕ)
    (old new : CoreView) : Type 0 where
  pub there : IsMergedThere contents old.catalog merge serial
  pub stored : (i : Image) → Reaches there.images i there.source → StandsOn contents i
  pub closes : RetiresThese (opened_merge merge serial) new (list_of new.merger)
  pub each : (one : Retired) → Contains (list_of new.merger) one → IsListedThere contents new.catalog one

-- so it is after the merger's outcome at this place with which the merged image enters the catalog
abbrev pub CopiesStored : {D : Type 0} → Ghosts D → Worker → ℕ → WorldView D → WorldView D → Type 0
CopiesStored g worker place old new =
    (lane : ℕ) → worker ≡ Merger → IsAt old.kept its.Made worker place lane → (merge : merger.Running) (serial : ℕ)
    → OpensMerged merge serial old.core new.core → EntersStored (g.contents new.disk) merge serial old.core new.core

-- No other event hands in an outcome.
abbrev pub DoesCopy : {D : Type 0} → Ghosts D → Event → WorldView D → WorldView D → Type 0
DoesCopy g (Command seat command) old new = Unit {0}
DoesCopy g (Begin rounds) old new = Unit {0}
DoesCopy g (Work worker) old new = CopiesStored g worker 0 old new
DoesCopy g (TakeUp worker) old new = Unit {0}
DoesCopy g (HandInAt worker place) old new = CopiesStored g worker place old new
DoesCopy g (Perform worker) old new = Unit {0}
DoesCopy g (PerformAt worker place) old new = Unit {0}
DoesCopy g Merge old new = Unit {0}
DoesCopy g Cancel old new = Unit {0}
DoesCopy g Reopen old new = Unit {0}
DoesCopy g Trim old new = Unit {0}

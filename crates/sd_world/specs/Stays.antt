-- How long a file stays as it is: until a job of the core has its slot.
use Rattle.std.specs.Prelude.{◌≡◌, ◌⊎◌, ℕ, List, Contains, Some, slice_get}
use Rattle.sd_disk.specs.Contents.{file_at}
use Rattle.sd_disk.specs.declared.disk.Disk.{Ghosts}
use Rattle.sd_gate.specs.Calls.{IsLook}
use Rattle.sd_gate.specs.Requests.{Asked}
use Rattle.sd_merge.specs.declared.retired.Retired.{Retired}
use Rattle.sd_merge.specs.Copying.{Copying}
use Rattle.sd_merge.specs.Merger as merger
use Rattle.sd_merge.specs.Merger.{copying, list_of}
use Rattle.sd_rounds.specs.Dumper.{Running}
use Rattle.sd_rounds.specs.Making.{Making}
use Rattle.sd_crash_safety.specs.View.{CoreView}
use Rattle.sd_world.specs.declared.kept.Kept.{Kept}
use Rattle.sd_world.specs.declared.kept.Kept.TheVariants.{Request}
use Rattle.sd_world.specs.View.{WorldView}

-- A job has a slot: the checkpoint that runs makes an image there, or a merge does, or a merge closes the image that
-- stands there, which is on its list.
pub data IsTaken (core : CoreView) (slot : ℕ) : Type 0 where
  by_checkpoint : (running : Running) (image : Making) → core.dumper.running ≡ Some running
      → running.image ≡ Some image → image.order.slot ≡ slot → IsTaken core slot
  by_copy : (merge : merger.Running) (copy : Copying) → core.merger ≡ Some merge → merge.doing ≡ copying copy
      → merge.slot ≡ slot → IsTaken core slot
  by_list : (one : Retired) → Contains (list_of core.merger) one → one.slot ≡ slot → IsTaken core slot

-- no request that is kept would change the file of a slot
abbrev pub IsUnasked : List Kept → ℕ → Type 0
IsUnasked kept slot = (lane : ℕ) (request : Asked) → slice_get kept lane ≡ Some (Request request)
    → request.id.slot ≡ slot → IsLook request.id.call

-- by an event the file of such a slot stays, and the slot is such a one after it, or a job has it then
abbrev pub FilesStay : {D : Type 0} → Ghosts D → WorldView D → WorldView D → Type 0
FilesStay g old new = (slot : ℕ) → IsUnasked old.kept slot
    → (file_at (g.contents new.disk) slot ≡ file_at (g.contents old.disk) slot)
    × (IsUnasked new.kept slot ⊎ IsTaken new.core slot)

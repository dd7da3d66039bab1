-- What stays of a merge from one event to the next, and of its image once that is open.
use Rattle.std.specs.Prelude.{◌≡◌, ℕ, List, Option, Some, None, IfSome}
use Rattle.sd_merge.specs.declared.retired.Retired.{Retired}
use Rattle.sd_merge.specs.Merger as merger
use Rattle.sd_merge.specs.Merger.{Doing, Retiring, due, copying, opened, retiring}
use Rattle.sd_crash_safety.specs.Calls.{IsFree}
use Rattle.sd_crash_safety.specs.View.{CoreView}
use Rattle.sd_core.specs.Merging.{IsMergedImage, IsSerialOf}

-- the serial of the merged image and the list of the images to close, once they are fixed
abbrev pub fixed_in : Doing → Option (ℕ × List Retired)
fixed_in due = None
fixed_in (copying copy) = None
fixed_in (opened serial) = None
fixed_in (retiring r) = Some (r.serial, r.list)

-- It repeats the same source into the same slot and knows the same images; its image and its list stay as they were
-- fixed, and the list is fixed after an image that was begun.
pub record IsSameMerge (old new : merger.Running) : Type 0 where
  pub source : new.source ≡ old.source
  pub slot : new.slot ≡ old.slot
  pub before : new.before ≡ old.before
  pub fixed : IfSome (fixed_in old.doing) (λ list. fixed_in new.doing ≡ Some list)
  pub behind : IfSome (fixed_in new.doing) (λ list. IsSerialOf old.doing list.0)

-- a merge that goes on is the one that ran
abbrev pub MergeLasts : CoreView → CoreView → Type 0
MergeLasts old new =
    (merge next : merger.Running) → old.merger ≡ Some merge → new.merger ≡ Some next → IsSameMerge merge next

-- the list is fixed by no step
abbrev pub FixesNoList : CoreView → CoreView → Type 0
FixesNoList old new = (merge next : merger.Running) → old.merger ≡ Some merge → new.merger ≡ Some next
    → fixed_in next.doing ≡ fixed_in merge.doing

-- the merged image stands in the merge's slot, on which no request is out
pub record IsLeftAlone (core : CoreView) (merge : merger.Running) (serial : ℕ) : Type 0 where
  pub image : IsMergedImage merge core.catalog serial
  pub free : IsFree core.outs merge.slot

-- so it is of each merge that closes images
abbrev pub LeavesMerged : CoreView → Type 0
LeavesMerged core = (merge : merger.Running) (r : Retiring) → core.merger ≡ Some merge → merge.doing ≡ retiring r
    → IsLeftAlone core merge r.serial

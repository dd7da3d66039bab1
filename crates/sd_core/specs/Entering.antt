-- The image of a merge enters the catalog before the merge does anything else.
use Rattle.std.specs.Prelude.{◌≡◌, ◌≢◌, Some, None}
use Rattle.sd_command.specs.declared.refusal.Refusal.TheVariants.{StoreDown}
use Rattle.sd_command.specs.declared.reply.Reply.{Reply}
use Rattle.sd_command.specs.declared.reply.Reply.TheVariants as reply
use Rattle.sd_merge.specs.Copying.{Copying}
use Rattle.sd_merge.specs.Merger as merger
use Rattle.sd_merge.specs.Merger.{copying, source_of}
use Rattle.sd_crash_safety.specs.View.{CoreView}
use Rattle.sd_core.specs.Merging.{OpensMerged}

-- a merge that made its image, and repeats its source no more though no call failed, has that image in the catalog
abbrev pub EntersFirst : CoreView → Reply → CoreView → Type 0
EntersFirst old answer new = (merge : merger.Running) (copy : Copying) → old.merger ≡ Some merge
    → merge.doing ≡ copying copy → source_of new.merger ≡ None
    → answer ≢ reply.Refused StoreDown → OpensMerged merge copy.order.serial old new

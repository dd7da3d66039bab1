-- What stays of the images of a core's catalog.
use Rattle.std.specs.Prelude.{◌≡◌, ◌≢◌, ℕ, Option, Some, IfSome}
use Rattle.sd_chain.specs.Catalog.{Opened, Places, place_of}
use Rattle.sd_command.specs.declared.reply.Reply.TheVariants as reply
use Rattle.sd_crash_safety.specs.View.{CoreView}
use Rattle.sd_core.specs.declared.taken.Taken.{Taken}
use Rattle.sd_core.specs.declared.taken.Taken.TheVariants.{Step}
use Rattle.sd_core.specs.Images.{HasPreDumps, begun_as}

-- an image that stays in a catalog stays the same: no serial is given to a second one
abbrev pub KeepsEach : Places → Places → Type 0
KeepsEach old new = (serial : ℕ) (image other : Opened) → place_of old serial ≡ Some (Some image)
    → place_of new serial ≡ Some (Some other) → other ≡ image

abbrev pub KeepsImages : CoreView → CoreView → Type 0
KeepsImages old new = KeepsEach old.catalog new.catalog

-- but where the store was read anew
abbrev pub KeepsImagesOpen : CoreView → Taken → CoreView → Type 0
KeepsImagesOpen old made new = ((m : Option ℕ) → made ≢ Step (reply.Reopened m)) → KeepsImages old new

-- the pre-dumps so far of the checkpoint that runs are in the catalog, each under the number that the next one names as
-- its parent
abbrev pub HasItsPreDumps : CoreView → Type 0
HasItsPreDumps core =
    IfSome core.dumper.running (λ running. HasPreDumps (begun_as running) core.catalog running.opened running.parent)

-- Pages that were taken, with one page more.
use Rattle.std.proofs.Common.{◌≡◌, ◌≢◌, List, [], ◌∷◌, ◌++◌, Option, Some, refl, arith}
use Rattle.sd_image.specs.declared.run.RunKind.{RunKind}
use Rattle.sd_image.specs.declared.run.RunKind.TheVariants.{Parent}
use Rattle.sd_image.specs.declared.table.SpaceTable.{SpaceTable}
use Rattle.sd_image.specs.Runs.{IsSourced}
use Rattle.sd_writing.specs.Entries.{ImageEntry, Place, last_of}
use Rattle.sd_writing.specs.Tables.{IsPushed, listed}
use Rattle.sd_merge.specs.Gathered.{AreCopies}

pub sourced : (kind : RunKind) → kind ≢ Parent → IsSourced 0 kind
sourced kind own e = absurd (own e)

last_put : (before : Option Place) (entries : List ImageEntry) (e : ImageEntry) → last_of before (entries ++ e ∷ []) ≡ Some e.place
last_put before [] e = refl
last_put before (x ∷ entries) e = last_put (Some x.place) entries e

-- with one page more they are such still, and it is the last
pub copies_put : (old new : List SpaceTable) (at : Place) (kind : RunKind) → IsPushed 0 0 (listed old) (listed new) at kind → AreCopies new (Some at)
copies_put old new at kind put = grind (arith, last_put)

-- The entries of an image rise, and so do its visits.
use Rattle.std.specs.Prelude.{◌≡◌, ℕ, Bool, true, false, if◌then◌else◌, List, [], ◌∷◌, Option, Some, None}
use Rattle.sd_image.specs.declared.run.RunKind.{RunKind}
use Rattle.sd_pagetable.specs.Order.{is_above}
use Rattle.sd_pagetable.specs.Tracking.{is_page}
use Rattle.sd_writing.specs.Entries.{ImageEntry, Place, last_of}
use Rattle.sd_rounds.specs.Pass.{Taking, Pass, has_passed, opened, visited, copied_more, dropped}
use Rattle.sd_rounds.specs.Pass.{with_entry}

-- each above the one before
abbrev pub EntriesRise : Option Place → List ImageEntry → Type 0
EntriesRise before [] = Unit {0}
EntriesRise before (entry ∷ entries) =
    (is_above before entry.place.0 entry.place.1 ≡ true) × EntriesRise (Some entry.place) entries

-- the entries rise, the cursor is at the last of them or above it, and a page that is being taken is the one at the
-- cursor
pub record IsRising (pass : Pass) : Type 0 where
  pub rises : EntriesRise None pass.entries
  pub ahead : (at : Place) → has_passed pass.after at ≡ false → is_above (last_of None pass.entries) at.0 at.1 ≡ true
  pub taken : (taking : Taking) → pass.taking ≡ Some taking
      → (pass.after ≡ Some taking.place) × (is_above (last_of None pass.entries) taking.place.0 taking.place.1 ≡ true)

-- in which way entries have a page
abbrev pub kind_at : List ImageEntry → Place → Option RunKind
kind_at [] at = None
kind_at (entry ∷ entries) at =
    if is_page entry.place.0 entry.place.1 at.0 at.1 then Some entry.kind else kind_at entries at

pub record RisesLaws : Type 0 where
  pub opens : (takes_all : Bool) → IsRising (opened takes_all)
  pub visits : (pass : Pass) (at : Place) (soft_dirty : Bool) → pass.taking ≡ None
      → is_above pass.after at.0 at.1 ≡ true → IsRising pass → IsRising (visited pass at soft_dirty)
  pub copies : (pass : Pass) (taking : Taking) (more : List ℕ) → pass.taking ≡ Some taking → IsRising pass
      → IsRising (copied_more pass taking more)
  pub drops : (pass : Pass) → IsRising pass → IsRising (dropped pass)
  pub enters : (pass : Pass) (taking : Taking) (kind : RunKind) → pass.taking ≡ Some taking → IsRising pass
      → IsRising (with_entry pass taking.place kind)
  -- a page above the entries has none
  pub missing : (entries : List ImageEntry) (at : Place) → EntriesRise None entries
      → is_above (last_of None entries) at.0 at.1 ≡ true → kind_at entries at ≡ None

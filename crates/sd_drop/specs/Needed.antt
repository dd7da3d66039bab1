-- Which images the newest checkpoint needs.
use Rattle.std.specs.Prelude.{◌≢◌, ◌⊎◌, ℕ, List, Some}
use Rattle.sd_areas.specs.PlainMemory.{PlainMemory}
use Rattle.sd_image.specs.declared.reason.Reason.{Reason}
use Rattle.sd_image.specs.Image.{Image}
use Rattle.sd_image.specs.Shows.{IsStore, Shows}
use Rattle.sd_restore.specs.Faulty.{IsDamage}
use Rattle.sd_drop.specs.Closing.{closed_at}
use Rattle.sd_drop.specs.Reached.{IsReachedAt}

-- the slot is damaged, and with it counted as closed the contents show no memory
pub record IsMissed (contents : List (List ℕ)) (slot : ℕ) : Type 0 where
  pub reason : Reason
  pub damage : IsDamage contents slot reason
  pub shows_none : (moment : ℕ × PlainMemory) → Shows (closed_at contents slot) (Some moment) → ⊥

-- the newest checkpoint needs the image of a slot, or may need what was there
abbrev pub IsNeeded : List (List ℕ) → ℕ → Type 0
IsNeeded contents slot = IsReachedAt contents slot ⊎ IsMissed contents slot

-- with the slot counted as closed the contents are a store, and the newest checkpoint doesn't need its image
pub record IsUnneeded (contents : List (List ℕ)) (slot : ℕ) : Type 0 where
  pub images : List Image
  pub store : IsStore (closed_at contents slot) images
  pub free : IsNeeded contents slot → ⊥

-- another slot is what a damaged store is reported for: at once, or with the slot counted as closed that was before it
abbrev pub IsDamagedBeside : List (List ℕ) → ℕ → ℕ → Reason → Type 0
IsDamagedBeside contents slot other reason =
    (other ≢ slot) × (IsDamage contents other reason ⊎ IsDamage (closed_at contents slot) other reason)

-- A merge beside an image of the checkpoint that leaves the catalog, or enters it.
use Rattle.std.proofs.Common.{◌≡◌, ◌≢◌, ◌⊎◌, ℕ, ◌==◌, Bool, true, false, not, if◌then◌else◌, Option, Some, None, ◌∙◌, ap, inl, inr, arith}
use Rattle.std.proofs.lemmas.Bool.Decides.{eqb_tells}
use Rattle.sd_chain.specs.Catalog.{Changes, IsHeld, Opened, Places, place_of, without_slot}
use Rattle.sd_crash_safety.specs.DumperOutcomes.{LeavesCatalog}
use Rattle.sd_core.proofs.PreDumpLemmas.{none_held}

-- ---- one leaves

pub left_image : (closed : Bool) (slot : ℕ) (old new : Places) (serial : ℕ) (o : Opened) → LeavesCatalog closed slot old new → o.slot ≢ slot
    → place_of old serial ≡ Some (Some o) → place_of new serial ≡ Some (Some o)
left_image true slot old new serial o leaves differs there =
    leaves serial ∙ ap (without_slot slot) there ∙ ap (λ b. if not b then Some (Some o) else None) elsewhere
  where
    elsewhere : (o.slot == slot) ≡ false
    elsewhere = elim (eqb_tells o.slot slot) [
      | inl same ↦ absurd (differs same.1)
      | inr other ↦ other.0
    ]
left_image false slot old new serial o leaves differs there = ap (λ all. place_of all serial) leaves ∙ there

-- ---- one enters, where its place was held

pub entered_image : (old new : Places) (serial : ℕ) (to : Option (Option Opened)) (other : ℕ) (o : Opened) → Changes old new serial to → IsHeld old serial
    → place_of old other ≡ Some (Some o) → place_of new other ≡ Some (Some o)
entered_image old new serial to other o changes held there = changes other ∙ by (eqb_tells serial other)
  where
    by : (((serial == other) ≡ true) × (serial ≡ other)) ⊎ (((serial == other) ≡ false) × (serial ≢ other)) → (if serial == other then to else place_of old other) ≡ Some (Some o)
    by (inl same) = absurd (none_held old serial o held (ap (place_of old) same.1 ∙ there))
    by (inr differs) = ap (λ b. if b then to else place_of old other) differs.0 ∙ there

pub entered_held : (old new : Places) (serial : ℕ) (to : Option (Option Opened)) (other : ℕ) → Changes old new serial to → serial ≢ other → IsHeld old other → IsHeld new other
entered_held old new serial to other changes differs held = grind arith

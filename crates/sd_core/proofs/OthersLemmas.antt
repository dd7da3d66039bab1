-- What a call leaves beside the job that it is made for.
use Rattle.std.proofs.Common.{◌≡◌, ℕ, ◌&&◌, Bool, true, false, not, if◌then◌else◌, Option, Some, None, IfSome, is_some, refl, sym, ◌∙◌, ap, subst, arith}
use Rattle.sd_chain.specs.Catalog.{Changes, Opened, Places, place_of, without_slot}
use Rattle.sd_journal.specs.declared.mark.Mark.TheVariants.{Start, Table}
use Rattle.sd_rounds.specs.Dumper.{Running}
use Rattle.sd_crash_safety.specs.DumperOutcomes.{LeavesCatalog}
use Rattle.sd_crash_safety.specs.View.{CoreView}
use Rattle.sd_core.specs.Images.{HasPreDumps, begun_as}
use Rattle.sd_core.specs.Kept.{KeepsEach}
use Rattle.sd_core.specs.Noted.{NotesByCall, NotesMark}
use Rattle.sd_core.specs.Sound.{IsCore, Parts}
use Rattle.sd_core.proofs.WorkLemmas.{at_work}

-- ---- nothing changed

same_image : (a b : Opened) → Some (Some a) ≡ Some (Some b) → b ≡ a
same_image a b e = cc

counted_same : (frozen : Bool) (since : ℕ) → since ≡ (if not frozen && frozen then 0 else since)
counted_same frozen since = grind arith

-- the catalog is as it was
pub keeps_same : (old new : Places) → new ≡ old → KeepsEach old new
keeps_same old new same serial image other there now = same_image image other (sym there ∙ ap (λ all. place_of all serial) (sym same) ∙ now)

-- ---- the catalog

-- one place changes, at which no image stood
pub keeps_changed : (old new : Places) (serial : ℕ) (to : Option (Option Opened)) → Changes old new serial to → ((o : Opened) → place_of old serial ≡ Some (Some o) → ⊥) → KeepsEach old new
keeps_changed old new serial to changes none at image other there now = grind arith

-- those of a slot leave it
pub keeps_left : (closed : Bool) (slot : ℕ) (old new : Places) → LeavesCatalog closed slot old new → KeepsEach old new
keeps_left true slot old new leaves = keeps_without slot old new leaves
  where
    keeps_without : (slot : ℕ) (old new : Places) → ((serial : ℕ) → place_of new serial ≡ without_slot slot (place_of old serial)) → KeepsEach old new
    keeps_without slot old new leaves serial image other there now = grind arith
keeps_left false slot old new same = keeps_same old new same

-- ---- the dumper's steps

-- the memory isn't frozen after it
pub none_now : (old now : Bool) (since : ℕ) → now ≡ false → since ≡ (if not old && now then 0 else since)
none_now old now since thawed = by old ∙ ap (λ b. if not old && b then 0 else since) (sym thawed)
  where
    by : (old : Bool) → since ≡ (if not old && false then 0 else since)
    by true = refl
    by false = refl

-- the marks after a request
pub notes_table : (old new : CoreView) (slot : Option ℕ) (ends : Bool) → slot ≡ None → ends ≡ true → NotesMark Table old new → NotesByCall (is_some slot) ends old new
notes_table old new slot ends none over notes = subst (λ s. NotesByCall (is_some s) ends old new) (sym none) (subst (λ e. NotesByCall false e old new) (sym over) notes)

pub notes_start : (old new : CoreView) (slot : Option ℕ) (own : ℕ) (ends : Bool) → slot ≡ Some own → NotesMark Start old new → NotesByCall (is_some slot) ends old new
notes_start old new slot own ends is notes = subst (λ s. NotesByCall (is_some s) ends old new) (sym is) notes

-- a pass that ends
pub passed : (was now : Bool) → was ≡ true → now ≡ false → (was && not now) ≡ true
passed was now is over = ap (λ b. b && not now) is ∙ ap not over

-- ---- the pre-dumps

pub its_pre_dumps : (core : Parts) → IsCore core → IfSome core.dumper.running (λ running. HasPreDumps (begun_as running) core.places running.opened running.parent)
its_pre_dumps core sound = by core.dumper.running refl
  where
    by : (o : Option Running) → core.dumper.running ≡ o → IfSome o (λ running. HasPreDumps (begun_as running) core.places running.opened running.parent)
    by None is = tt
    by (Some running) is = (at_work core running sound is).pre_dumps

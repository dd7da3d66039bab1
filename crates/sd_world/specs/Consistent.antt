-- How the disk stands to what the core believes of it.
use Rattle.std.specs.Prelude.{◌≡◌, ◌≢◌, ◌⊎◌, ℕ, ◌<◌, ◌==◌, if◌then◌else◌, true, List, [], ◌∷◌, length, map, Some}
use Rattle.std.specs.Prelude.{slice_get}
use Rattle.sd_disk.specs.Contents.{file_at}
use Rattle.sd_disk.specs.declared.disk.Disk.{Ghosts}
use Rattle.sd_gate.specs.declared.phase.Phase.{Phase}
use Rattle.sd_gate.specs.Calls.{is_done}
use Rattle.sd_gate.specs.Fits.{SlotFits}
use Rattle.sd_gate.specs.Looks.{IsLookedUpAs}
use Rattle.sd_gate.specs.Phases.{after, body_after}
use Rattle.sd_gate.specs.Requests.{Asked, Made}
use Rattle.sd_crash_safety.specs.Believes.{Believes}
use Rattle.sd_crash_safety.specs.LiveImages.{IsPageOf}
use Rattle.sd_world.specs.declared.kept.Kept.{Kept}
use Rattle.sd_world.specs.declared.kept.Kept.TheVariants.{Nothing, Request, Outcome}
use Rattle.sd_world.specs.View.{WorldView, asked_of, kept_id}

-- a slot's phase, and its body
pub record SlotNow : Type 0 where
  pub phase : Phase
  pub body : List ℕ

-- after the call of this outcome
abbrev pub slot_after : SlotNow → Made → SlotNow
slot_after now made = record {
  phase = after now.phase made.request.id.call (is_done made.answer);
  body = body_after now.body made.request.id.call made.request.bytes;
}

-- after the call whose outcome is kept in a lane, where that was made on this slot
abbrev pub slot_with : Kept → ℕ → SlotNow → SlotNow
slot_with Nothing slot now = now
slot_with (Request request) slot now = now
slot_with (Outcome made) slot now = if made.request.id.slot == slot then slot_after now made else now

-- after all calls on it whose outcomes are kept
abbrev pub slot_now : List Kept → ℕ → SlotNow → SlotNow
slot_now [] slot now = now
slot_now (kept ∷ others) slot now = slot_now others slot (slot_with kept slot now)

-- the disk has it so
abbrev pub FitsNow : {D : Type 0} → Ghosts D → D → ℕ → SlotNow → Type 0
FitsNow g disk slot now = SlotFits now.phase now.body slot (g.contents disk) (g.may_leave disk)

-- The core believes what it does of the requests that are kept and of the files of the disk, with these bodies after
-- the gates; each slot fits its phase, with the calls that were made; and each outcome gives its slot's file as it is.
pub record IsConsistent {D : Type 0} (g : Ghosts D) (world : WorldView D) : Type 0 where
  pub bodies : List (List ℕ)
  pub believes : Believes world.core (map asked_of world.kept) bodies (g.contents world.disk)
  pub stands : (slot : ℕ) (phase : Phase) → slice_get world.core.phases slot ≡ Some phase
      → FitsNow g world.disk slot (slot_now world.kept slot (record { phase = phase; body = file_at bodies slot }))
  pub told : (lane : ℕ) (made : Made) → slice_get world.kept lane ≡ Some (Outcome made) → is_done made.answer ≡ true
      → IsLookedUpAs (file_at (g.contents world.disk) made.request.id.slot) made

-- both are in lanes of pages, and write different ones
pub record AreAskedInPages (one other : ℕ) (a b : Asked) : Type 0 where
  pub first : 2 < one
  pub second : 2 < other
  pub apart : a.id.call ≢ b.id.call

-- There are eleven lanes. Each request that is out is on a slot of the disk; in the lanes of pages are writes of whole
-- data pages, and no others are on one slot.
pub record AreInPlace (kept : List Kept) (slots : ℕ) : Type 0 where
  pub count : length kept ≡ 11
  pub range : (lane : ℕ) (k : Kept) (request : Asked) → slice_get kept lane ≡ Some k → asked_of k ≡ Some request
      → request.id.slot < slots
  pub pages : (lane : ℕ) (k : Kept) (request : Asked) → slice_get kept lane ≡ Some k → asked_of k ≡ Some request
      → 2 < lane
      → IsPageOf request.id.slot request
  pub apart : (one other : ℕ) (j k : Kept) (a b : Asked) → slice_get kept one ≡ Some j → slice_get kept other ≡ Some k
      → asked_of j ≡ Some a → asked_of k ≡ Some b → a.id.slot ≡ b.id.slot
      → (one ≡ other) ⊎ AreAskedInPages one other a b

-- what is so of every world
pub record IsWorld {D : Type 0} (g : Ghosts D) (world : WorldView D) : Type 0 where
  pub count : length (g.contents world.disk) ≡ length world.core.phases
  pub outs : world.core.outs ≡ map kept_id world.kept
  pub places : AreInPlace world.kept (length (g.contents world.disk))
  pub consistent : g.is_honest world.disk → IsConsistent g world

-- The calls of a plan that writes, from the phase of its slot to the last, and what a crash leaves meanwhile.
use Rattle.std.specs.Prelude.{◌≡◌, ℕ, true, false, List, [], ◌∷◌}
use Rattle.sd_image.specs.declared.header.Header.{Header}
use Rattle.sd_image.specs.Header.{header_text}
use Rattle.sd_gate.specs.declared.call.Call.{Call}
use Rattle.sd_gate.specs.declared.call.Call.TheVariants.{Len, Read, Write, WriteHeader, Close, Open, Cut, Sync}
use Rattle.sd_gate.specs.declared.phase.Phase.{Phase}
use Rattle.sd_gate.specs.declared.phase.Phase.TheVariants.{Bare, Whole, Writing}
use Rattle.sd_gate.specs.Fits.{PhaseLeaves}
use Rattle.sd_gate.specs.Laws.{IsClosedOrWhole}
use Rattle.sd_gate.specs.Phases.{after, body_after, filled, is_ready, may_close, may_write, state_of}
use Rattle.sd_gate.specs.Sequences.{Calls, body_calls, closing_calls, format_calls, table_place}

-- a call that asks for nothing
abbrev pub IsChange : Call → Type 0
IsChange Len = ⊥
IsChange (Read at) = ⊥
IsChange (Write at) = Unit {0}
IsChange WriteHeader = Unit {0}
IsChange Close = Unit {0}
IsChange Open = Unit {0}
IsChange Cut = Unit {0}
IsChange Sync = Unit {0}

-- calls that ask for nothing
abbrev pub AreChanges : Calls → Type 0
AreChanges [] = Unit {0}
AreChanges ((call, bytes) ∷ calls) = IsChange call × AreChanges calls

-- of a slot in this phase a crash leaves no image, or this one
abbrev pub LeavesAtMost : List ℕ → Phase → List ℕ → Type 0
LeavesAtMost image phase body = (file : List ℕ) → PhaseLeaves phase body file → IsClosedOrWhole image file

-- A slot in the first phase takes these calls and is then in the last, with that body; and all the way, also where a
-- call fails, a crash leaves no image of it, or this one.
abbrev pub Takes : List ℕ → Phase → List ℕ → Calls → Phase → List ℕ → Type 0
Takes image phase body [] last final = LeavesAtMost image phase body × (phase ≡ last) × (body ≡ final)
Takes image phase body ((call, bytes) ∷ calls) last final =
    LeavesAtMost image phase body × (is_ready phase call ≡ true)
    × LeavesAtMost image (after phase call false) (body_after body call bytes)
    × Takes image (after phase call true) (body_after body call bytes) calls last final

-- the body of an image once its table and its header are written after these bytes
abbrev pub body_closed : List ℕ → Header → List ℕ → List ℕ
body_closed body header table =
    body_after (body_after body (Write (table_place header)) table) WriteHeader (header_text header)

-- Each plan that writes, in every phase that is ready for it: a crash leaves at most the image that was there, or the
-- one that is written.
pub record PlansTake : Type 0 where
  pub format : (image : List ℕ) (phase : Phase) (body : List ℕ) → LeavesAtMost image phase body
      → Takes image phase body (format_calls (state_of phase)) Bare []
  pub retire : (image : List ℕ) (phase : Phase) (body : List ℕ) → may_close phase ≡ true → LeavesAtMost image phase body
      → Takes image phase body closing_calls Bare []
  pub page : (image : List ℕ) (phase : Phase) (body : List ℕ) (place : ℕ) (page : List ℕ) → may_write phase ≡ true
      → Takes image phase body ((Write place, page) ∷ []) (filled phase) (body_after body (Write place) page)
  pub close_body : (phase : Phase) (body : List ℕ) (header : Header) (table : List ℕ) → may_write phase ≡ true
      → filled phase ≡ Writing
      → Takes (body_closed body header table) phase body (body_calls header table) Whole (body_closed body header table)

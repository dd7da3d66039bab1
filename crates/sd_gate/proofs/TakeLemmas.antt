-- Each plan that writes leaves at most the image.
use Rattle.std.proofs.Common.{◌≡◌, inl, ℕ, true, List, [], ◌∷◌, refl, arith}
use Rattle.sd_image.specs.declared.header.Header.{Header}
use Rattle.sd_image.specs.Header.{header_text}
use Rattle.sd_image.specs.Image.{gate}
use Rattle.sd_gate.specs.declared.call.Call.TheVariants.{Write, WriteHeader, Open, Cut, Sync}
use Rattle.sd_gate.specs.declared.phase.Phase.{Phase}
use Rattle.sd_gate.specs.declared.phase.Phase.TheVariants.{Raw, RawClosing, Whole, Closing, Shut, Bare, Writing}
use Rattle.sd_gate.specs.Fits.{IsBodyOf}
use Rattle.sd_gate.specs.Laws.{IsClosedOrWhole}
use Rattle.sd_gate.specs.PlanRuns.{LeavesAtMost, PlansTake, Takes, body_closed}
use Rattle.sd_gate.specs.Phases.{body_after, closing, filled, may_close, may_write, state_of}
use Rattle.sd_gate.specs.Sequences.{body_calls, closing_calls, format_calls}
use Rattle.sd_gate.proofs.LawLemmas.{leaves_whole_or_closed}

-- a closed slot holds no image
shut_at_most : (image : List ℕ) (phase : Phase) (body : List ℕ) → may_write phase ≡ true → LeavesAtMost image phase body
shut_at_most image phase body ready = grind arith

-- nor does one that is shorter than a header
short_at_most : (image body : List ℕ) → LeavesAtMost image Raw body
short_at_most image body file left = inl (leaves_whole_or_closed Raw body file left)

-- what stands after any byte is the image, where it is after the gate
behind_at_most : (image body : List ℕ) → IsClosedOrWhole image (gate ∷ body) → (file : List ℕ) → IsBodyOf body file → IsClosedOrWhole image file
behind_at_most image body whole file behind = grind arith

opened_file : (body : List ℕ) → IsBodyOf body (gate ∷ body)
opened_file body = record { first = gate; spelled = refl }

cut_takes : (image : List ℕ) (phase : Phase) (body : List ℕ) → may_write phase ≡ true → Takes image phase body ((Cut, []) ∷ []) Bare []
cut_takes image phase body ready =
    (shut_at_most image phase body ready, ready, shut_at_most image Shut [] refl, (shut_at_most image Bare [] refl, refl, refl))

-- a gate that may be open is closed
open_takes : (image : List ℕ) (phase : Phase) (body : List ℕ) → may_close phase ≡ true → closing phase ≡ Closing → LeavesAtMost image phase body
    → IsClosedOrWhole image (gate ∷ body) → Takes image phase body closing_calls Bare []
open_takes image phase body ready is most whole = grind arith

-- and so is a file that is shorter than a header
raw_takes : (image : List ℕ) (phase : Phase) (body : List ℕ) → may_close phase ≡ true → closing phase ≡ RawClosing → LeavesAtMost image phase body
    → Takes image phase body closing_calls Bare []
raw_takes image phase body ready is most = grind arith

retire_takes : (image : List ℕ) (phase : Phase) (body : List ℕ) → may_close phase ≡ true → LeavesAtMost image phase body
    → Takes image phase body closing_calls Bare []
retire_takes image phase body ready most = grind arith

format_takes : (image : List ℕ) (phase : Phase) (body : List ℕ) → LeavesAtMost image phase body → Takes image phase body (format_calls (state_of phase)) Bare []
format_takes image phase body most = grind arith

pub filled_writes : (phase : Phase) → may_write phase ≡ true → may_write (filled phase) ≡ true
filled_writes phase ready = grind arith

page_takes : (image : List ℕ) (phase : Phase) (body : List ℕ) (place : ℕ) (page : List ℕ) → may_write phase ≡ true
    → Takes image phase body ((Write place, page) ∷ []) (filled phase) (body_after body (Write place) page)
page_takes image phase body place page ready = grind arith

opened_takes : (image : List ℕ) → Takes image Writing image ((Sync, []) ∷ (Open, []) ∷ (Sync, []) ∷ []) Whole image
opened_takes image = grind arith

headed_takes : (tabled : List ℕ) (header : Header) → Takes (body_after tabled WriteHeader (header_text header)) Writing tabled
    ((WriteHeader, header_text header) ∷ (Sync, []) ∷ (Open, []) ∷ (Sync, []) ∷ []) Whole (body_after tabled WriteHeader (header_text header))
headed_takes tabled header = grind arith

body_takes : (phase : Phase) (body : List ℕ) (header : Header) (table : List ℕ) → may_write phase ≡ true → filled phase ≡ Writing
    → Takes (body_closed body header table) phase body (body_calls header table) Whole (body_closed body header table)
body_takes phase body header table ready is = grind arith

pub plans_take : PlansTake
plans_take = record { format = format_takes; retire = retire_takes; page = page_takes; close_body = body_takes }

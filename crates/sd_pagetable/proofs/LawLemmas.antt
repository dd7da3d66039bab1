-- The tracking law over whole histories.
use Rattle.std.proofs.Common.{◌≡◌, ℕ, Bool, true, false, cond, ◌||◌, List, [], ◌∷◌, Option, Some, None, Ok, sym, ◌∙◌, ap, subst, inl, inr, arith}
use Rattle.std.specs.Option.{option_map_or}
use Rattle.sd_areas.specs.Pages.{page_of}
use Rattle.sd_pagetable.specs.Page.{PageState}
use Rattle.sd_pagetable.specs.Contents.{Contents, page_at, plain_of}
use Rattle.sd_pagetable.specs.Tracking.{MemoryEvent, Step, Tracks, TracksLaw, IsBeginning, BitsLaw, TryLaw, touches, clears, is_dirty, is_writable}
use Rattle.std.specs.Prelude.{Result}
use Rattle.sd_areas.specs.PlainMemory as plain
use Rattle.sd_pagetable.specs.declared.access_error.AccessError.{AccessError}
use Rattle.sd_pagetable.specs.declared.access_error.AccessError.TheVariants.{Refused}
use Rattle.sd_pagetable.specs.declared.memory_refusal.MemoryRefusal.TheVariants.{Einval, NoSuchSpace}
use Rattle.sd_pagetable.specs.declared.access.Access.TheVariants.{Write}
use Rattle.sd_pagetable.specs.declared.store_outcome.StoreOutcome.{StoreOutcome}
use Rattle.sd_pagetable.specs.declared.store_outcome.StoreOutcome.TheVariants.{NeedsFault}
use Rattle.sd_pagetable.specs.RefusalOrder.{access_refusal, answer, page_refusal, try_outcome, try_answer}
use Rattle.sd_pagetable.specs.PageLaw.{ComesFrom}
use Rattle.sd_pagetable.proofs.LawEvents.{comes, changed}
use Rattle.sd_pagetable.proofs.NestedLemmas.{value_at-map}
use Rattle.sd_pagetable.proofs.LawTests.{dirty_more, writable_is_dirty}

pub tracks_more : (history : List MemoryEvent) (event : MemoryEvent) (old new : Contents) → Tracks history old → Step old event new → Tracks (event ∷ history) new
tracks_more history event old new tracks step = record {
  soft_dirty = λ space number page there. dirty_then space number page (comes old new event space number page dirty step there);
  writable = λ space number page there. writable_then space number page (comes old new event space number page dirty step there);
}
  where
    dirty : (s p : ℕ) (page : PageState) → page_at old s p ≡ Some page → page.writable ≡ true → page.soft_dirty ≡ true
    dirty s p page there is = tracks.soft_dirty s p page there ∙ writable_is_dirty history s p (sym (tracks.writable s p page there) ∙ is)

    dirty_then : (space number : ℕ) (page : PageState) → ComesFrom old event space number page → page.soft_dirty ≡ is_dirty (event ∷ history) space number
    dirty_then space number page (inl k) = k.2.soft_dirty
        ∙ ap (λ b. cond (clears space number event) false (touches space number event || b)) (tracks.soft_dirty space number k.0 k.1) ∙ sym (dirty_more event history space number)
    dirty_then space number page (inr m) = m.soft_dirty
        ∙ sym (dirty_more event history space number ∙ ap (λ c. cond c false (touches space number event || is_dirty history space number)) m.uncleared ∙ ap (λ t. t || is_dirty history space number) m.touched)

    writable_then : (space number : ℕ) (page : PageState) → ComesFrom old event space number page → page.writable ≡ is_writable (event ∷ history) space number
    writable_then space number page given = grind arith

tracks_none : (contents : Contents) → IsBeginning contents → Tracks [] contents
tracks_none contents beginning = grind arith

pub tracks_law : TracksLaw
tracks_law = record { begins = tracks_none; more = tracks_more }

pub bits_law : BitsLaw
bits_law start end [] beginning run = subst (Tracks []) (sym run) (tracks_none start beginning)
bits_law start end (event ∷ history) beginning run = tracks_more history event run.0 end (bits_law start run.0 history beginning run.1) run.2

-- a permitted page is mapped
permitted : (alive bad : Bool) (found : Option plain.Page) → cond alive (cond bad (Some (Refused Einval)) (page_refusal Write found)) (Some (Refused NoSuchSpace)) ≡ None → (page : plain.Page) × (found ≡ Some page)
permitted alive bad found e = grind arith

mapped_there : (contents : Contents) (space address bytes : ℕ) → access_refusal (plain_of contents) space address bytes Write ≡ None → (page : PageState) × (page_at contents space (page_of address) ≡ Some page)
unfolding plain_of
mapped_there contents space address bytes allowed = grind (arith, permitted, changed, value_at-map)

abbrev replied : Bool → Result StoreOutcome AccessError
replied b = Ok (try_answer b)

needs_fault : (b : Bool) → replied b ≡ Ok NeedsFault → b ≡ false
needs_fault b e = grind arith

pub try_law : TryLaw
try_law start end history space address bytes beginning run allowed =
    let number = page_of address in
    let there = mapped_there end space address bytes allowed in
    let writable = (bits_law start end history beginning run).writable space number there.0 there.1 in
    let reply : try_outcome end space address bytes ≡ replied (is_writable history space number) =
    ap (λ d. answer d (try_answer (option_map_or (λ (page : PageState). page.writable) (page_at end space number) false))) allowed
    ∙ ap (λ o. replied (option_map_or (λ (page : PageState). page.writable) o false)) there.1 ∙ ap replied writable in
    (λ e. needs_fault (is_writable history space number) (sym reply ∙ e), λ e. reply ∙ ap replied e)

-- The laws of address spaces.
use Rattle.std.proofs.Common.{◌≡◌, ℕ, ◌<◌, Bool, false, not, cond, ◌==◌, List, length, Option, Some, None, refl, sym, ap, subst, ◌∙◌, arith, inl, inr, ◌%◌}
use Rattle.std.specs.Prelude.{nat_lt, IsTrue, if◌then◌else◌, IsSome, Result, Ok, Err, ◌↔◌}
use Rattle.std.specs.FinMap as finmap
use Rattle.std.proofs.lemmas.Bool.{eqb-true, cases_Bool, cond-true, cond-false, cases_lt, lt-ltb, both_ways}
use Rattle.sd_areas.specs.declared.area.Area.{Area}
use Rattle.sd_areas.specs.declared.prot.Prot.{Prot}
use Rattle.sd_areas.specs.Pages.{is_within, page_of, pages_for, is_invalid, is_outside}
use Rattle.sd_areas.specs.Areas.{PageMap, AreInSpace, areas_of}
use Rattle.sd_areas.proofs.Maximal.{below, above, inside_parts}
use Rattle.sd_areas.specs.declared.errno.Errno.{Errno}
use Rattle.sd_areas.specs.declared.errno.Errno.TheVariants.{Einval, Enomem}
use Rattle.sd_areas.specs.Calls.{set_pages, remove_pages, within_areas, map_result, unmap_result, has_hole, protect_result}
use Rattle.sd_areas.proofs.Entries.{areas_of_is, areas_of_are}
use Rattle.sd_areas.specs.Laws.{IsCrowded}
use Rattle.sd_areas.proofs.Calls.{get-set_pages, get-remove_pages}
use Rattle.sd_areas.proofs.Holes.{hole_at}

ok_same : (m n : PageMap) → ◌≡◌ {A = Result PageMap Errno} (Ok m) (Ok n) → m ≡ n
ok_same m n e = cc

no_ok : (n : PageMap) (e : Errno) → ◌≡◌ {A = Result PageMap Errno} (Err e) (Ok n) → ⊥
no_ok n e h = cc

-- a refusal is no result
past : (b : Bool) (e : Errno) (r : Result PageMap Errno) (n : PageMap) → cond b (Err e) r ≡ Ok n → (b ≡ false) × (r ≡ Ok n)
past b e r n h = grind arith

within_same : (pages after : PageMap) → within_areas pages ≡ Ok after → pages ≡ after
unfolding within_areas
within_same pages after h = ok_same _ _ (past (nat_lt 1024 (length (areas_of pages))) Enomem (Ok pages) after h).1

pub mapped_pages : (before after : PageMap) (address bytes : ℕ) (prot : Prot) → map_result before address bytes prot ≡ Ok after →
    (page : ℕ) → finmap.get after page ≡ (if is_within (page_of address) (pages_for bytes) page then Some prot else finmap.get before page)
unfolding map_result
mapped_pages before after address bytes prot h page =
    let done = within_areas (set_pages before (page_of address) (pages_for bytes) prot) in
    let one = past (is_invalid address bytes) Einval (cond (is_outside address bytes) (Err Enomem) done) after h in
    let two = past (is_outside address bytes) Enomem done after one.1 in
    let same = within_same (set_pages before (page_of address) (pages_for bytes) prot) after two.1 in
    sym (ap (λ m. finmap.get m page) same) ∙ get-set_pages before (page_of address) (pages_for bytes) prot page

pub unmapped_pages : (before after : PageMap) (address bytes : ℕ) → unmap_result before address bytes ≡ Ok after →
    (page : ℕ) → finmap.get after page ≡ (if is_within (page_of address) (pages_for bytes) page then None else finmap.get before page)
unfolding unmap_result
unmapped_pages before after address bytes h page =
    let done = within_areas (remove_pages before (page_of address) (pages_for bytes)) in
    let one = past (is_invalid address bytes) Einval (cond (is_outside address bytes) (Err Einval) done) after h in
    let two = past (is_outside address bytes) Einval done after one.1 in
    let same = within_same (remove_pages before (page_of address) (pages_for bytes)) after two.1 in
    sym (ap (λ m. finmap.get m page) same) ∙ get-remove_pages before (page_of address) (pages_for bytes) page

crowded_at : (b : Bool) (limit n : ℕ) (pages : PageMap) → nat_lt limit n ≡ b → ◌≡◌ {A = Result PageMap Errno} (cond b (Err Enomem) (Ok pages)) (Err Enomem) → limit < n
crowded_at b limit n pages e h = grind arith

pub within_crowded : (pages : PageMap) → AreInSpace pages → (within_areas pages ≡ Err Enomem) ↔ IsCrowded pages
unfolding within_areas
within_crowded pages w = (
  (λ h. (areas_of pages, areas_of_are pages w, crowded_at (nat_lt 1024 (length (areas_of pages))) 1024 (length (areas_of pages)) pages refl h)),
  (λ c. cond-true _ _ _ (lt-ltb 1024 (length (areas_of pages)) (subst (λ (l : List Area). 1024 < length l) (sym (areas_of_is pages c.0 w c.1)) c.2))),
)

empty_run : (first page : ℕ) → is_within first 0 page ≡ false
empty_run first page = elim (cases_lt page first) [ inl l ↦ below first 0 page l | inr g ↦ above first 0 page (omega arith) ]

some_unless : (o : Option Prot) → (o ≡ None → ⊥) → IsSome o
some_unless o h = grind arith

mapped_in_run : (pages : PageMap) (first count page : ℕ) → has_hole pages first count ≡ false → IsTrue (is_within first count page) → IsSome (finmap.get pages page)
mapped_in_run pages first count page full t = grind (arith, inside_parts, some_unless, both_ways, hole_at)

AtPage : PageMap → PageMap → ℕ → ℕ → Prot → ℕ → Type 0
AtPage before after first count prot page = (finmap.get after page ≡ cond (is_within first count page) (Some prot) (finmap.get before page)) × (IsTrue (is_within first count page) → IsSome (finmap.get before page))

nothing_changed : (before after : PageMap) (first count : ℕ) (prot : Prot) (page : ℕ) → before ≡ after → count ≡ 0 → AtPage before after first count prot page
unfolding AtPage
nothing_changed before after first count prot page e z =
    let out : is_within first count page ≡ false = ap (λ n. is_within first n page) z ∙ empty_run first page in
    (ap (λ m. finmap.get m page) (sym e) ∙ sym (cond-false _ _ _ out), λ t. absurd (both_ways _ out t))

all_changed : (before after : PageMap) (first count : ℕ) (prot : Prot) (page : ℕ) → set_pages before first count prot ≡ after → has_hole before first count ≡ false → AtPage before after first count prot page
unfolding AtPage
all_changed before after first count prot page e full = (ap (λ m. finmap.get m page) (sym e) ∙ get-set_pages before first count prot page, mapped_in_run before first count page full)

pub protected_pages : (before after : PageMap) (address bytes : ℕ) (prot : Prot) → protect_result before address bytes prot ≡ Ok after →
    (page : ℕ) → (finmap.get after page ≡ (if is_within (page_of address) (pages_for bytes) page then Some prot else finmap.get before page))
    × (IsTrue (is_within (page_of address) (pages_for bytes) page) → IsSome (finmap.get before page))
unfolding protect_result AtPage
protected_pages before after address bytes prot h page =
    let done = within_areas (set_pages before (page_of address) (pages_for bytes) prot) in
    let full = cond (has_hole before (page_of address) (pages_for bytes)) (Err Enomem) done in
    let inside_space = cond (is_outside address bytes) (Err Enomem) full in
    let one = past (not (address % 4096 == 0)) Einval (cond (bytes == 0) (Ok before) inside_space) after h in
    elim (cases_Bool (bytes == 0)) [
      | inl t ↦ nothing_changed before after (page_of address) (pages_for bytes) prot page (ok_same _ _ (sym (cond-true (bytes == 0) (Ok before) inside_space t) ∙ one.1)) (ap pages_for (eqb-true bytes 0 t))
      | inr f ↦ (
          let two = past (is_outside address bytes) Enomem full after (sym (cond-false (bytes == 0) (Ok before) inside_space f) ∙ one.1) in
          let three = past (has_hole before (page_of address) (pages_for bytes)) Enomem done after two.1 in
          all_changed before after (page_of address) (pages_for bytes) prot page (within_same (set_pages before (page_of address) (pages_for bytes) prot) after three.1) three.0)
    ]

-- The cursor and the pages, by their order.
use Rattle.std.proofs.Common.{◌≡◌, ◌⊎◌, ℕ, true, false, not, ◌||◌, ◌&&◌, nat_eq, nat_lt, Option, Some, None, IsSome, ◌∙◌, ap, inl, inr, arith}
use Rattle.std.proofs.lemmas.Bool.{not-false, cases_Bool}
use Rattle.std.proofs.lemmas.Bool.Decides.{nat_tests}
use Rattle.sd_pagetable.specs.Nested.{Nested, value_at}
use Rattle.sd_pagetable.specs.Order.{is_above, IsNextPage}
use Rattle.sd_pagetable.specs.Tracking.{is_page}
use Rattle.sd_writing.specs.Entries.{Place}
use Rattle.sd_rounds.specs.Pass.{has_passed}

pub same_place : (a b : Place) → a.0 ≡ b.0 → a.1 ≡ b.1 → a ≡ b
same_place a b first second = ap (λ (x : ℕ). (x, a.1)) first ∙ ap (λ (y : ℕ). (b.0, y)) second

pub page_is : (a b : Place) → is_page a.0 a.1 b.0 b.1 ≡ true → a ≡ b
page_is a b e = grind arith

pub page_here : (a : Place) → is_page a.0 a.1 a.0 a.1 ≡ true
page_here a = here a.0 a.1
  where
    here : (s p : ℕ) → (nat_eq s s && nat_eq p p) ≡ true
    here s p = grind (arith, nat_tests)

pub apart_page : (a b : Place) → (a ≡ b → ⊥) → is_page a.0 a.1 b.0 b.1 ≡ false
apart_page a b apart = elim (cases_Bool (is_page a.0 a.1 b.0 b.1)) [ inl e ↦ absurd (apart (page_is a b e)) | inr e ↦ e ]

pub same_or_apart : (a b : Place) → (a ≡ b) ⊎ (a ≡ b → ⊥)
same_or_apart a b = grind arith

-- a page isn't above itself
not_above : (s p : ℕ) → (nat_lt s s || (nat_eq s s && nat_lt p p)) ≡ false
not_above s p = grind (arith, nat_tests)

pub passed_here : (a : Place) → has_passed (Some a) a ≡ true
passed_here a = ap not (not_above a.0 a.1)

above_trans : (a b c d e f : ℕ) → (nat_lt a c || (nat_eq a c && nat_lt b d)) ≡ true → (nat_lt c e || (nat_eq c e && nat_lt d f)) ≡ true
    → (nat_lt a e || (nat_eq a e && nat_lt b f)) ≡ true
above_trans a b c d e f one two = grind (arith, nat_tests)

above_total : (a b c d : ℕ) → (nat_lt a c || (nat_eq a c && nat_lt b d)) ≡ false → (nat_lt c a || (nat_eq c a && nat_lt d b)) ≡ false → (a ≡ c) × (b ≡ d)
above_total a b c d one two = (grind (arith, nat_tests), grind (arith, nat_tests))

-- what is above a page that is above the cursor is above the cursor
pub above_more : (after : Option Place) (at q : Place) → is_above after at.0 at.1 ≡ true → is_above (Some at) q.0 q.1 ≡ true → is_above after q.0 q.1 ≡ true
above_more after at q one two = grind arith

-- what is ahead of a page ahead is ahead
pub ahead_more : (after : Option Place) (at q : Place) → is_above after at.0 at.1 ≡ true → has_passed (Some at) q ≡ false → has_passed after q ≡ false
ahead_more after at q one two = ap not (above_more after at q one (not-false (is_above (Some at) q.0 q.1) two))

pub above_not_passed : (after : Option Place) (q : Place) → is_above after q.0 q.1 ≡ true → has_passed after q ≡ false
above_not_passed after q e = ap not e

pub not_passed_above : (after : Option Place) (q : Place) → has_passed after q ≡ false → is_above after q.0 q.1 ≡ true
not_passed_above after q e = not-false (is_above after q.0 q.1) e

-- a mapped page that the cursor passes is the next one, or was passed before
pub passed_next : {X : Type 0} (spaces : Nested X) (after : Option Place) (at q : Place) → IsNextPage spaces after (Some at) → IsSome (value_at spaces q.0 q.1)
    → has_passed (Some at) q ≡ true → (at ≡ q) ⊎ (has_passed after q ≡ true)
passed_next spaces after at q next there passed = grind arith

-- where no page is next, each mapped page was passed
pub passed_all : {X : Type 0} (spaces : Nested X) (after : Option Place) (q : Place) → IsNextPage spaces after None → IsSome (value_at spaces q.0 q.1)
    → has_passed after q ≡ true
passed_all spaces after q next there = ap not (next q.0 q.1 there)

-- Whether a run of pages meets a hole.
use Rattle.std.proofs.Common.{◌≡◌, ℕ, ◌+◌, ◌<◌, ◌≤◌, Bool, true, false, cond, List, [], ◌∷◌, ◌++◌, length, take, get_or, Option, Some, None, refl, sym, ap, subst, ◌∙◌, arith, inl, inr, suc, zero}
use Rattle.std.specs.Prelude.{IsSome, is_some, nat_lt}
use Rattle.std.proofs.lemmas.Bool.{cases_Bool, cases_lt, lt-ltb, le-ltb, or_from, or_left, or_right, not_from_true, not_from_false}
use Rattle.sd_areas.specs.declared.area.Area.{Area}
use Rattle.sd_areas.specs.declared.prot.Prot.{Prot}
use Rattle.sd_areas.specs.Pages.{is_within, pages_from}
use Rattle.sd_areas.specs.Areas.{AreMaximal, PageMap, page_map_of}
use Rattle.sd_areas.specs.Runs.{last_after, IsMappedUpTo}
use Rattle.sd_areas.proofs.Maximal.{FollowsOn, last_after-append, prot_in-append, none_stands_after, inside, inside_parts}
use Rattle.std.proofs.Math.Seq.{take-length}
use Rattle.std.specs.FinMap as finmap
use Rattle.sd_areas.specs.Calls.{has_hole}
use Rattle.sd_areas.proofs.Parts.{take_next, next_follows, AreMaximal-take}
use Rattle.sd_areas.proofs.PagesOf.{get-pages_of}

pub no_hole : (pages : PageMap) (first count : ℕ) → ((page : ℕ) → first ≤ page → page < first + count → IsSome (finmap.get pages page)) → has_hole pages first count ≡ false
unfolding has_hole pages_from
no_hole pages first zero h = refl
no_hole pages first (suc count) h = or_from _ _ (not_from_true _ (h first (omega arith) (omega arith))) (no_hole pages (suc first) count (λ page l g. h page (omega arith) (omega arith)))

pub hole_at : (pages : PageMap) (first count page : ℕ) → first ≤ page → page < first + count → finmap.get pages page ≡ None → has_hole pages first count ≡ true
unfolding has_hole pages_from
hole_at pages first zero page l g e = absurd (omega arith)
hole_at pages first (suc count) page l g e =
    elim (cases_lt first page) [
      | inl later ↦ or_right _ _ (hole_at pages (suc first) count page (omega arith) (omega arith) e)
      | inr here ↦ (
          let same : page ≡ first = omega arith in
          or_left _ _ (not_from_false _ (ap is_some (subst (λ (p : ℕ). finmap.get pages p ≡ None) same e))))
    ]

pub covered_none : (first : ℕ) → IsMappedUpTo [] first first
covered_none first = record { begins = omega arith; mapped = λ page l g. absurd (omega arith); hole = refl }

some_over : (b : Bool) (p : Prot) (o : Option Prot) → IsSome o → IsSome (cond b (Some p) o)
some_over b p o h = grind arith

-- with the next area the cover reaches the end of that, if it has the page
covered_more : (front : List Area) (x : Area) (first next : ℕ) → AreMaximal None front → AreMaximal None (front ++ x ∷ []) → FollowsOn (last_after None front) x → IsMappedUpTo front first next →
    IsMappedUpTo (front ++ x ∷ []) first (cond (is_within x.first x.count next) (x.first + x.count) next)
covered_more front x first next m all f h = grind (arith, prot_in-append, cases_Bool, inside_parts, cases_lt, some_over, inside, none_stands_after, last_after-append)

pub covered_step : (xs : List Area) (i : ℕ) (x : Area) (first next : ℕ) → AreMaximal None xs → i < length xs → x ≡ get_or xs i x → IsMappedUpTo (take i xs) first next →
    IsMappedUpTo (take (i + 1) xs) first (cond (is_within x.first x.count next) (x.first + x.count) next)
covered_step xs i x first next m l e h =
    let step = take_next i xs x l e in
    rw step (covered_more (take i xs) x first next (AreMaximal-take i xs m) (subst (AreMaximal None) step (AreMaximal-take (i + 1) xs m)) (next_follows i xs x m l e) h)

pub meets : (xs : List Area) (first count next : ℕ) → IsMappedUpTo xs first next → nat_lt next (first + count) ≡ has_hole (page_map_of xs) first count
meets xs first count next h =
    elim (cases_lt next (first + count)) [
      | inl l ↦ lt-ltb _ _ l ∙ sym (hole_at (page_map_of xs) first count next h.begins l (get-pages_of xs next ∙ h.hole))
      | inr g ↦ le-ltb _ _ g ∙ sym (no_hole (page_map_of xs) first count (λ page l k. rw (get-pages_of xs page) (h.mapped page l (omega arith))))
    ]

pub meets_at : (xs front : List Area) (first count next begin : ℕ) → front ≡ xs → begin ≡ first → IsMappedUpTo front first next → nat_lt next (begin + count) ≡ has_hole (page_map_of xs) first count
meets_at xs front first count next begin e f h = rw f (meets xs first count next (subst (λ (l : List Area). IsMappedUpTo l first next) e h))

pub whole : (i : ℕ) (xs : List Area) → i ≤ length xs → length xs ≤ i → take i xs ≡ xs
whole i xs l g = let e : i ≡ length xs = omega arith in ap (λ n. take n xs) e ∙ take-length xs

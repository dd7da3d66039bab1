-- How a table has a page: by the space and the run that have it, with the place that is counted for the run.
use Rattle.std.proofs.Common.{◌≡◌, ◌<◌, ◌≤◌, ◌+◌, ◌-◌, ◌^◌, ℕ, zero, suc, Bool, true, false, eqb, not, cond, min, List, [], ◌∷◌, ◌++◌, map, length, Contains, Some, None, refl, sym, ◌∙◌, ap, subst, inl, inr, arith}
use Rattle.std.specs.Prelude.{IsTrue}
use Rattle.std.specs.List.{flat_map, slice_get, position, position_or_len}
use Rattle.std.proofs.lemmas.Bool.{eq-eqb, lt-ltb}
use Rattle.std.proofs.lemmas.List.{length-append, length-map}
use Rattle.std.proofs.lemmas.Option.{slice_get-map, none-some, same_Some}
use Rattle.sd_areas.specs.Pages.{is_within, pages_from}
use Rattle.sd_image.specs.declared.run.Run.{Run}
use Rattle.sd_image.specs.declared.run.RunKind.{RunKind}
use Rattle.sd_image.specs.declared.run.RunKind.TheVariants.{Data}
use Rattle.sd_image.specs.declared.table.SpaceTable.{SpaceTable}
use Rattle.sd_image.specs.Words.{run_kind_number}
use Rattle.sd_image.specs.Table.{Listed, listing_of, is_data, run_pages}
use Rattle.sd_image.specs.Shows.{pages_of}
use Rattle.sd_image.proofs.Members.{contains_at, contains_cases, from_parts, into_parts}
use Rattle.sd_chain.specs.Placed.{after_run, after_runs, places_of, all_places_of}
use Rattle.sd_chain.proofs.Runs.{within_from, within_low, within_high}

-- ---- lists

pub get_left : {X : Type 0} (xs ys : List X) (i : ℕ) (x : X) → slice_get xs i ≡ Some x → slice_get (xs ++ ys) i ≡ Some x
get_left [] ys i x e = absurd (none-some x e)
get_left (y ∷ xs) ys zero x e = e
get_left (y ∷ xs) ys (suc i) x e = get_left xs ys i x e

pub get_right : {X : Type 0} (xs ys : List X) (n i : ℕ) → n ≡ length xs + i → slice_get (xs ++ ys) n ≡ slice_get ys i
get_right [] ys n i e = let is : n ≡ i = omega (arith, e) in ap (slice_get ys) is
get_right (x ∷ xs) ys zero i e = absurd (omega (arith, e))
get_right (x ∷ xs) ys (suc n) i e = get_right xs ys n i (omega (arith, e))

end_step : {X : Type 0} (test : X → Bool) (y : X) (xs : List X) (x : X) (b : Bool) → test y ≡ b → (Contains xs x → position_or_len test xs < length xs) → Contains (y ∷ xs) x → test x ≡ true
    → cond (not b) (1 + position_or_len test xs) 0 < length (y ∷ xs)
end_step test y xs x b e rest c is = grind arith

before_end : {X : Type 0} (test : X → Bool) (xs : List X) (x : X) → Contains xs x → test x ≡ true → position_or_len test xs < length xs
before_end test [] x c is = absurd (omega (arith, c.1))
before_end test (y ∷ xs) x c is = end_step test y xs x (test y) refl (λ later. before_end test xs x later is) c is

-- where no place is found, no element passes
pub none_passes : {X : Type 0} (test : X → Bool) (xs : List X) (x : X) → position test xs ≡ None → Contains xs x → test x ≡ true → ⊥
none_passes test xs x none c is =
    let found = lt-ltb (position_or_len test xs) (length xs) (before_end test xs x c is) in
    none-some (position_or_len test xs) (sym none ∙ ap (λ b. cond b (Some (position_or_len test xs)) None) found)

-- ---- the pages of a run

abbrev in_space : ℕ → ℕ → ℕ × ℕ
in_space space page = (space, page)

abbrev of_kind : RunKind → ℕ → Run → List (ℕ × ℕ)
of_kind kind space r = cond (eqb (run_kind_number r.kind) (run_kind_number kind)) (map (in_space space) (run_pages r)) []

length_from : (first count : ℕ) → length (pages_from first count) ≡ count
unfolding pages_from
length_from first zero = refl
length_from first (suc count) = ap suc (length_from (suc first) count)

page_at : (first count k : ℕ) → k < count → slice_get (pages_from first count) k ≡ Some (first + k)
unfolding pages_from
page_at first zero k l = absurd (omega arith)
page_at first (suc count) zero l = ap Some (omega arith)
page_at first (suc count) (suc k) l = page_at (suc first) count k (omega arith) ∙ ap Some (omega arith)

page_among : (space first count page : ℕ) → first ≤ page → page < first + count → slice_get (map (in_space space) (pages_from first count)) (page - first) ≡ Some (in_space space page)
page_among space first count page low high = grind (arith, slice_get-map, page_at)

from_among : (space first count : ℕ) (x : ℕ × ℕ) → Contains (map (in_space space) (pages_from first count)) x → (x.0 ≡ space) × (first ≤ x.1) × (x.1 < first + count)
unfolding pages_from
from_among space first zero x c = absurd (omega (arith, c.1))
from_among space first (suc count) x c = elim (contains_cases (space, first) x (map (in_space space) (pages_from (suc first) count)) c) [
  | inl e ↦ let there : x.1 ≡ first = ap (λ (p : ℕ × ℕ). p.1) e in (ap (λ (p : ℕ × ℕ). p.0) e, omega (arith, there), omega (arith, there))
  | inr later ↦ let rest = from_among space (suc first) count x later in (rest.0, omega (arith, rest.1), omega (arith, rest.2))
]

all_of_kind : (kind : RunKind) (space : ℕ) (r : Run) → r.kind ≡ kind → of_kind kind space r ≡ map (in_space space) (run_pages r)
all_of_kind kind space r is =
    ap (λ b. cond b (map (in_space space) (run_pages r)) []) (eq-eqb (run_kind_number r.kind) (run_kind_number kind) (ap run_kind_number is))

if_of_kind : (b : Bool) (space : ℕ) (r : Run) (x : ℕ × ℕ) → Contains (cond b (map (in_space space) (run_pages r)) []) x → (x.0 ≡ space) × (r.first ≤ x.1) × (x.1 < r.first + r.count)
if_of_kind true space r x c = from_among space r.first r.count x c
if_of_kind false space r x c = absurd (omega (arith, c.1))

-- ---- a page of a run is one of the table

pub has_in_run : (kind : RunKind) (spaces : List Listed) (s : Listed) (r : Run) (page : ℕ) → Contains spaces s → Contains s.runs r → r.kind ≡ kind → IsTrue (is_within r.first r.count page)
    → Contains (pages_of kind spaces) (s.space, page)
has_in_run kind spaces s r page c d is within =
    let here = contains_at _ (page - r.first) (s.space, page) (page_among s.space r.first r.count page (within_low r page within) (within_high r page within)) in
    let among = subst (λ (xs : List (ℕ × ℕ)). Contains xs (s.space, page)) (sym (all_of_kind kind s.space r is)) here in
    into_parts (λ (s : Listed). flat_map (of_kind kind s.space) s.runs) spaces s (s.space, page) c (into_parts (of_kind kind s.space) s.runs r (s.space, page) d among)

-- the space and the run that have a page
pub record IsHad (spaces : List Listed) (page : ℕ × ℕ) : Type 0 where
  pub listed : Listed
  pub run : Run
  pub among : Contains spaces listed
  pub space : page.0 ≡ listed.space
  pub member : Contains listed.runs run
  pub within : IsTrue (is_within run.first run.count page.1)

pub had : (kind : RunKind) (spaces : List Listed) (page : ℕ × ℕ) → Contains (pages_of kind spaces) page → IsHad spaces page
had kind spaces page c =
    let s = from_parts (λ (s : Listed). flat_map (of_kind kind s.space) s.runs) spaces page c in
    let r = from_parts (of_kind kind s.0.space) s.0.runs page s.2 in
    let is = if_of_kind (eqb (run_kind_number r.0.kind) (run_kind_number kind)) s.0.space r.0 page r.2 in
    record { listed = s.0; run = r.0; among = s.1; space = is.0; member = r.1; within = within_from r.0 page.1 is.1 is.2 }

-- ---- the place of a data page

after_is : (space n : ℕ) (r : Run) → n + length (of_kind Data space r) < 2 ^ 64 → after_run n r ≡ n + length (of_kind Data space r)
after_is space n r small = by (is_data r) small
  where
    by : (b : Bool) → n + length (cond b (map (in_space space) (run_pages r)) []) < 2 ^ 64
        → cond b (min (n + r.count) (2 ^ 64 - 1)) n ≡ n + length (cond b (map (in_space space) (run_pages r)) [])
    by true small =
        let long : length (map (in_space space) (run_pages r)) ≡ r.count = length-map (run_pages r) (in_space space) ∙ length_from r.first r.count in
        omega (arith, long, small)
    by false small = omega arith

afters_are : (space n : ℕ) (runs : List Run) → n + length (flat_map (of_kind Data space) runs) < 2 ^ 64 → after_runs n runs ≡ n + length (flat_map (of_kind Data space) runs)
afters_are space n [] small = omega arith
afters_are space n (r ∷ runs) small =
    let parts = length-append (of_kind Data space r) (flat_map (of_kind Data space) runs) in
    let first = after_is space n r (omega (arith, small, parts)) in
    ap (λ k. after_runs k runs) first
    ∙ afters_are space (n + length (of_kind Data space r)) runs (omega (arith, small, parts))
    ∙ omega (arith, parts)

-- what is counted before a run is the place of its first page among those with data
abbrev HasPlace : List (ℕ × ℕ) → ℕ → ℕ → ℕ → ℕ × ℕ → Type 0
HasPlace all n before k page = (place : ℕ) × (before ≡ n + place) × (slice_get all (place + k) ≡ Some page)

later_place : (xs ys : List (ℕ × ℕ)) (n before k : ℕ) (page : ℕ × ℕ) → HasPlace ys (n + length xs) before k page → HasPlace (xs ++ ys) n before k page
later_place xs ys n before k page h =
    (length xs + h.0, omega (arith, h.1), get_right xs ys (length xs + h.0 + k) (h.0 + k) (omega arith) ∙ h.2)

earlier_place : (xs ys : List (ℕ × ℕ)) (n before k : ℕ) (page : ℕ × ℕ) → HasPlace xs n before k page → HasPlace (xs ++ ys) n before k page
earlier_place xs ys n before k page h = (h.0, h.1, get_left xs ys (h.0 + k) page h.2)

place_in_runs : (space n : ℕ) (runs : List Run) (at : ℕ) (r : Run) (before page : ℕ) → n + length (flat_map (of_kind Data space) runs) < 2 ^ 64
    → slice_get runs at ≡ Some r → slice_get (places_of n runs) at ≡ Some before → r.kind ≡ Data → IsTrue (is_within r.first r.count page)
    → HasPlace (flat_map (of_kind Data space) runs) n before (page - r.first) (space, page)
place_in_runs space n [] at r before page small there counted is within = absurd (none-some r there)
place_in_runs space n (x ∷ runs) zero r before page small there counted is within =
    let this : x ≡ r = same_Some x r there in
    let here : HasPlace (of_kind Data space r) n before (page - r.first) (space, page) = (
      0,
      (let e = same_Some n before counted in omega (arith, e)),
      (let none : 0 + (page - r.first) ≡ page - r.first = omega arith in
          ap (slice_get (of_kind Data space r)) none
          ∙ subst (λ (xs : List (ℕ × ℕ)). slice_get xs (page - r.first) ≡ Some (space, page)) (sym (all_of_kind Data space r is))
          (page_among space r.first r.count page (within_low r page within) (within_high r page within))),
    ) in
    earlier_place (of_kind Data space x) (flat_map (of_kind Data space) runs) n before (page - r.first) (space, page)
    (subst (λ (y : Run). HasPlace (of_kind Data space y) n before (page - r.first) (space, page)) (sym this) here)
place_in_runs space n (x ∷ runs) (suc at) r before page small there counted is within =
    let parts = length-append (of_kind Data space x) (flat_map (of_kind Data space) runs) in
    let first = after_is space n x (omega (arith, small, parts)) in
    later_place (of_kind Data space x) (flat_map (of_kind Data space) runs) n before (page - r.first) (space, page)
    (place_in_runs space (n + length (of_kind Data space x)) runs at r before page (omega (arith, small, parts)) there
    (subst (λ k. slice_get (places_of k runs) at ≡ Some before) first counted) is within)

place_in_spaces : (n : ℕ) (items : List SpaceTable) (index at : ℕ) (s : SpaceTable) (r : Run) (row : List ℕ) (before page : ℕ) → n + length (pages_of Data (map listing_of items)) < 2 ^ 64
    → slice_get items index ≡ Some s → slice_get (all_places_of n items) index ≡ Some row → slice_get s.runs.items at ≡ Some r → slice_get row at ≡ Some before
    → r.kind ≡ Data → IsTrue (is_within r.first r.count page) → HasPlace (pages_of Data (map listing_of items)) n before (page - r.first) (s.space, page)
place_in_spaces n [] index at s r row before page small there counted run places is within = absurd (none-some s there)
place_in_spaces n (x ∷ items) zero at s r row before page small there counted run places is within =
    let this : x ≡ s = same_Some x s there in
    let of : places_of n x.runs.items ≡ row = same_Some _ row counted in
    let parts = length-append (flat_map (of_kind Data x.space) x.runs.items) (pages_of Data (map listing_of items)) in
    earlier_place (flat_map (of_kind Data x.space) x.runs.items) (pages_of Data (map listing_of items)) n before (page - r.first) (s.space, page)
    (subst (λ space. HasPlace (flat_map (of_kind Data x.space) x.runs.items) n before (page - r.first) (space, page)) (ap (λ (y : SpaceTable). y.space) this)
    (place_in_runs x.space n x.runs.items at r before page (omega (arith, small, parts))
    (subst (λ (y : SpaceTable). slice_get y.runs.items at ≡ Some r) (sym this) run) (subst (λ (xs : List ℕ). slice_get xs at ≡ Some before) (sym of) places) is within))
place_in_spaces n (x ∷ items) (suc index) at s r row before page small there counted run places is within =
    let parts = length-append (flat_map (of_kind Data x.space) x.runs.items) (pages_of Data (map listing_of items)) in
    let first = afters_are x.space n x.runs.items (omega (arith, small, parts)) in
    later_place (flat_map (of_kind Data x.space) x.runs.items) (pages_of Data (map listing_of items)) n before (page - r.first) (s.space, page)
    (place_in_spaces (n + length (flat_map (of_kind Data x.space) x.runs.items)) items index at s r row before page (omega (arith, small, parts)) there
    (subst (λ k. slice_get (all_places_of k items) index ≡ Some row) first counted) run places is within)

-- its place among all pages with data
pub place_of_page : (items : List SpaceTable) (index at : ℕ) (s : SpaceTable) (r : Run) (row : List ℕ) (before page : ℕ) → length (pages_of Data (map listing_of items)) < 2 ^ 64
    → slice_get items index ≡ Some s → slice_get (all_places_of 0 items) index ≡ Some row → slice_get s.runs.items at ≡ Some r → slice_get row at ≡ Some before
    → r.kind ≡ Data → IsTrue (is_within r.first r.count page) → slice_get (pages_of Data (map listing_of items)) (before + (page - r.first)) ≡ Some (s.space, page)
place_of_page items index at s r row before page small there counted run places is within = grind (arith, place_in_spaces)

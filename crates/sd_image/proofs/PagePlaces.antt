-- A page has one place in an image: the pages of each kind rise, and no page has two kinds.
use Rattle.std.proofs.Common.{◌≡◌, ◌<◌, ◌≤◌, ◌+◌, ◌*◌, ◌^◌, ℕ, zero, suc, Bool, true, eqb, cond, List, [], ◌∷◌, ◌++◌, map, length, Contains, Option, Some, None, refl, sym, ◌∙◌, ap, subst, inl, inr, arith}
use Rattle.std.specs.List.{flat_map, slice_get}
use Rattle.std.proofs.lemmas.Bool.{eqb-true}
use Rattle.std.proofs.lemmas.List.Elements.{Contains-append_cases}
use Rattle.sd_areas.specs.Pages.{pages_from}
use Rattle.sd_image.specs.declared.header.Header.{Header}
use Rattle.sd_image.specs.declared.run.Run.{Run}
use Rattle.sd_image.specs.declared.run.RunKind.{RunKind}
use Rattle.sd_image.specs.declared.run.RunKind.TheVariants.{Data}
use Rattle.sd_image.specs.Words.{run_kind_number}
use Rattle.sd_image.specs.Table.{Listed, run_pages, AreRuns, AreSpaces}
use Rattle.sd_image.specs.Shows.{pages_of}
use Rattle.sd_image.proofs.Items.{run_range}
use Rattle.sd_image.proofs.SpaceLaws.{run_begins}
use Rattle.sd_image.proofs.Members.{contains_at, contains_cases}

-- a space and a page as one number, in the order of spaces and of the pages in them
abbrev key : ℕ × ℕ → ℕ
key x = 2 ^ 35 * x.0 + x.1

-- these rise, from low on and below high
abbrev Rises : ℕ → List (ℕ × ℕ) → ℕ → Type 0
Rises low [] high = low ≤ high
Rises low (x ∷ xs) high = (low ≤ key x) × Rises (suc (key x)) xs high

rises_from : (before low high : ℕ) (xs : List (ℕ × ℕ)) → before ≤ low → Rises low xs high → Rises before xs high
rises_from before low high [] le h = omega arith
rises_from before low high (x ∷ xs) le h = (omega (arith, h.0), h.1)

rises_append : (low middle high : ℕ) (xs ys : List (ℕ × ℕ)) → Rises low xs middle → Rises middle ys high → Rises low (xs ++ ys) high
rises_append low middle high [] ys a b = rises_from low middle high ys a b
rises_append low middle high (x ∷ xs) ys a b = (a.0, rises_append (suc (key x)) middle high xs ys a.1 b)

rises_within : (low high : ℕ) (xs : List (ℕ × ℕ)) → Rises low xs high → low ≤ high
rises_within low high [] h = h
rises_within low high (x ∷ xs) h = let rest = rises_within (suc (key x)) high xs h.1 in omega (arith, h.0, rest)

rises_length : (low high : ℕ) (xs : List (ℕ × ℕ)) → Rises low xs high → low + length xs ≤ high
rises_length low high [] h = omega arith
rises_length low high (x ∷ xs) h = let rest = rises_length (suc (key x)) high xs h.1 in omega (arith, h.0, rest)

-- where an element of them stands
element_low : (low high : ℕ) (xs : List (ℕ × ℕ)) (x : ℕ × ℕ) → Rises low xs high → Contains xs x → low ≤ key x
element_low low high [] x h c = absurd (omega (arith, c.1))
element_low low high (y ∷ xs) x h c =
    elim (contains_cases y x xs c) [
      | inl e ↦ subst (λ (z : ℕ × ℕ). low ≤ key z) (sym e) h.0
      | inr d ↦ let rest = element_low (suc (key y)) high xs x h.1 d in omega (arith, h.0, rest)
    ]

element_high : (low high : ℕ) (xs : List (ℕ × ℕ)) (x : ℕ × ℕ) → Rises low xs high → Contains xs x → key x < high
element_high low high [] x h c = absurd (omega (arith, c.1))
element_high low high (y ∷ xs) x h c =
    elim (contains_cases y x xs c) [
      | inl e ↦ subst (λ (z : ℕ × ℕ). key z < high) (sym e) (let rest = rises_within (suc (key y)) high xs h.1 in omega (arith, rest))
      | inr d ↦ element_high (suc (key y)) high xs x h.1 d
    ]

place_in : (low high : ℕ) (xs : List (ℕ × ℕ)) (p q : ℕ) (x : ℕ × ℕ) → Rises low xs high → slice_get xs p ≡ Some x → slice_get xs q ≡ Some x → p ≡ q
place_in low high [] p q x h a b = absurd cc
place_in low high (y ∷ xs) zero zero x h a b = refl
place_in low high (y ∷ xs) zero (suc q) x h a b =
    let is : y ≡ x = cc in
    let above = element_low (suc (key y)) high xs x h.1 (contains_at xs q x b) in
    let same : key y ≡ key x = ap key is in
    absurd (omega (arith, above, same))
place_in low high (y ∷ xs) (suc p) zero x h a b =
    let is : y ≡ x = cc in
    let above = element_low (suc (key y)) high xs x h.1 (contains_at xs p x a) in
    let same : key y ≡ key x = ap key is in
    absurd (omega (arith, above, same))
place_in low high (y ∷ xs) (suc p) (suc q) x h a b = ap suc (place_in (suc (key y)) high xs p q x h.1 a b)

-- ---- the pages of a run, where it has this kind

abbrev places : RunKind → ℕ → Run → List (ℕ × ℕ)
places kind space r = cond (eqb (run_kind_number r.kind) (run_kind_number kind)) (map (λ page. (space, page)) (run_pages r)) []

from_rise : (space first count : ℕ) → Rises (key (space, first)) (map (λ page. (space, page)) (pages_from first count)) (key (space, first + count))
unfolding pages_from
from_rise space first zero = omega arith
from_rise space first (suc count) =
    let rest = from_rise space (suc first) count in
    let e : key (space, suc first + count) ≡ key (space, first + suc count) = omega arith in (
      omega arith,
      subst (Rises (suc (key (space, first))) (map (λ page. (space, page)) (pages_from (suc first) count))) e
          (rises_from (suc (key (space, first))) (key (space, suc first)) (key (space, suc first + count)) _ (omega arith) rest),
    )

where_true : (b : Bool) (low high : ℕ) (xs : List (ℕ × ℕ)) → Rises low xs high → Rises low (cond b xs []) high
where_true b low high xs h = grind (arith, rises_within)

places_rise : (kind : RunKind) (space : ℕ) (r : Run) → Rises (key (space, r.first)) (places kind space r) (key (space, r.first + r.count))
places_rise kind space r = where_true (eqb (run_kind_number r.kind) (run_kind_number kind)) _ _ _ (from_rise space r.first r.count)

-- the runs after one, up to the end of their space
runs_rise : (kind : RunKind) (parent space : ℕ) (before : Run) (runs : List Run) → before.first + before.count ≤ 2 ^ 35 → AreRuns parent (Some before) runs
    → Rises (key (space, before.first + before.count)) (flat_map (places kind space) runs) (key (suc space, 0))
runs_rise kind parent space before [] inside h = omega arith
runs_rise kind parent space before (run ∷ runs) inside h =
    let range = run_range parent (Some before) run h.0 in
    let begins = run_begins parent before run h.0 in
    rises_from (key (space, before.first + before.count)) (key (space, run.first)) (key (suc space, 0)) _ (omega (arith, begins))
    (rises_append (key (space, run.first)) (key (space, run.first + run.count)) (key (suc space, 0)) _ _ (places_rise kind space run)
    (runs_rise kind parent space run runs range.inside h.1))

all_runs_rise : (kind : RunKind) (parent space : ℕ) (runs : List Run) → AreRuns parent None runs
    → Rises (key (space, 0)) (flat_map (places kind space) runs) (key (suc space, 0))
all_runs_rise kind parent space [] h = omega arith
all_runs_rise kind parent space (run ∷ runs) h =
    let range = run_range parent None run h.0 in
    rises_from (key (space, 0)) (key (space, run.first)) (key (suc space, 0)) _ (omega arith)
    (rises_append (key (space, run.first)) (key (space, run.first + run.count)) (key (suc space, 0)) _ _ (places_rise kind space run)
    (runs_rise kind parent space run runs range.inside h.1))

spaces_rise : (kind : RunKind) (h : Header) (before : ℕ) (spaces : List Listed) → before ≤ 16 → AreSpaces h before spaces
    → Rises (key (suc before, 0)) (pages_of kind spaces) (key (17, 0))
spaces_rise kind h before [] low good = omega arith
spaces_rise kind h before (s ∷ spaces) low good =
    let above = good.0.above in
    rises_from (key (suc before, 0)) (key (s.space, 0)) (key (17, 0)) _ (omega (arith, above))
    (rises_append (key (s.space, 0)) (key (suc s.space, 0)) (key (17, 0)) _ _ (all_runs_rise kind h.parent s.space s.runs good.0.runs)
    (spaces_rise kind h s.space spaces good.0.within good.1))

-- a page has one place among those of a kind
pub place_once : (kind : RunKind) (h : Header) (spaces : List Listed) (p q : ℕ) (x : ℕ × ℕ) → AreSpaces h 0 spaces
    → slice_get (pages_of kind spaces) p ≡ Some x → slice_get (pages_of kind spaces) q ≡ Some x → p ≡ q
place_once kind h spaces p q x good a b = place_in (key (1, 0)) (key (17, 0)) (pages_of kind spaces) p q x (spaces_rise kind h 0 spaces (omega arith) good) a b

pub among_data : (spaces : List Listed) (place : ℕ) (x : ℕ × ℕ) → slice_get (pages_of Data spaces) place ≡ Some x → Contains (pages_of Data spaces) x
among_data spaces place x e = contains_at (pages_of Data spaces) place x e

-- there are no more of a kind than there are pages
pub few_of_kind : (kind : RunKind) (h : Header) (spaces : List Listed) → AreSpaces h 0 spaces → length (pages_of kind spaces) ≤ 2 ^ 39
few_of_kind kind h spaces good =
    let room = rises_length (key (1, 0)) (key (17, 0)) (pages_of kind spaces) (spaces_rise kind h 0 spaces (omega arith) good) in
    omega (arith, room)

-- ---- a page has one kind

pub kind_number_once : (a b : RunKind) → run_kind_number a ≡ run_kind_number b → a ≡ b
kind_number_once a b e = grind arith

test_holds : (b : Bool) (xs : List (ℕ × ℕ)) (x : ℕ × ℕ) → Contains (cond b xs []) x → b ≡ true
test_holds b xs x c = grind arith

has_kind : (kind : RunKind) (space : ℕ) (r : Run) (x : ℕ × ℕ) → Contains (places kind space r) x → run_kind_number r.kind ≡ run_kind_number kind
has_kind kind space r x c = eqb-true (run_kind_number r.kind) (run_kind_number kind) (test_holds _ _ x c)

-- of these two lists, one goes on after the other
apart : (low middle high : ℕ) (xs ys : List (ℕ × ℕ)) (x : ℕ × ℕ) → Rises low xs middle → Rises middle ys high → Contains xs x → Contains ys x → ⊥
apart low middle high xs ys x a b c d =
    let under = element_high low middle xs x a c in
    let over = element_low middle high ys x b d in
    omega (arith, under, over)

runs_kind : (parent space : ℕ) (before : Option Run) (runs : List Run) (a b : RunKind) (x : ℕ × ℕ) → AreRuns parent before runs
    → Contains (flat_map (places a space) runs) x → Contains (flat_map (places b space) runs) x → a ≡ b
runs_kind parent space before [] a b x h c d = absurd (omega (arith, c.1))
runs_kind parent space before (run ∷ runs) a b x h c d =
    let range = run_range parent before run h.0 in
    elim (Contains-append_cases (places a space run) (flat_map (places a space) runs) x c) [
      | inl p ↦ elim (Contains-append_cases (places b space run) (flat_map (places b space) runs) x d) [
        | inl q ↦ kind_number_once a b (sym (has_kind a space run x p) ∙ has_kind b space run x q)
        | inr q ↦ absurd (apart _ _ _ _ _ x (places_rise a space run) (runs_rise b parent space run runs range.inside h.1) p q)
      ]
      | inr p ↦ elim (Contains-append_cases (places b space run) (flat_map (places b space) runs) x d) [
        | inl q ↦ absurd (apart _ _ _ _ _ x (places_rise b space run) (runs_rise a parent space run runs range.inside h.1) q p)
        | inr q ↦ runs_kind parent space (Some run) runs a b x h.1 p q
      ]
    ]

-- a page is not of two kinds
pub kind_once : (h : Header) (before : ℕ) (spaces : List Listed) (a b : RunKind) (x : ℕ × ℕ) → AreSpaces h before spaces
    → Contains (pages_of a spaces) x → Contains (pages_of b spaces) x → a ≡ b
kind_once h before [] a b x good c d = absurd (omega (arith, c.1))
kind_once h before (s ∷ spaces) a b x good c d =
    let here_a = all_runs_rise a h.parent s.space s.runs good.0.runs in
    let here_b = all_runs_rise b h.parent s.space s.runs good.0.runs in
    elim (Contains-append_cases (flat_map (places a s.space) s.runs) (pages_of a spaces) x c) [
      | inl p ↦ elim (Contains-append_cases (flat_map (places b s.space) s.runs) (pages_of b spaces) x d) [
        | inl q ↦ runs_kind h.parent s.space None s.runs a b x good.0.runs p q
        | inr q ↦ absurd (apart _ _ _ _ _ x here_a (spaces_rise b h s.space spaces good.0.within good.1) p q)
      ]
      | inr p ↦ elim (Contains-append_cases (flat_map (places b s.space) s.runs) (pages_of b spaces) x d) [
        | inl q ↦ absurd (apart _ _ _ _ _ x here_b (spaces_rise a h s.space spaces good.0.within good.1) q p)
        | inr q ↦ kind_once h s.space spaces a b x good.1 p q
      ]
    ]

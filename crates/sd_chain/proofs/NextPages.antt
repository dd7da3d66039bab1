-- The least page of some runs, and the first of some spaces, from a place on.
use Rattle.std.proofs.Common.{◌≡◌, ◌⊎◌, ◌<◌, ◌≤◌, ◌+◌, ◌-◌, ◌^◌, ℕ, zero, suc, Bool, true, false, ◌&&◌, leb, ltb, min, max, List, [], ◌∷◌, map, take, length, get_or, slice_get, Contains, Option, Some, None, IfSome, IsSome, refl, sym, ◌∙◌, ap, subst, inl, inr, arith}
use Rattle.std.specs.Prelude.{◌↔◌, IsTrue}
use Rattle.std.specs.List.Sorted.{IsPartitionedBy, IsPartitionPoint}
use Rattle.std.proofs.lemmas.Bool.{and_parts, cases_lt, cases_eq, false≢true, leb-true, le-leb, ltb-true}
use Rattle.std.proofs.lemmas.Bool.Decides.{nat_tests}
use Rattle.std.proofs.lemmas.List.{get_or_default}
use Rattle.std.proofs.lemmas.Option.{slice_get-get_or}
use Rattle.sd_areas.specs.Pages.{is_within}
use Rattle.sd_image.specs.declared.header.Header.{Header}
use Rattle.sd_image.specs.declared.run.Run.{Run}
use Rattle.sd_image.specs.declared.run.RunKind.{RunKind}
use Rattle.sd_image.specs.declared.run.RunKind.TheVariants.{Data, Parent, Zero}
use Rattle.sd_image.specs.declared.table.SpaceTable.{SpaceTable}
use Rattle.sd_image.specs.Shows.{pages_of}
use Rattle.sd_image.specs.Table.{AreRuns, AreSpaces, IsTable, Listed, run_begins_after, has_source, listing_of}
use Rattle.sd_image.proofs.Members.{contains_cases, contains_front, contains_later}
use Rattle.sd_chain.specs.declared.way.Way.TheVariants as way
use Rattle.sd_chain.specs.Passes.{HasPageInRuns, HasSpace, IsBefore, IsAfterPlace, IsFirstPageFrom, IsFrom, IsLeastFrom, IsListed, IsNextOrNone, from_within, start_of}
use Rattle.sd_chain.proofs.Runs.{apart, within_from, within_high, within_low}
use Rattle.sd_chain.proofs.TablePages.{had, has_in_run}
use Rattle.sd_chain.proofs.Ways.{among_kind, kind_of, later_space, runs_of}

-- ---- runs

-- whether a run ends at a page or before it
abbrev pub ends_by : ℕ → Run → Bool
ends_by from run = leb (min (run.first + run.count) (2 ^ 64 - 1)) from

is_run : (parent : ℕ) (before : Option Run) (runs : List Run) (k : ℕ) (d : Run) → AreRuns parent before runs → k < length runs
    → (0 < (get_or runs k d).count) × ((get_or runs k d).first + (get_or runs k d).count ≤ 2 ^ 35)
is_run parent before [] k d h l = absurd (omega (arith, l))
is_run parent before (run ∷ runs) zero d h l =
    let outer = and_parts (ltb 0 run.count && leb (run.first + run.count) (2 ^ 35) && run_begins_after before run) (has_source parent run) h.0 in
    let middle = and_parts (ltb 0 run.count && leb (run.first + run.count) (2 ^ 35)) (run_begins_after before run) outer.0 in
    let inner = and_parts (ltb 0 run.count) (leb (run.first + run.count) (2 ^ 35)) middle.0 in
    (ltb-true _ _ inner.0, leb-true _ _ inner.1)
is_run parent before (run ∷ runs) (suc k) d h l = is_run parent (Some run) runs k d h.1 (omega (arith, l))

pub ends_partitioned : (parent from : ℕ) (runs : List Run) → AreRuns parent None runs → IsPartitionedBy (ends_by from) runs
ends_partitioned parent from runs h i j d l m e = elim (cases_lt i j) [
  | inl less ↦
      let gap = apart parent None runs i j d h less m in
      let last = leb-true _ _ e in
      le-leb _ _ (omega (arith, gap, last))
  | inr back ↦
      let same : i ≡ j = omega (arith, l, back) in
      subst (λ n. ends_by from (get_or runs n d) ≡ true) (sym same) e
]

abbrev pub IsPoint : ℕ → List Run → ℕ → Type 0
IsPoint from = IsPartitionPoint (λ run. ends_by from run ≡ true) (λ run. ends_by from run ≡ false)

-- the runs before the point have no page from there on
pub none_before : (parent from : ℕ) (runs : List Run) (at : ℕ) → AreRuns parent None runs → IsPoint from runs at → (page k : ℕ) (run : Run) → k < at → k < length runs
    → get_or runs k run ≡ run → from ≤ page → IsTrue (is_within run.first run.count page) → ⊥
none_before parent from runs at good point page k run less within is low has = grind (arith, leb-true, is_run, within_high)

pub none_left : (parent from : ℕ) (runs : List Run) (at : ℕ) → AreRuns parent None runs → IsPoint from runs at → length runs ≤ at → (page : ℕ) → from ≤ page → HasPageInRuns runs page → ⊥
none_left parent from runs at good point all page low has =
    none_before parent from runs at good point page has.1.0 has.0 (let within = has.1.1 in omega (arith, all, within)) has.1.1 has.1.2 low has.2

-- the run at the point has the least
pub least_there : (parent from : ℕ) (runs : List Run) (at : ℕ) (run : Run) (n : ℕ) (answer : Option ℕ) → AreRuns parent None runs → IsPoint from runs at → at < length runs
    → run ≡ get_or runs at run → n ≡ max run.first from → (IsSome answer ↔ (n < 2 ^ 35)) → IfSome answer (λ page. page ≡ n) → IsLeastFrom runs from answer
least_there parent from runs at run n answer good point within got is some value = by answer some value
  where
    parts : (0 < run.count) × (run.first + run.count ≤ 2 ^ 35)
    parts = subst (λ (r : Run). (0 < r.count) × (r.first + r.count ≤ 2 ^ 35)) (sym got) (is_run parent None runs at run good within)

    beyond : from < run.first + run.count
    beyond = grind arith

    least : (page : ℕ) → from ≤ page → HasPageInRuns runs page → n ≤ page
    least page low has = elim (cases_lt has.1.0 at) [
      | inl before ↦ absurd (none_before parent from runs at good point page has.1.0 has.0 before has.1.1 has.1.2 low has.2)
      | inr later ↦ elim (cases_lt at has.1.0) [
        | inl behind ↦
            let gap = apart parent None runs at has.1.0 has.0 good behind has.1.1 in
            let first : (get_or runs has.1.0 has.0).first ≡ has.0.first = ap (λ (r : Run). r.first) has.1.2 in
            let here : (get_or runs at has.0).first + (get_or runs at has.0).count ≡ run.first + run.count = here_at has.0 in
            let start = within_low has.0 page has.2 in
            let over = beyond in
            let some = parts.0 in
            omega (arith, gap, first, here, start, over, some, is)
        | inr back ↦
            let same : has.1.0 ≡ at = omega (arith, later, back) in
            let it : has.0 ≡ run = sym has.1.2 ∙ same_at has.1.0 has.0 same has.1.1 in
            let start = within_low has.0 page has.2 in
            let first : has.0.first ≡ run.first = ap (λ (r : Run). r.first) it in
            omega (arith, start, first, low, is)
      ]
    ]
      where
        any : (d : Run) → get_or runs at d ≡ run
        any d = get_or_default runs at d run within ∙ sym got

        here_at : (d : Run) → (get_or runs at d).first + (get_or runs at d).count ≡ run.first + run.count
        here_at d = ap (λ (r : Run). r.first + r.count) (any d)

        same_at : (k : ℕ) (d : Run) → k ≡ at → k < length runs → get_or runs k d ≡ run
        same_at k d same less = ap (λ m. get_or runs m d) same ∙ any d

    by : (answer : Option ℕ) → (IsSome answer ↔ (n < 2 ^ 35)) → IfSome answer (λ page. page ≡ n) → IsLeastFrom runs from answer
    by None some value =
        let over = beyond in
        let high = parts.1 in
        let more = parts.0 in
        absurd (false≢true (some.1 (omega (arith, is, over, high, more))))
    by (Some page) some value =
        let over = beyond in
        let more = parts.0 in (
          omega (arith, value, is),
          (run, (at, within, sym got), within_from run page (omega (arith, value, is)) (omega (arith, value, is, over, more))),
          λ other low has. let le = least other low has in omega (arith, value, le),
        )

-- ---- spaces

-- the pages of a space are those from this number on
from_low : (number page : ℕ) (place : ℕ × ℕ) → page < 2 ^ 35 → IsFrom place (number, page) → from_within number place ≤ page
from_low number page place small given = grind arith

from_high : (number page : ℕ) (place : ℕ × ℕ) → page < 2 ^ 35 → from_within number place ≤ page → IsFrom place (number, page)
from_high number page place small low = elim (cases_lt number place.0) [
  | inl below ↦ absurd (by below low)
  | inr high ↦ elim (cases_eq number place.0) [
    | inl same ↦ inr (sym same, at same low)
    | inr other ↦ inl (omega (arith, high, other))
  ]
]
  where
    by : number < place.0 → from_within number place ≤ page → ⊥
    by below low = grind (arith, nat_tests)

    at : number ≡ place.0 → from_within number place ≤ page → place.1 ≤ page
    at same low = grind (arith, nat_tests)

-- no page of a space is at a place or after it
abbrev pub IsPassed : ℕ × ℕ → SpaceTable → Type 0
IsPassed place s = (page : ℕ) → IsFrom place (s.space, page) → HasPageInRuns s.runs.items page → ⊥

-- a run of a table has pages below 2^35
small_page : (parent : ℕ) (runs : List Run) (page : ℕ) → AreRuns parent None runs → HasPageInRuns runs page → page < 2 ^ 35
small_page parent runs page good has = grind (arith, is_run, within_high)

listed_in : (items : List SpaceTable) (s : SpaceTable) → Contains items s → Contains (map listing_of items) (listing_of s)
listed_in [] s c = absurd (omega (arith, c.1))
listed_in (t ∷ items) s c = elim (contains_cases t s items c) [
  | inl e ↦ subst (λ (x : SpaceTable). Contains (map listing_of (t ∷ items)) (listing_of x)) (sym e) (contains_front (listing_of t) (map listing_of items))
  | inr later ↦ contains_later (listing_of t) (listing_of s) (map listing_of items) (listed_in items s later)
]

item_of : (items : List SpaceTable) (s : Listed) → Contains (map listing_of items) s → (t : SpaceTable) × Contains items t × (listing_of t ≡ s)
item_of [] s c = absurd (omega (arith, c.1))
item_of (t ∷ items) s c = elim (contains_cases (listing_of t) s (map listing_of items) c) [
  | inl e ↦ (t, contains_front t items, sym e)
  | inr later ↦ let rest = item_of items s later in (rest.0, contains_later t rest.0 items rest.1, rest.2)
]

pub runs_good : (h : Header) (items : List SpaceTable) (s : SpaceTable) → IsTable h (map listing_of items) → Contains items s → AreRuns h.parent None s.runs.items
runs_good h items s table c = runs_of h 0 (map listing_of items) (listing_of s) table.each (listed_in items s c)

pub passed : (h : Header) (items : List SpaceTable) (s : SpaceTable) (place : ℕ × ℕ) → IsTable h (map listing_of items) → Contains items s
    → IsLeastFrom s.runs.items (from_within s.space place) None → IsPassed place s
passed h items s place table c none page from has =
    none page (from_low s.space page place (small_page h.parent s.runs.items page (runs_good h items s table c) has) from) has

-- a space after others has a greater number
later_is_above : (h : Header) (before : ℕ) (items : List SpaceTable) (i j : ℕ) (d e : SpaceTable) → AreSpaces h before (map listing_of items) → i < j → j < length items
    → (get_or items i d).space < (get_or items j e).space
later_is_above h before [] i j d e good less within = absurd (omega (arith, within))
later_is_above h before (t ∷ items) i zero d e good less within = absurd (omega (arith, less))
later_is_above h before (t ∷ items) zero (suc j) d e good less within =
    later_space h t.space (map listing_of items) (listing_of (get_or items j e)) good.1 (listed_in items (get_or items j e) (there items j e (omega (arith, within))))
  where
    there : (items : List SpaceTable) (j : ℕ) (e : SpaceTable) → j < length items → Contains items (get_or items j e)
    there items j e within = (j, within, get_or_default items j (get_or items j e) e within)
later_is_above h before (t ∷ items) (suc i) (suc j) d e good less within = later_is_above h t.space items i j d e good.1 (omega (arith, less)) (omega (arith, within))

contains_take : (items : List SpaceTable) (at k : ℕ) (t : SpaceTable) → k < at → k < length items → get_or items k t ≡ t → Contains (take at items) t
contains_take [] at k t less within is = absurd (omega (arith, within))
contains_take (x ∷ items) zero k t less within is = absurd (omega (arith, less))
contains_take (x ∷ items) (suc at) zero t less within is = subst (Contains (x ∷ take at items)) is (contains_front x (take at items))
contains_take (x ∷ items) (suc at) (suc k) t less within is = contains_later x t (take at items) (contains_take items at k t (omega (arith, less)) (omega (arith, within)) is)

-- the spaces that were passed, and one more, or all
pub take_cases : (items : List SpaceTable) (at : ℕ) (s t : SpaceTable) → at < length items → s ≡ get_or items at s → Contains (take (suc at) items) t → Contains (take at items) t ⊎ (t ≡ s)
take_cases [] at s t within got c = absurd (omega (arith, within))
take_cases (x ∷ items) zero s t within got c = elim (contains_cases x t (take 0 items) c) [
  | inl e ↦ inr (e ∙ sym got)
  | inr none ↦ absurd (nothing t none)
]
  where
    nothing : (t : SpaceTable) → Contains [] t → ⊥
    nothing t c = omega (arith, c.1)
take_cases (x ∷ items) (suc at) s t within got c = elim (contains_cases x t (take (suc at) items) c) [
  | inl e ↦ inl (subst (Contains (x ∷ take at items)) (sym e) (contains_front x (take at items)))
  | inr later ↦ elim (take_cases items at s t (omega (arith, within)) got later) [
    | inl was ↦ inl (contains_later x t (take at items) was)
    | inr is ↦ inr is
  ]
]

pub take_all : (items : List SpaceTable) (at : ℕ) (t : SpaceTable) → length items ≤ at → Contains items t → Contains (take at items) t
take_all items at t all c = contains_take items at c.0 t (let within = c.1 in omega (arith, all, within)) c.1 c.2

-- the first space that has a page there has the first page
pub first_there : (h : Header) (items : List SpaceTable) (place : ℕ × ℕ) (at : ℕ) (s : SpaceTable) (found : ℕ) → IsTable h (map listing_of items)
    → ((t : SpaceTable) → Contains (take at items) t → IsPassed place t) → at < length items → s ≡ get_or items at s
    → IsLeastFrom s.runs.items (from_within s.space place) (Some found) → IsFirstPageFrom items place (Some (s.space, found))
first_there h items place at s found table before within got least = (
  from_high s.space found place (small_page h.parent s.runs.items found good least.1) least.0,
  (s, here, refl, least.1),
  λ page from has less. elim (cases_lt has.1.0 at) [
    | inl earlier ↦ before has.0 (in_take has.1.0 has.0 earlier has.1.1 has.1.2) page.1 (subst (λ n. IsFrom place (n, page.1)) has.2 from) has.3
    | inr later ↦ elim (cases_lt at has.1.0) [
      | inl behind ↦
          let above = later_is_above h 0 items at has.1.0 s has.0 table.each behind has.1.1 in
          let mine : (get_or items at s).space ≡ s.space = ap (λ (t : SpaceTable). t.space) (sym got) in
          let its : (get_or items has.1.0 has.0).space ≡ has.0.space = ap (λ (t : SpaceTable). t.space) has.1.2 in
          not_less page less (let number = has.2 in omega (arith, above, mine, its, number))
      | inr back ↦
          let same : has.1.0 ≡ at = omega (arith, later, back) in
          let it : has.0 ≡ s = sym has.1.2 ∙ ap (λ n. get_or items n has.0) same ∙ get_or_default items at has.0 s within ∙ sym got in
          let number : page.0 ≡ s.space = has.2 ∙ ap (λ (t : SpaceTable). t.space) it in
          let runs : HasPageInRuns s.runs.items page.1 = subst (λ (t : SpaceTable). HasPageInRuns t.runs.items page.1) it has.3 in
          let small = small_page h.parent s.runs.items page.1 good runs in
          let low = least.2 page.1 (from_low s.space page.1 place small (subst (λ n. IsFrom place (n, page.1)) number from)) runs in
          not_low page less number low
    ]
  ],
)
  where
    here : Contains items s
    here = (at, within, sym got)

    good : AreRuns h.parent None s.runs.items
    good = runs_good h items s table here

    in_take : (k : ℕ) (t : SpaceTable) → k < at → k < length items → get_or items k t ≡ t → Contains (take at items) t
    in_take k t less under is = contains_take items at k t less under is

    not_less : (page : ℕ × ℕ) → IsBefore page (s.space, found) → s.space < page.0 → ⊥
    not_less page given above = grind arith

    not_low : (page : ℕ × ℕ) → IsBefore page (s.space, found) → page.0 ≡ s.space → found ≤ page.1 → ⊥
    not_low page given number low = grind arith

pub none_there : (items : List SpaceTable) (place : ℕ × ℕ) → ((t : SpaceTable) → Contains items t → IsPassed place t) → IsFirstPageFrom items place None
none_there items place all page from has = all has.0 has.1 page.1 (subst (λ n. IsFrom place (n, page.1)) has.2 from) has.3

-- ---- tables

listed_had : (items : List SpaceTable) (page : ℕ × ℕ) → IsListed (map listing_of items) page → HasSpace items page
listed_had items page listed =
    let is = had (kind_of listed.0) (map listing_of items) page (among_kind (map listing_of items) page listed.0 listed.1) in
    let t = item_of items is.listed is.among in
    (t.0, t.1, is.space ∙ ap (λ (l : Listed). l.space) (sym t.2), (is.run, subst (λ (l : Listed). Contains l.runs is.run) (sym t.2) is.member, is.within))

by_kind : (spaces : List Listed) (page : ℕ × ℕ) (kind : RunKind) → Contains (pages_of kind spaces) page → IsListed spaces page
by_kind spaces page Data c = (way.Data c.0, at (pages_of Data spaces) page c)
  where
    at : (xs : List (ℕ × ℕ)) (x : ℕ × ℕ) → (c : Contains xs x) → slice_get xs c.0 ≡ Some x
    at xs x c = slice_get-get_or xs c.0 x c.1 ∙ ap Some c.2
by_kind spaces page Parent c = (way.Parent, c)
by_kind spaces page Zero c = (way.Zero, c)

had_listed : (items : List SpaceTable) (page : ℕ × ℕ) → HasSpace items page → IsListed (map listing_of items) page
had_listed items page has =
    subst (λ n. IsListed (map listing_of items) (n, page.1)) (sym has.2)
    (by_kind (map listing_of items) (has.0.space, page.1) has.3.0.kind
    (has_in_run has.3.0.kind (map listing_of items) (listing_of has.0) has.3.0 page.1 (listed_in items has.0 has.1) has.3.1 refl has.3.2))

-- from the place after a page on is after it
start_on : (after : Option (ℕ × ℕ)) (page : ℕ × ℕ) → IsAfterPlace after page → IsFrom (start_of after) page
start_on after page behind = grind arith

start_back : (after : Option (ℕ × ℕ)) (page : ℕ × ℕ) → IsFrom (start_of after) page → IsAfterPlace after page
start_back after page from = grind arith

pub next_of : (items : List SpaceTable) (after next : Option (ℕ × ℕ)) → IsFirstPageFrom items (start_of after) next → IsNextOrNone (map listing_of items) after next
next_of items after None none = λ page listed behind. none page (start_on after page behind) (listed_had items page listed)
next_of items after (Some page) found = record {
  listed = had_listed items page found.1;
  behind = start_back after page found.0;
  first = λ other listed behind less. found.2 other (start_on after other behind) (listed_had items other listed) less;
}

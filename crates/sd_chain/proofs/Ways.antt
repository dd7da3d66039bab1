-- The one way in which a table has a page.
use Rattle.std.proofs.Common.{◌≡◌, ◌<◌, ◌+◌, ◌-◌, ◌^◌, ℕ, zero, suc, true, min, List, [], ◌∷◌, map, length, get_or, Contains, Option, Some, None, refl, sym, ◌∙◌, ap, subst, inl, inr, arith}
use Rattle.std.specs.Prelude.{◌↔◌, All, IfSome, IsTrue, nat_eq}
use Rattle.std.specs.List.{slice_get, position}
use Rattle.std.specs.Option.{option_map}
use Rattle.std.proofs.lemmas.Bool.{eqb-true, eq-eqb}
use Rattle.std.proofs.lemmas.List.{length-map}
use Rattle.std.proofs.lemmas.List.Elements.{All-contains}
use Rattle.std.proofs.lemmas.List.Quantifiers.{position-Some}
use Rattle.std.proofs.lemmas.Option.{get_or_from_slice_get, slice_get-get_or, slice_get-map, slice_get_within, none-some, same_Some}
use Rattle.sd_areas.specs.Pages.{is_within}
use Rattle.sd_image.specs.declared.header.Header.{Header}
use Rattle.sd_image.specs.declared.run.Run.{Run}
use Rattle.sd_image.specs.declared.run.RunKind.{RunKind}
use Rattle.sd_image.specs.declared.run.RunKind.TheVariants.{Data, Parent, Zero}
use Rattle.sd_image.specs.declared.table.SpaceTable.{SpaceTable}
use Rattle.sd_image.specs.Laws.{FewPages, OneKind, OnePlace}
use Rattle.sd_image.specs.Table.{Listed, listing_of, AreRuns, AreSpaces, IsTable}
use Rattle.sd_chain.proofs.Runs.{within_high, within_low}
use Rattle.sd_image.specs.Shows.{pages_of}
use Rattle.sd_image.proofs.Members.{contains_at, contains_cases, contains_front, contains_later}
use Rattle.sd_chain.specs.declared.way.Way.{Way}
use Rattle.sd_chain.specs.declared.way.Way.TheVariants as way
use Rattle.sd_chain.specs.Placed.{after_run, after_runs, places_of, all_places_of}
use Rattle.sd_chain.specs.Chains.{AreAlike, way_on}
use Rattle.sd_chain.specs.Ways.{HasPage}
use Rattle.sd_chain.proofs.TablePages.{IsHad, had, has_in_run, none_passes, place_of_page}

-- ---- a table has a page in one way

pub kind_of : Way → RunKind
kind_of (way.Data place) = Data
kind_of way.Parent = Parent
kind_of way.Zero = Zero

pub among_kind : (spaces : List Listed) (page : ℕ × ℕ) (w : Way) → HasPage spaces page w → Contains (pages_of (kind_of w) spaces) page
unfolding kind_of
among_kind spaces page w h = grind (arith, contains_at)

one_way : OneKind → OnePlace → (h : Header) (spaces : List Listed) (page : ℕ × ℕ) (a b : Way) → IsTable h spaces → HasPage spaces page a → HasPage spaces page b → a ≡ b
unfolding kind_of
one_way kinds places h spaces page a b table x y = by a b x y (kinds h spaces (kind_of a) (kind_of b) page table (among_kind spaces page a x) (among_kind spaces page b y))
  where
    by : (a b : Way) → HasPage spaces page a → HasPage spaces page b → kind_of a ≡ kind_of b → a ≡ b
    by (way.Data p) (way.Data q) x y e = ap way.Data (places h spaces Data page p q table x y)
    by (way.Data p) way.Parent x y e = absurd cc
    by (way.Data p) way.Zero x y e = absurd cc
    by way.Parent (way.Data q) x y e = absurd cc
    by way.Parent way.Parent x y e = refl
    by way.Parent way.Zero x y e = absurd cc
    by way.Zero (way.Data q) x y e = absurd cc
    by way.Zero way.Parent x y e = absurd cc
    by way.Zero way.Zero x y e = refl

-- an answer is exact where it is the table's way, or where the table has none
abbrev pub IsExact : List Listed → ℕ × ℕ → Option Way → Type 0
IsExact spaces page answer = (w : Way) → (answer ≡ Some w) ↔ HasPage spaces page w

pub exact_some : OneKind → OnePlace → (h : Header) (spaces : List Listed) (page : ℕ × ℕ) (w : Way) → IsTable h spaces → HasPage spaces page w → IsExact spaces page (Some w)
exact_some kinds places h spaces page w table has other =
    (λ e. subst (HasPage spaces page) (same_Some w other e) has, λ x. ap Some (one_way kinds places h spaces page w other table has x))

exact_none : (spaces : List Listed) (page : ℕ × ℕ) (answer : Option Way) → answer ≡ None → (IsHad spaces page → ⊥) → IsExact spaces page answer
exact_none spaces page answer is never w =
    (λ e. absurd (none-some w (sym is ∙ e)), λ x. absurd (never (had (kind_of w) spaces page (among_kind spaces page w x))))

-- ---- the space that has the page

pub later_space : (h : Header) (before : ℕ) (spaces : List Listed) (s : Listed) → AreSpaces h before spaces → Contains spaces s → before < s.space
later_space h before [] s good c = absurd (omega (arith, c.1))
later_space h before (x ∷ spaces) s good c = elim (contains_cases x s spaces c) [
  | inl e ↦ subst (λ (y : Listed). before < y.space) (sym e) good.0.above
  | inr later ↦ let above = good.0.above in let rest = later_space h x.space spaces s good.1 later in omega (arith, above, rest)
]

pub space_once : (h : Header) (before : ℕ) (spaces : List Listed) (a b : Listed) → AreSpaces h before spaces → Contains spaces a → Contains spaces b → a.space ≡ b.space → a ≡ b
space_once h before [] a b good c d e = absurd (omega (arith, c.1))
space_once h before (x ∷ spaces) a b good c d e = elim (contains_cases x a spaces c) [
  | inl p ↦ elim (contains_cases x b spaces d) [
    | inl q ↦ p ∙ sym q
    | inr q ↦
        let above = later_space h x.space spaces b good.1 q in
        let same : a.space ≡ x.space = ap (λ (s : Listed). s.space) p in
        absurd (omega (arith, above, same, e))
  ]
  | inr p ↦ elim (contains_cases x b spaces d) [
    | inl q ↦
        let above = later_space h x.space spaces a good.1 p in
        let same : b.space ≡ x.space = ap (λ (s : Listed). s.space) q in
        absurd (omega (arith, above, same, e))
    | inr q ↦ space_once h x.space spaces a b good.1 p q e
  ]
]

pub runs_of : (h : Header) (before : ℕ) (spaces : List Listed) (s : Listed) → AreSpaces h before spaces → Contains spaces s → AreRuns h.parent None s.runs
runs_of h before [] s good c = absurd (omega (arith, c.1))
runs_of h before (x ∷ spaces) s good c = elim (contains_cases x s spaces c) [
  | inl e ↦ subst (λ (y : Listed). AreRuns h.parent None y.runs) (sym e) good.0.runs
  | inr later ↦ runs_of h x.space spaces s good.1 later
]

contains_listed : (items : List SpaceTable) (index : ℕ) (s : SpaceTable) → slice_get items index ≡ Some s → Contains (map listing_of items) (listing_of s)
contains_listed items index s there = contains_at (map listing_of items) index (listing_of s) (slice_get-map listing_of items index ∙ ap (option_map listing_of) there)

-- no space has the number: no way
pub no_space : (items : List SpaceTable) (space page : ℕ) (answer : Option Way) → answer ≡ None → position (λ (s : SpaceTable). nat_eq s.space space) items ≡ None
    → IsExact (map listing_of items) (space, page) answer
no_space items space page answer is none = exact_none (map listing_of items) (space, page) answer is (λ h. missing items h.listed none h.among (sym h.space))
  where
    missing : (items : List SpaceTable) (s : Listed) → position (λ (s : SpaceTable). nat_eq s.space space) items ≡ None → Contains (map listing_of items) s → s.space ≡ space → ⊥
    missing items s none c e =
        let from = back items s c in
        none_passes (λ (s : SpaceTable). nat_eq s.space space) items from.0 none from.1 (eq-eqb _ _ (ap (λ (l : Listed). l.space) from.2 ∙ e))
      where
        back : (items : List SpaceTable) (s : Listed) → Contains (map listing_of items) s → (t : SpaceTable) × Contains items t × (listing_of t ≡ s)
        back [] s c = absurd (omega (arith, c.1))
        back (t ∷ items) s c = elim (contains_cases (listing_of t) s (map listing_of items) c) [
          | inl e ↦ (t, contains_front t items, sym e)
          | inr later ↦ let rest = back items s later in (rest.0, contains_later t rest.0 items rest.1, rest.2)
        ]

-- the space has no run with the page: no way
pub no_run : (h : Header) (items : List SpaceTable) (index : ℕ) (s : SpaceTable) (space page : ℕ) (answer : Option Way) → answer ≡ None → IsTable h (map listing_of items)
    → slice_get items index ≡ Some s → s.space ≡ space
    → ((parent : ℕ) → AreRuns parent None s.runs.items → All (λ run. IsTrue (is_within run.first run.count page) → ⊥) s.runs.items)
    → IsExact (map listing_of items) (space, page) answer
no_run h items index s space page answer is table there number none = exact_none (map listing_of items) (space, page) answer is (λ had.
    let same : had.listed ≡ listing_of s = space_once h 0 (map listing_of items) had.listed (listing_of s) table.each had.among (contains_listed items index s there) (sym had.space ∙ sym number) in
    let runs = runs_of h 0 (map listing_of items) (listing_of s) table.each (contains_listed items index s there) in
    All-contains (λ (run : Run). IsTrue (is_within run.first run.count page) → ⊥) s.runs.items had.run (none h.parent runs)
    (subst (λ (l : Listed). Contains l.runs had.run) same had.member) had.within)

-- ---- the run that has the page

pub record IsAt (items : List SpaceTable) (index at : ℕ) (s : SpaceTable) (run : Run) (space page : ℕ) : Type 0 where
  pub there : slice_get items index ≡ Some s
  pub number : s.space ≡ space
  pub run_there : slice_get s.runs.items at ≡ Some run
  pub within : IsTrue (is_within run.first run.count page)

pub space_found : (items : List SpaceTable) (space : ℕ) (place : Option ℕ) → place ≡ position (λ (s : SpaceTable). nat_eq s.space space) items
    → IfSome place (λ at. (s : SpaceTable) → slice_get items at ≡ Some s → s.space ≡ space)
space_found items space None is = tt
space_found items space (Some index) is = λ s got.
    let at = position-Some (λ (s : SpaceTable). nat_eq s.space space) items index s (sym is) in
    eqb-true _ _ (subst (λ (t : SpaceTable). nat_eq t.space space ≡ true) (get_or_from_slice_get items index s s got) at.1)

pub space_there : (items : List SpaceTable) (index : ℕ) (s : SpaceTable) → index < length items → s ≡ get_or items index s → slice_get items index ≡ Some s
space_there items index s low got = slice_get-get_or items index s low ∙ ap Some (sym got)

pub run_at : (items : List SpaceTable) (index at : ℕ) (s : SpaceTable) (run : Run) (space page : ℕ) → slice_get items index ≡ Some s → s.space ≡ space
    → at < length s.runs.items → ((other : Run) → slice_get s.runs.items at ≡ Some other → IsTrue (is_within other.first other.count page)) → run ≡ get_or s.runs.items at run
    → IsAt items index at s run space page
run_at items index at s run space page got number low within is = grind (arith, slice_get-get_or)

-- so it has the pages after it up to its end
pub at_after : (items : List SpaceTable) (index at : ℕ) (s : SpaceTable) (run : Run) (space page k : ℕ) → IsAt items index at s run space page → k < run.count - (page - run.first)
    → IsAt items index at s run space (page + k)
at_after items index at s run space page k found less = grind arith

pub has_by_run : (kind : RunKind) (items : List SpaceTable) (index at : ℕ) (s : SpaceTable) (run : Run) (space page : ℕ) → IsAt items index at s run space page → run.kind ≡ kind
    → Contains (pages_of kind (map listing_of items)) (space, page)
has_by_run kind items index at s run space page found is =
    let among = contains_at s.runs.items at run found.run_there in
    subst (λ n. Contains (pages_of kind (map listing_of items)) (n, page)) found.number
    (has_in_run kind (map listing_of items) (listing_of s) run page (contains_listed items index s found.there) among is found.within)

pub has_data : FewPages → (h : Header) (items : List SpaceTable) (index at : ℕ) (s : SpaceTable) (run : Run) (row : List ℕ) (before space page place : ℕ) → IsTable h (map listing_of items)
    → IsAt items index at s run space page → run.kind ≡ Data → slice_get (all_places_of 0 items) index ≡ Some row → slice_get row at ≡ Some before
    → (before + (page - run.first) < 2 ^ 64 → place ≡ before + (page - run.first)) → HasPage (map listing_of items) (space, page) (way.Data place)
has_data few h items index at s run row before space page place table found is counted places sum =
    let room = few h (map listing_of items) Data table in
    let exact = place_of_page items index at s run row before page (omega (arith, room)) found.there counted found.run_there places is found.within in
    let within = slice_get_within (pages_of Data (map listing_of items)) (before + (page - run.first)) (s.space, page) exact in
    let plain : place ≡ before + (page - run.first) = sum (omega (arith, within, room)) in
    subst (λ k. slice_get (pages_of Data (map listing_of items)) k ≡ Some (space, page)) (sym plain)
    (subst (λ n. slice_get (pages_of Data (map listing_of items)) (before + (page - run.first)) ≡ Some (n, page)) found.number exact)

-- ---- the pages of a run from one on

abbrev pub left_of : Run → ℕ → ℕ
left_of run page = run.count - (page - run.first)

-- a table has the first of pages that it has alike
pub first_alike : (spaces : List Listed) (space page : ℕ) (w : Way) (count : ℕ) → AreAlike spaces (space, page) w count → HasPage spaces (space, page) w
first_alike spaces space page w count alike =
    subst (λ n. HasPage spaces (space, n) w) (let e : page + 0 ≡ page = omega arith in e) (by w (alike.each 0 alike.some))
  where
    by : (w : Way) → HasPage spaces (space, page + 0) (way_on w 0) → HasPage spaces (space, page + 0) w
    by (way.Data place) h = subst (λ n. HasPage spaces (space, page + 0) (way.Data n)) (let e : place + 0 ≡ place = omega arith in e) h
    by way.Parent h = h
    by way.Zero h = h

pub left_some : (run : Run) (page : ℕ) → IsTrue (is_within run.first run.count page) → 0 < left_of run page
left_some run page within = omega (arith, within_low run page within, within_high run page within)

pub alike_in_parent : (items : List SpaceTable) (index at : ℕ) (s : SpaceTable) (run : Run) (space page : ℕ) → IsAt items index at s run space page → run.kind ≡ Parent
    → AreAlike (map listing_of items) (space, page) way.Parent (left_of run page)
alike_in_parent items index at s run space page found is = record {
  some = left_some run page found.within;
  each = λ k less. has_by_run Parent items index at s run space (page + k) (at_after items index at s run space page k found less) is;
}

pub alike_zeros : (items : List SpaceTable) (index at : ℕ) (s : SpaceTable) (run : Run) (space page : ℕ) → IsAt items index at s run space page → run.kind ≡ Zero
    → AreAlike (map listing_of items) (space, page) way.Zero (left_of run page)
alike_zeros items index at s run space page found is = record {
  some = left_some run page found.within;
  each = λ k less. has_by_run Zero items index at s run space (page + k) (at_after items index at s run space page k found less) is;
}

pub alike_data : FewPages → (h : Header) (items : List SpaceTable) (index at : ℕ) (s : SpaceTable) (run : Run) (row : List ℕ) (before space page place : ℕ) → IsTable h (map listing_of items)
    → IsAt items index at s run space page → run.kind ≡ Data → slice_get (all_places_of 0 items) index ≡ Some row → slice_get row at ≡ Some before
    → place ≡ min (before + (page - run.first)) (2 ^ 64 - 1) → AreAlike (map listing_of items) (space, page) (way.Data place) (left_of run page)
alike_data few h items index at s run row before space page place table found is counted places sum = record {
  some = left_some run page found.within;
  each = λ k less.
      let low = within_low run page found.within in
      has_data few h items index at s run row before space (page + k) (place + k) table (at_after items index at s run space page k found less) is counted places
      (λ fits. omega (arith, sum, fits, low));
}

-- ---- the counted places

length-places_of : (n : ℕ) (runs : List Run) → length (places_of n runs) ≡ length runs
length-places_of n [] = refl
length-places_of n (run ∷ runs) = ap suc (length-places_of (after_run n run) runs)

length-all_places_of : (n : ℕ) (items : List SpaceTable) → length (all_places_of n items) ≡ length items
length-all_places_of n [] = refl
length-all_places_of n (s ∷ items) = ap suc (length-all_places_of (after_runs n s.runs.items) items)

pub row_there : {V : Type 0} (row_of : V → List ℕ) (rows : List V) (items : List SpaceTable) (index : ℕ) (s : SpaceTable) → map row_of rows ≡ all_places_of 0 items → slice_get items index ≡ Some s → index < length rows
row_there row_of rows items index s counted there = grind (arith, length-map, length-all_places_of, slice_get_within)

pub row_is : {V : Type 0} (row_of : V → List ℕ) (rows : List V) (items : List SpaceTable) (index : ℕ) (row : V) → map row_of rows ≡ all_places_of 0 items → index < length rows → row ≡ get_or rows index row
    → slice_get (all_places_of 0 items) index ≡ Some (row_of row)
row_is row_of rows items index row counted within got =
    ap (λ xs. slice_get xs index) (sym counted) ∙ slice_get-map row_of rows index ∙ ap (option_map row_of) (slice_get-get_or rows index row within ∙ ap Some (sym got))

row_long : (n : ℕ) (items : List SpaceTable) (index : ℕ) (s : SpaceTable) (row : List ℕ) → slice_get items index ≡ Some s → slice_get (all_places_of n items) index ≡ Some row → length row ≡ length s.runs.items
row_long n [] index s row there counted = absurd (none-some s there)
row_long n (x ∷ items) zero s row there counted =
    sym (ap length (same_Some (places_of n x.runs.items) row counted)) ∙ length-places_of n x.runs.items ∙ ap (λ (t : SpaceTable). length t.runs.items) (same_Some x s there)
row_long n (x ∷ items) (suc index) s row there counted = row_long (after_runs n x.runs.items) items index s row there counted

pub place_there : (items : List SpaceTable) (index at : ℕ) (s : SpaceTable) (run : Run) (row : List ℕ) (space page : ℕ) → IsAt items index at s run space page → slice_get (all_places_of 0 items) index ≡ Some row → at < length row
place_there items index at s run row space page found counted = grind (arith, row_long, slice_get_within)

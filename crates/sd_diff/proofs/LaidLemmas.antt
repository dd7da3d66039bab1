-- The runs of each space rise, by the entries of the memory that they make.
use Rattle.std.proofs.Common.{◌≡◌, ◌+◌, ◌-◌, ◌<◌, ◌≤◌, ℕ, Bool, true, false, nat_eq, T, List, [], ◌∷◌, ◌++◌, map, Contains, Option, Some, None, refl, sym, ◌∙◌, ap, subst, inl, inr, arith}
use Rattle.std.specs.Prelude.{All, filter, get_or}
use Rattle.std.specs.Option.{option_and_then}
use Rattle.std.specs.Ordering.{nat_cmp, is_lt, eq_by_cmp}
use Rattle.std.specs.FinMap as finmap
use Rattle.std.specs.FinMap.{is_sorted, get-entries, entries_sorted}
use Rattle.std.specs.FinMap.Entries.{below_all, find}
use Rattle.std.proofs.lemmas.Bool.{cond-true, cond-false}
use Rattle.std.proofs.lemmas.Bool.Decides.{nat_tests}
use Rattle.std.proofs.lemmas.List.{map-append}
use Rattle.std.proofs.lemmas.List.Elements.{All-contains, All-filter, All-head, All-tail, Contains-append_right, Contains-get_or, filter-append}
use Rattle.std.proofs.Math.Facts.{and_yes}
use Rattle.sd_areas.specs.declared.area.Area.{Area}
use Rattle.sd_areas.specs.Areas.{areas_of}
use Rattle.sd_areas.specs.Pages.{pages_from}
use Rattle.sd_areas.specs.PlainMemory.{Page, PlainMemory, Space}
use Rattle.sd_image.specs.Table.{Listed}
use Rattle.sd_image.proofs.Members.{contains_cases, contains_front, contains_later, contains_map, contains_none, from_map, into_parts}
use Rattle.sd_restore.specs.Fits.{prots_in}
use Rattle.sd_restore.specs.declared.placed_run.PlacedRun.{PlacedRun}
use Rattle.sd_restore.specs.Placed.{IsInSlots, IsLaidOut, IsWithin, PlacedPage, SpaceEntry, page_of_run, pages_in, placed_entries, placed_memory, placed_page, placed_pages, with_spaces}
use Rattle.sd_restore.proofs.MappedLemmas.{contains-pages_from}
use Rattle.sd_restore.proofs.MemoryLemmas.{After, pages_are}
use Rattle.sd_diff.specs.Held.{AreRising}
use Rattle.sd_diff.specs.Spaces.{ArePagesOf, runs_in}

-- ---- filters

pub in_filter : {X : Type 0} (test : X → Bool) (xs : List X) (x : X) → Contains xs x → test x ≡ true → Contains (filter test xs) x
in_filter test [] x c is = absurd (contains_none x c)
in_filter test (y ∷ xs) x c is = elim (contains_cases y x xs c) [
  | inl e ↦ subst (λ zs. Contains zs x) (sym (cond-true (test y) _ _ (ap test (sym e) ∙ is))) (subst (λ z. Contains (z ∷ filter test xs) x) e (contains_front x (filter test xs)))
  | inr later ↦ by (test y) refl (in_filter test xs x later is)
]
  where
    by : (b : Bool) → test y ≡ b → Contains (filter test xs) x → Contains (filter test (y ∷ xs)) x
    by true e rest = subst (λ zs. Contains zs x) (sym (cond-true (test y) _ _ e)) (contains_later y x (filter test xs) rest)
    by false e rest = subst (λ zs. Contains zs x) (sym (cond-false (test y) _ _ e)) rest

pub from_filter : {X : Type 0} (test : X → Bool) (xs : List X) (x : X) → Contains (filter test xs) x → Contains xs x × (test x ≡ true)
from_filter test [] x c = absurd (contains_none x c)
from_filter test (y ∷ xs) x c = by (test y) refl (from_filter test xs x)
  where
    by : (b : Bool) → test y ≡ b → (Contains (filter test xs) x → Contains xs x × (test x ≡ true)) → Contains (y ∷ xs) x × (test x ≡ true)
    by true e others = elim (contains_cases y x (filter test xs) (subst (λ zs. Contains zs x) (cond-true (test y) _ _ e) c)) [
      | inl same ↦ (subst (λ z. Contains (z ∷ xs) x) same (contains_front x xs), ap test same ∙ e)
      | inr later ↦ (let rest = others later in (contains_later y x xs rest.0, rest.1))
    ]
    by false e others = let rest = others (subst (λ zs. Contains zs x) (cond-false (test y) _ _ e) c) in (contains_later y x xs rest.0, rest.1)

none_kept : {X : Type 0} (test : X → Bool) (xs : List X) → ((x : X) → Contains xs x → test x ≡ true → ⊥) → filter test xs ≡ []
none_kept test [] none = refl
none_kept test (x ∷ xs) none = by (test x) refl (none_kept test xs (λ y c. none y (contains_later x y xs c)))
  where
    by : (b : Bool) → test x ≡ b → filter test xs ≡ [] → filter test (x ∷ xs) ≡ []
    by true e others = absurd (none x (contains_front x xs) e)
    by false e others = cond-false (test x) _ _ e ∙ others

keeps_all : (p : PlacedPage → Bool) (f : ℕ → PlacedPage) (xs : List ℕ) → ((x : ℕ) → p (f x) ≡ true) → filter p (map f xs) ≡ map f xs
keeps_all p f [] all = refl
keeps_all p f (x ∷ xs) all = cond-true _ _ _ (all x) ∙ ap (λ ys. f x ∷ ys) (keeps_all p f xs all)

keeps_none : (p : PlacedPage → Bool) (f : ℕ → PlacedPage) (xs : List ℕ) → ((x : ℕ) → p (f x) ≡ false) → filter p (map f xs) ≡ []
keeps_none p f [] none = refl
keeps_none p f (x ∷ xs) none = cond-false _ _ _ (none x) ∙ keeps_none p f xs none

-- ---- entries that are sorted

is_less : (a b : ℕ) → T (is_lt (nat_cmp a b)) → a < b
is_less a b is = grind (arith, nat_tests)

below_in : {X : Type 0} (k : ℕ) (es : List (ℕ × X)) (e : ℕ × X) → T (below_all nat_cmp k es) → Contains es e → k < e.0
below_in k [] e below c = absurd (contains_none e c)
below_in {X = X} k (f ∷ es) e below c =
    let parts = and_yes (is_lt (nat_cmp k f.0)) (below_all nat_cmp k es) below in
    elim (contains_cases f e es c) [
      | inl same ↦ (let less = is_less k f.0 parts.0 in let key = ap (λ (x : ℕ × X). x.0) same in omega (arith, less, key))
      | inr later ↦ below_in k es e parts.1 later
    ]

sorted_later : {X : Type 0} (xs ys : List (ℕ × X)) → T (is_sorted nat_cmp (xs ++ ys)) → T (is_sorted nat_cmp ys)
sorted_later [] ys sorted = sorted
sorted_later (x ∷ xs) ys sorted = sorted_later xs ys (and_yes (below_all nat_cmp x.0 (xs ++ ys)) (is_sorted nat_cmp (xs ++ ys)) sorted).1

sorted_apart : {X : Type 0} (xs ys : List (ℕ × X)) (a b : ℕ × X) → T (is_sorted nat_cmp (xs ++ ys)) → Contains xs a → Contains ys b → a.0 < b.0
sorted_apart [] ys a b sorted c d = absurd (contains_none a c)
sorted_apart {X = X} (x ∷ xs) ys a b sorted c d =
    let parts = and_yes (below_all nat_cmp x.0 (xs ++ ys)) (is_sorted nat_cmp (xs ++ ys)) sorted in
    elim (contains_cases x a xs c) [
      | inl same ↦ (let less = below_in x.0 (xs ++ ys) b parts.0 (Contains-append_right xs ys b d) in let key = ap (λ (x : ℕ × X). x.0) same in omega (arith, less, key))
      | inr later ↦ sorted_apart xs ys a b parts.1 later d
    ]

find_contains : {X : Type 0} (q : ℕ) (es : List (ℕ × X)) (x : X) → find nat_cmp q es ≡ Some x → Contains es (q, x)
find_contains q [] x is = absurd (let e : None ≡ Some x = is in cc)
find_contains {X = X} q (e ∷ es) x is = by (eq_by_cmp nat_cmp q e.0) refl (find_contains q es x)
  where
    tie : (q k : ℕ) → eq_by_cmp nat_cmp q k ≡ true → k ≡ q
    tie q k e = grind (arith, nat_tests)

    inside : (a b : X) → Some a ≡ Some b → a ≡ b
    inside a b same = cc

    by : (b : Bool) → eq_by_cmp nat_cmp q e.0 ≡ b → (find nat_cmp q es ≡ Some x → Contains es (q, x)) → Contains (e ∷ es) (q, x)
    by true t others = (0, omega arith, ap (λ k. (k, e.1)) (tie q e.0 t) ∙ ap (λ v. (q, v)) (inside e.1 x (sym (cond-true _ _ _ t) ∙ is)))
    by false t others = contains_later e (q, x) es (others (sym (cond-false _ _ _ t) ∙ is))

-- ---- a space of the memory

module _ (contents : List (List ℕ)) (spaces : List Listed) (pages : List PlacedPage) where
  abbrev memory : PlainMemory
  memory = placed_memory contents spaces pages

  abbrev Seen : Type 0
  Seen = List Area × List (ℕ × Page)

  at_space : (q : ℕ) (space : Space) → IsLaidOut contents spaces pages memory → finmap.get memory q ≡ Some space → finmap.entries space ≡ placed_entries contents q pages
  at_space q space laid got =
      let c : Contains (finmap.entries memory) (q, space) = find_contains q (finmap.entries memory) space (sym (get-entries memory q) ∙ got) in
      let d : Contains (map {B = SpaceEntry} (λ (e : ℕ × Space). (e.0, (areas_of (prots_in e.1), finmap.entries e.1))) (finmap.entries memory)) (q, (areas_of (prots_in space), finmap.entries space))
      = contains_map {Y = SpaceEntry} (λ (e : ℕ × Space). (e.0, (areas_of (prots_in e.1), finmap.entries e.1))) (finmap.entries memory) (q, space) c in
      let s = from_map {Y = SpaceEntry} (λ (s : Listed). (s.space, (s.areas, placed_entries contents s.space pages))) spaces (q, (areas_of (prots_in space), finmap.entries space))
      (subst (λ es. Contains es (q, (areas_of (prots_in space), finmap.entries space))) laid d) in
      ap (λ (e : SpaceEntry). e.1.1) s.2 ∙ ap (λ n. placed_entries contents n pages) (sym (ap (λ (e : SpaceEntry). e.0) s.2))

  none_there : (q : ℕ) → finmap.get memory q ≡ None → (p : PlacedPage) → Contains pages p → p.space ≡ q → ⊥
  none_there q none p c is =
      (subst (After contents (with_spaces finmap.empty spaces) pages q p.page)
      (ap (option_and_then (λ (space : Space). finmap.get space p.page)) none)
      (pages_are contents (with_spaces finmap.empty spaces) pages q p.page)).1 p c (is, refl)

  pub sorted_at : (q : ℕ) → IsLaidOut contents spaces pages memory → T (is_sorted nat_cmp (placed_entries contents q pages))
  sorted_at q laid = by (finmap.get memory q) refl
    where
      same : (a b : ℕ) → nat_eq a b ≡ true → a ≡ b
      same a b is = grind (arith, nat_tests)

      by : (o : Option Space) → finmap.get memory q ≡ o → T (is_sorted nat_cmp (placed_entries contents q pages))
      by None none = subst (λ (ps : List PlacedPage). T (is_sorted nat_cmp (map (λ (p : PlacedPage). (p.page, placed_page contents p)) ps)))
          (sym (none_kept (λ (p : PlacedPage). nat_eq p.space q) pages (λ p c is. none_there q none p c (same p.space q is)))) tt
      by (Some space) got = subst (λ es. T (is_sorted nat_cmp es)) (at_space q space laid got) (entries_sorted space)

-- ---- and its runs

module _ (contents : List (List ℕ)) (q : ℕ) where
  split : (r : PlacedRun) (runs : List PlacedRun) → placed_entries contents q (placed_pages (r ∷ runs))
      ≡ map (λ (p : PlacedPage). (p.page, placed_page contents p)) (filter (λ (p : PlacedPage). nat_eq p.space q) (pages_in r)) ++ placed_entries contents q (placed_pages runs)
  split r runs =
      ap (map (λ (p : PlacedPage). (p.page, placed_page contents p))) (filter-append (λ (p : PlacedPage). nat_eq p.space q) (pages_in r) (placed_pages runs))
      ∙ map-append (λ (p : PlacedPage). (p.page, placed_page contents p)) (filter (λ (p : PlacedPage). nat_eq p.space q) (pages_in r)) (filter (λ (p : PlacedPage). nat_eq p.space q) (placed_pages runs))

  -- a page of a run of the space has its entry
  entry_in : (runs : List PlacedRun) (s : PlacedRun) (k : ℕ) → Contains (runs_in q runs) s → k < s.count → Contains (placed_entries contents q (placed_pages runs)) (s.first + k, placed_page contents (page_of_run s k))
  entry_in runs s k c less =
      let kept = from_filter (λ (r : PlacedRun). nat_eq r.space q) runs s c in
      let page : Contains (pages_in s) (page_of_run s k) = contains_map (page_of_run s) (pages_from 0 s.count) k (subst (Contains (pages_from 0 s.count)) (let e : 0 + k ≡ k = omega arith in e) (contains-pages_from 0 s.count k less)) in
      let all : Contains (placed_pages runs) (page_of_run s k) = into_parts pages_in runs s (page_of_run s k) kept.0 page in
      contains_map (λ (p : PlacedPage). (p.page, placed_page contents p)) (filter (λ (p : PlacedPage). nat_eq p.space q) (placed_pages runs)) (page_of_run s k)
      (in_filter (λ (p : PlacedPage). nat_eq p.space q) (placed_pages runs) (page_of_run s k) all kept.1)

  pub rising_at : (runs : List PlacedRun) → All IsWithin runs → T (is_sorted nat_cmp (placed_entries contents q (placed_pages runs))) → AreRising (runs_in q runs)
  rising_at [] within sorted = tt
  rising_at (r ∷ runs) within sorted = by (nat_eq r.space q) refl (rising_at runs (All-tail IsWithin r runs within))
    where
      both : T (is_sorted nat_cmp (map {B = ℕ × Page} (λ (p : PlacedPage). (p.page, placed_page contents p)) (filter (λ (p : PlacedPage). nat_eq p.space q) (pages_in r)) ++ placed_entries contents q (placed_pages runs)))
      both = subst (λ es. T (is_sorted nat_cmp es)) (split r runs) sorted

      sorted_rest : T (is_sorted nat_cmp (placed_entries contents q (placed_pages runs)))
      sorted_rest = (sorted_later (map {B = ℕ × Page} (λ (p : PlacedPage). (p.page, placed_page contents p)) (filter (λ (p : PlacedPage). nat_eq p.space q) (pages_in r))) (placed_entries contents q (placed_pages runs)) both)

      some : 0 < r.count
      some = (All-head IsWithin r runs within).some

      last : nat_eq r.space q ≡ true → Contains {X = ℕ × Page} (map {B = ℕ × Page} (λ (p : PlacedPage). (p.page, placed_page contents p)) (filter (λ (p : PlacedPage). nat_eq p.space q) (pages_in r))) (r.first + (r.count - 1), placed_page contents (page_of_run r (r.count - 1)))
      last is = contains_map (λ (p : PlacedPage). (p.page, placed_page contents p)) (filter (λ (p : PlacedPage). nat_eq p.space q) (pages_in r)) (page_of_run r (r.count - 1))
          (in_filter (λ (p : PlacedPage). nat_eq p.space q) (pages_in r) (page_of_run r (r.count - 1))
          (contains_map (page_of_run r) (pages_from 0 r.count) (r.count - 1) (subst (Contains (pages_from 0 r.count)) (let e : 0 + (r.count - 1) ≡ r.count - 1 = omega arith in e) (contains-pages_from 0 r.count (r.count - 1) (let s = some in omega (arith, s))))) is)

      behind : nat_eq r.space q ≡ true → All (λ (s : PlacedRun). r.first + r.count ≤ s.first) (runs_in q runs)
      behind is k d less =
          let s = get_or (runs_in q runs) k d in
          let c : Contains (runs_in q runs) s = Contains-get_or (runs_in q runs) k d less in
          let kept = from_filter (λ (r : PlacedRun). nat_eq r.space q) runs s c in
          let within_s = All-contains IsWithin runs s (All-tail IsWithin r runs within) kept.0 in
          let first = sorted_apart {X = Page} (map {B = ℕ × Page} (λ (p : PlacedPage). (p.page, placed_page contents p)) (filter (λ (p : PlacedPage). nat_eq p.space q) (pages_in r))) (placed_entries contents q (placed_pages runs)) (r.first + (r.count - 1), placed_page contents (page_of_run r (r.count - 1))) (s.first + 0, placed_page contents (page_of_run s 0)) both (last is) (entry_in runs s 0 c within_s.some) in
          let one = some in
          omega (arith, first, one)

      by : (b : Bool) → nat_eq r.space q ≡ b → (T (is_sorted nat_cmp (placed_entries contents q (placed_pages runs))) → AreRising (runs_in q runs)) → AreRising (runs_in q (r ∷ runs))
      by true is others = subst AreRising (sym (cond-true (nat_eq r.space q) _ _ is)) (behind is, others sorted_rest)
      by false is others = subst AreRising (sym (cond-false (nat_eq r.space q) _ _ is)) (others sorted_rest)

pub pages_of_space : (count space : ℕ) (runs : List PlacedRun) → ArePagesOf count runs → ArePagesOf count (runs_in space runs)
pages_of_space count space runs are = record {
  within = All-filter (λ (r : PlacedRun). nat_eq r.space space) IsWithin runs are.within;
  slots = All-filter (λ (r : PlacedRun). nat_eq r.space space) (λ (r : PlacedRun). IsInSlots count r.there) runs are.slots;
}

-- The pages of an image rise, and the one that is next after the last that was taken is the first of those to come.
use Rattle.std.proofs.Common.{◌≡◌, ◌⊎◌, ℕ, zero, suc, ◌+◌, ◌<◌, ◌≤◌, Bool, true, false, nat_eq, if◌then◌else◌, List, [], ◌∷◌, ◌++◌, length, map, filter, Contains, Option, Some, None, IsTrue, refl, sym, ◌∙◌, ap, subst, inl, inr, arith}
use Rattle.std.specs.Prelude.{slice_get, slice_index_or}
use Rattle.std.specs.List.{AllByRecursion, flat_map}
use Rattle.std.proofs.lemmas.Bool.{both_ways, cases_Bool}
use Rattle.std.proofs.lemmas.Bool.Decides.{nat_tests}
use Rattle.sd_areas.specs.Pages.{pages_from}
use Rattle.sd_image.specs.declared.header.Header.{Header}
use Rattle.sd_image.specs.declared.run.Run.{Run}
use Rattle.sd_image.specs.declared.run.RunKind.{RunKind}
use Rattle.sd_image.specs.declared.run.RunKind.TheVariants.{Data, Parent, Zero}
use Rattle.sd_image.specs.Shows.{pages_of}
use Rattle.sd_image.specs.Table.{AreRuns, AreSpaces, IsTable, Listed, is_run_after, run_pages}
use Rattle.sd_image.specs.Words.{run_kind_number}
use Rattle.sd_chain.specs.declared.way.Way.TheVariants as way
use Rattle.sd_chain.specs.Passes.{IsBefore, IsAfterPlace, IsFrom, IsListed, IsNextOf}
use Rattle.sd_writing.specs.Entries.{Lists, entries_listed, ImageEntry, Place, has_kind, pages_by, place_of_entry, last_of}
use Rattle.sd_merge.specs.Merging.{IsFirstOf, listed_places}
use Rattle.sd_merge.proofs.TableLemmas.{in_space, places_cons, runs_places}

-- ---- the order

before_more : (a b c : Place) → IsBefore a b → IsBefore b c → IsBefore a c
before_more a b c given also = grind arith

not_before : (a : Place) → IsBefore a a → ⊥
not_before a given = grind arith

abbrev after_place : Place → Place
after_place a = (a.0, a.1 + 1)

from_before : (a p : Place) → IsFrom (after_place a) p → IsBefore a p
from_before a p given = grind arith

-- each from a place on, and after the one before
abbrev Rising : Place → List Place → Type 0
Rising least [] = Unit {0}
Rising least (p ∷ ps) = IsFrom least p × Rising (after_place p) ps

rising_before : (a : Place) (ps : List Place) → Rising (after_place a) ps → AllByRecursion (IsBefore a) ps
rising_before a [] are = tt
rising_before a (p ∷ ps) are = (from_before a p are.0, more ps (rising_before p ps are.1))
  where
    more : (qs : List Place) → AllByRecursion (IsBefore p) qs → AllByRecursion (IsBefore a) qs
    more [] all = tt
    more (q ∷ qs) all = (before_more a p q (from_before a p are.0) all.0, more qs all.1)

-- ---- the pages of an image rise

abbrev RisingPages : ℕ → List ℕ → Type 0
RisingPages least [] = Unit {0}
RisingPages least (p ∷ ps) = (least ≤ p) × RisingPages (p + 1) ps

run_rises : (first count : ℕ) (ys : List ℕ) (least : ℕ) → least ≤ first → RisingPages (first + count) ys → RisingPages least (pages_from first count ++ ys)
unfolding pages_from
run_rises first zero ys least low are = lower ys (first + zero) least (omega arith) are
  where
    lower : (ys : List ℕ) (a b : ℕ) → b ≤ a → RisingPages a ys → RisingPages b ys
    lower [] a b low are = tt
    lower (y ∷ ys) a b low are = (omega (arith, are.0), are.1)
run_rises first (suc count) ys least low are =
    (low, run_rises (suc first) count ys (first + 1) (omega arith) (subst (λ n. RisingPages n ys) (omega arith) are))

abbrev end_before : Option Run → ℕ
end_before None = 0
end_before (Some run) = run.first + run.count

begins : (parent : ℕ) (before : Option Run) (run : Run) → IsTrue (is_run_after parent before run) → end_before before ≤ run.first
begins parent before run after = grind arith

runs_rise : (parent : ℕ) (before : Option Run) (runs : List Run) → AreRuns parent before runs → RisingPages (end_before before) (flat_map run_pages runs)
runs_rise parent before [] are = tt
runs_rise parent before (run ∷ runs) are =
    run_rises run.first run.count (flat_map run_pages runs) (end_before before) (begins parent before run are.0) (runs_rise parent (Some run) runs are.1)

lower_places : (ps : List Place) (a b : Place) → IsFrom b a → Rising a ps → Rising b ps
lower_places [] a b low are = tt
lower_places (p ∷ ps) a b low are = (from_more b a p low are.0, are.1)
  where
    from_more : (a b c : Place) → IsFrom a b → IsFrom b c → IsFrom a c
    from_more a b c (inl x) (inl y) = inl (omega (arith, x, y))
    from_more a b c (inl x) (inr y) = inl (subst (λ n. a.0 < n) y.0 x)
    from_more a b c (inr x) (inl y) = inl (subst (λ n. n < c.0) (sym x.0) y)
    from_more a b c (inr x) (inr y) = inr (x.0 ∙ y.0, omega (arith, x.1, y.1))

space_rises : (space least : ℕ) (pages : List ℕ) (ys : List Place) → RisingPages least pages → Rising (space + 1, 0) ys → Rising (space, least) (map (in_space space) pages ++ ys)
space_rises space least [] ys are rest = lower_places ys (space + 1, 0) (space, least) (inl (omega arith)) rest
space_rises space least (p ∷ pages) ys are rest = (inr (refl, are.0), space_rises space (p + 1) pages ys are.1 rest)

spaces_rise : (h : Header) (before : ℕ) (spaces : List Listed) → AreSpaces h before spaces → Rising (before + 1, 0) (listed_places spaces)
spaces_rise h before [] are = tt
spaces_rise h before (s ∷ spaces) are =
    subst (Rising (before + 1, 0)) (sym (places_cons s spaces ∙ ap (λ (l : List Place). l ++ listed_places spaces) (runs_places s.space s.runs)))
    (lower_places (map (in_space s.space) (flat_map run_pages s.runs) ++ listed_places spaces) (s.space, 0) (before + 1, 0) (below before s.space are.0.above)
    (space_rises s.space 0 (flat_map run_pages s.runs) (listed_places spaces) (runs_rise h.parent None s.runs are.0.runs) (spaces_rise h s.space spaces are.1)))
  where
    below : (a b : ℕ) → a < b → IsFrom (a + 1, 0) (b, 0)
    below a b l = elim (cases_Bool (nat_eq (a + 1) b)) [
      | inl e ↦ inr ((let f : nat_eq (a + 1) b ≡ true = e in grind (arith, nat_tests)), omega arith)
      | inr e ↦ inl (let f : nat_eq (a + 1) b ≡ false = e in grind (arith, nat_tests))
    ]

-- ---- members

abbrev pub In : List Place → Place → Type 0
In [] p = ⊥
In (q ∷ qs) p = (q ≡ p) ⊎ In qs p

pub in_append : (xs ys : List Place) (p : Place) → In (xs ++ ys) p → In xs p ⊎ In ys p
in_append [] ys p is = inr is
in_append (x ∷ xs) ys p (inl e) = inl (inl e)
in_append (x ∷ xs) ys p (inr is) = elim (in_append xs ys p is) [ inl a ↦ inl (inr a) | inr b ↦ inr b ]

all_in : (P : Place → Type 0) (xs : List Place) (p : Place) → AllByRecursion P xs → In xs p → P p
all_in P [] p all is = absurd is
all_in P (x ∷ xs) p all (inl e) = subst P e all.0
all_in P (x ∷ xs) p all (inr is) = all_in P xs p all.1 is

pub in_at : (xs : List Place) (k : ℕ) (p : Place) → slice_get xs k ≡ Some p → In xs p
in_at [] k p e = absurd (let f : ◌≡◌ {A = Option Place} None (Some p) = e in cc)
in_at (x ∷ xs) zero p e = inl (let f : Some x ≡ Some p = e in cc)
in_at (x ∷ xs) (suc k) p e = inr (in_at xs k p e)

pub in_contains : (xs : List Place) (p : Place) → Contains xs p → In xs p
in_contains xs p c = by xs c.0 c.1 c.2
  where
    by : (xs : List Place) (k : ℕ) → k < length xs → slice_index_or xs k p ≡ p → In xs p
    by [] k within is = absurd (omega arith)
    by (x ∷ xs) zero within is = inl is
    by (x ∷ xs) (suc k) within is = inr (by xs k (omega arith) is)

pub at_in : (xs : List Place) (p : Place) → In xs p → (k : ℕ) × (slice_get xs k ≡ Some p)
at_in [] p is = absurd is
at_in (x ∷ xs) p (inl e) = (0, ap (λ (q : Place). Some q) e)
at_in (x ∷ xs) p (inr is) = let at = at_in xs p is in (suc at.0, at.1)

pub contains_in : (xs : List Place) (p : Place) → In xs p → Contains xs p
contains_in xs p is = by xs is
  where
    by : (xs : List Place) → In xs p → Contains xs p
    by [] is = absurd is
    by (x ∷ xs) (inl e) = (0, omega arith, e)
    by (x ∷ xs) (inr is) = let at = by xs is in (suc at.0, (let l : at.0 < length xs = at.1 in omega arith), at.2)

pub in_filter : (f : ImageEntry → Bool) (es : List ImageEntry) (p : Place) → In (map place_of_entry (filter f es)) p → In (map place_of_entry es) p
in_filter f [] p is = absurd is
in_filter f (e ∷ es) p is = by (f e) (in_filter f es p) is
  where
    by : (b : Bool) → (In (map place_of_entry (filter f es)) p → In (map place_of_entry es) p) → In (map place_of_entry (if b then e ∷ filter f es else filter f es)) p → In (map place_of_entry (e ∷ es)) p
    by true more (inl same) = inl same
    by true more (inr there) = inr (more there)
    by false more there = inr (more there)

same_number : (n : ℕ) → nat_eq n n ≡ true
same_number n = grind (arith, nat_tests)

-- each place has a kind
pub in_kind : (es : List ImageEntry) (p : Place) → In (map place_of_entry es) p → (kind : RunKind) × In (pages_by kind es) p
in_kind [] p is = absurd is
in_kind (e ∷ es) p (inl same) = (e.kind, by (has_kind e.kind e) (same_number (run_kind_number e.kind)))
  where
    by : (b : Bool) → b ≡ true → In (map place_of_entry (if b then e ∷ filter (has_kind e.kind) es else filter (has_kind e.kind) es)) p
    by true is = inl same
    by false is = absurd (both_ways false refl is)
in_kind (e ∷ es) p (inr there) = let k = in_kind es p there in (k.0, by k.0 (has_kind k.0 e) k.1)
  where
    by : (kind : RunKind) (b : Bool) → In (pages_by kind es) p → In (map place_of_entry (if b then e ∷ filter (has_kind kind) es else filter (has_kind kind) es)) p
    by kind true is = inr is
    by kind false is = is

pub listed_in : (spaces : List Listed) → Lists (entries_listed spaces) spaces → (p : Place) → IsListed spaces p → In (listed_places spaces) p
listed_in spaces lists p (way.Data place, has) = in_filter (has_kind Data) (entries_listed spaces) p (subst (λ (l : List Place). In l p) (lists Data) (in_at (pages_of Data spaces) place p has))
listed_in spaces lists p (way.Parent, has) = in_filter (has_kind Parent) (entries_listed spaces) p (subst (λ (l : List Place). In l p) (lists Parent) (in_contains (pages_of Parent spaces) p has))
listed_in spaces lists p (way.Zero, has) = in_filter (has_kind Zero) (entries_listed spaces) p (subst (λ (l : List Place). In l p) (lists Zero) (in_contains (pages_of Zero spaces) p has))

pub in_listed : (spaces : List Listed) → Lists (entries_listed spaces) spaces → (p : Place) → In (listed_places spaces) p → IsListed spaces p
in_listed spaces lists p is = by (in_kind (entries_listed spaces) p is).0 (in_kind (entries_listed spaces) p is).1
  where
    by : (kind : RunKind) → In (pages_by kind (entries_listed spaces)) p → IsListed spaces p
    by Data there = let at = at_in (pages_by Data (entries_listed spaces)) p there in (way.Data at.0, subst (λ (l : List Place). slice_get l at.0 ≡ Some p) (sym (lists Data)) at.1)
    by Parent there = (way.Parent, contains_in (pages_of Parent spaces) p (subst (λ (l : List Place). In l p) (sym (lists Parent)) there))
    by Zero there = (way.Zero, contains_in (pages_of Zero spaces) p (subst (λ (l : List Place). In l p) (sym (lists Zero)) there))

-- ---- the next page

abbrev last_place : Option Place → List Place → Option Place
last_place before [] = before
last_place before (p ∷ ps) = last_place (Some p) ps

last_is : (before : Option Place) (entries : List ImageEntry) → last_of before entries ≡ last_place before (map place_of_entry entries)
last_is before [] = refl
last_is before (e ∷ entries) = last_is (Some e.place) entries

-- those to come are after the last
rest_behind : (b : Place) (done rest : List Place) → Rising (after_place b) (done ++ rest) → AllByRecursion (λ p. IsAfterPlace (last_place (Some b) done) p) rest
rest_behind b [] rest are = rising_before b rest are
rest_behind b (d ∷ done) rest are = rest_behind d done rest are.1

-- and those that were taken aren't
done_not_behind : (b : Place) (done rest : List Place) → Rising (after_place b) (done ++ rest) → AllByRecursion (λ p. IsAfterPlace (last_place (Some b) done) p → ⊥) (b ∷ done)
done_not_behind b [] rest are = (not_before b, tt)
done_not_behind b (d ∷ done) rest are =
    let all = done_not_behind d done rest are.1 in
    ((λ behind. all.0 (further (last_place (Some d) done) behind)), all)
  where
    further : (last : Option Place) → IsAfterPlace last b → IsAfterPlace last d
    further None behind = tt
    further (Some last) behind = before_more last b d behind (from_before b d are.0)

-- after the first of those to come are the others
abbrev AreLater : List Place → Type 0
AreLater [] = Unit {0}
AreLater (r ∷ rest) = AllByRecursion (IsBefore r) rest

-- the pages of an image that were taken in order, and those to come
record AreSplit (done rest : List Place) : Type 0 where
  pub behind : AllByRecursion (λ p. IsAfterPlace (last_place None done) p) rest
  pub taken : AllByRecursion (λ p. IsAfterPlace (last_place None done) p → ⊥) done
  pub later : AreLater rest

later_of : (a : Place) (done rest : List Place) → Rising a (done ++ rest) → AreLater rest
later_of a [] [] are = tt
later_of a [] (r ∷ rest) are = rising_before r rest are.1
later_of a (d ∷ done) rest are = later_of (after_place d) done rest are.1

all_behind_none : (rest : List Place) → AllByRecursion (λ p. IsAfterPlace None p) rest
all_behind_none [] = tt
all_behind_none (r ∷ rest) = (tt, all_behind_none rest)

split_at_last : (a : Place) (done rest : List Place) → Rising a (done ++ rest) → AreSplit done rest
split_at_last a [] rest are = record { behind = all_behind_none rest; taken = tt; later = later_of a [] rest are }
split_at_last a (d ∷ done) rest are = record {
  behind = rest_behind d done rest are.1;
  taken = done_not_behind d done rest are.1;
  later = later_of a (d ∷ done) rest are;
}

splits : (h : Header) (spaces : List Listed) (entries : List ImageEntry) (rest : List Place) → IsTable h spaces → map place_of_entry entries ++ rest ≡ listed_places spaces → AreSplit (map place_of_entry entries) rest
splits h spaces entries rest table all = split_at_last (0 + 1, 0) (map place_of_entry entries) rest (subst (Rising (0 + 1, 0)) (sym all) (spaces_rise h 0 spaces table.each))

-- The page that an image lists next after those that were taken is the first of those to come.
pub next_is_first : (h : Header) (spaces : List Listed) (entries : List ImageEntry) (rest : List Place) (at : Place) → IsTable h spaces → Lists (entries_listed spaces) spaces
    → map place_of_entry entries ++ rest ≡ listed_places spaces → IsNextOf spaces (last_of None entries) at → IsFirstOf rest at
next_is_first h spaces entries rest at table lists all next = by rest refl (splits h spaces entries rest table all)
  where
    cursor : last_of None entries ≡ last_place None (map place_of_entry entries)
    cursor = last_is None entries

    behind : IsAfterPlace (last_place None (map place_of_entry entries)) at
    behind = subst (λ (o : Option Place). IsAfterPlace o at) cursor next.behind

    there : In (map place_of_entry entries ++ rest) at
    there = subst (λ (l : List Place). In l at) (sym all) (listed_in spaces lists at next.listed)

    by : (rs : List Place) → rest ≡ rs → AreSplit (map place_of_entry entries) rs → IsFirstOf rs at
    by [] e split =
        elim (in_append (map place_of_entry entries) [] at (subst (λ (l : List Place). In (map place_of_entry entries ++ l) at) e there)) [
          | inl done ↦ absurd (all_in (λ p. IsAfterPlace (last_place None (map place_of_entry entries)) p → ⊥) (map place_of_entry entries) at split.taken done behind)
          | inr none ↦ absurd none
        ]
    by (r ∷ rs) e split =
        elim (in_append (map place_of_entry entries) (r ∷ rs) at (subst (λ (l : List Place). In (map place_of_entry entries ++ l) at) e there)) [
          | inl done ↦ absurd (all_in (λ p. IsAfterPlace (last_place None (map place_of_entry entries)) p → ⊥) (map place_of_entry entries) at split.taken done behind)
          | inr (inl same) ↦ record { later = rs; is = ap (λ (p : Place). p ∷ rs) same }
          | inr (inr later) ↦ absurd (next.first r (in_listed spaces lists r first) (subst (λ (o : Option Place). IsAfterPlace o r) (sym cursor) split.behind.0)
              (all_in (IsBefore r) rs at split.later later))
        ]
      where
        first : In (listed_places spaces) r
        first = subst (λ (l : List Place). In l r) all (put_in (map place_of_entry entries) (subst (λ (l : List Place). In l r) (sym e) (inl refl)))
          where
            put_in : (xs : List Place) → In rest r → In (xs ++ rest) r
            put_in [] is = is
            put_in (x ∷ xs) is = inr (put_in xs is)

-- Where it lists none there, none is to come.
pub none_is_over : (h : Header) (spaces : List Listed) (entries : List ImageEntry) (rest : List Place) → IsTable h spaces → Lists (entries_listed spaces) spaces
    → map place_of_entry entries ++ rest ≡ listed_places spaces → ((page : Place) → IsListed spaces page → IsAfterPlace (last_of None entries) page → ⊥) → rest ≡ []
none_is_over h spaces entries [] table lists all none = refl
none_is_over h spaces entries (r ∷ rs) table lists all none =
    let split = splits h spaces entries (r ∷ rs) table all in
    absurd (none r (in_listed spaces lists r (subst (λ (l : List Place). In l r) all (put_in (map place_of_entry entries))))
    (subst (λ (o : Option Place). IsAfterPlace o r) (sym (last_is None entries)) split.behind.0))
  where
    put_in : (xs : List Place) → In (xs ++ r ∷ rs) r
    put_in [] = inl refl
    put_in (x ∷ xs) = inr (put_in xs)

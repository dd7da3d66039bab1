-- The memory that a store shows is within the limits of a page table.
use Rattle.std.proofs.Common.{◌≡◌, ◌+◌, ◌<◌, ◌≤◌, ◌^◌, ℕ, Bool, true, false, cond, ◌&&◌, nat_eq, nat_lt, nat_le, T, List, [], ◌∷◌, map, length, sum_by, Contains, Option, Some, None, MatchOption, IsSome, is_some, refl, sym, ◌∙◌, ap, subst, inl, inr, arith}
use Rattle.std.specs.List.{list_any}
use Rattle.std.specs.Option.{option_map, option_and_then}
use Rattle.std.specs.Ordering.{nat_cmp, is_lt, eq_by_cmp}
use Rattle.std.specs.Cmp.{nat_cmp_total}
use Rattle.std.specs.FinMap as finmap
use Rattle.std.specs.FinMap.{is_sorted, same_map, get-entries, get-from_entries, get-from_sorted, entries-from_sorted, entries_sorted, len-entries, nat_cmp-IsAntisymmetric}
use Rattle.std.specs.FinMap.Entries.{below_all, find}
use Rattle.std.proofs.lemmas.Bool.{and_parts, eqb-true, false≢true, leb-true, ltb-true}
use Rattle.std.proofs.lemmas.Bool.Decides.{nat_tests}
use Rattle.std.proofs.lemmas.List.{length-map}
use Rattle.std.proofs.lemmas.List.Folds.{Any-from_list_any}
use Rattle.std.proofs.lemmas.List.Sums.{sum_by-cons}
use Rattle.std.proofs.Math.Facts.{and_yes}
use Rattle.sd_areas.specs.declared.area.Area.{Area}
use Rattle.sd_areas.specs.declared.prot.Prot.{Prot}
use Rattle.sd_areas.specs.Areas.{AreAreasOf, AreInSpace, AreMaximal, areas_of, begins_after, prot_in}
use Rattle.sd_areas.specs.Laws.{AreasLaw, CountLaw, OneListLaw}
use Rattle.sd_areas.specs.Pages.{is_within}
use Rattle.sd_areas.specs.PlainMemory.{Page, PlainMemory, Space}
use Rattle.sd_image.specs.declared.header.Header.{Header}
use Rattle.sd_image.specs.Image.{Image, OpenImages}
use Rattle.sd_image.specs.Shows.{Holds, IsMemory, page_in}
use Rattle.sd_image.specs.Table.{AreSpaces, IsSpace, IsTable, Listed}
use Rattle.sd_image.proofs.Members.{contains_cases, contains_later}
use Rattle.sd_restore.specs.Fits.{IsWithinLimits, ShownIsWithinLimits, prots_in}
use Rattle.sd_restore.proofs.MappedLemmas.{space_of}

-- ---- the permissions of a space

found_prots : (es : List (ℕ × Page)) (q : ℕ) → find nat_cmp q (map (λ (e : ℕ × Page). (e.0, e.1.prot)) es) ≡ option_map (λ (p : Page). p.prot) (find nat_cmp q es)
found_prots [] q = refl
found_prots (e ∷ es) q = ap (λ o. cond (eq_by_cmp nat_cmp q e.0) (Some e.1.prot) o) (found_prots es q) ∙ moved (eq_by_cmp nat_cmp q e.0) e.1 (find nat_cmp q es)
  where
    moved : (b : Bool) (p : Page) (o : Option Page) → cond b (Some p.prot) (option_map (λ (p : Page). p.prot) o) ≡ option_map (λ (p : Page). p.prot) (cond b (Some p) o)
    moved true p o = refl
    moved false p o = refl

pub get_prots : (space : Space) (q : ℕ) → finmap.get (prots_in space) q ≡ option_map (λ (p : Page). p.prot) (finmap.get space q)
get_prots space q = get-from_entries nat_cmp_total _ q ∙ found_prots (finmap.entries space) q ∙ ap (option_map (λ (p : Page). p.prot)) (sym (get-entries space q))

below_prots : (k : ℕ) (es : List (ℕ × Page)) → below_all nat_cmp k (map (λ (e : ℕ × Page). (e.0, e.1.prot)) es) ≡ below_all nat_cmp k es
below_prots k [] = refl
below_prots k (e ∷ es) = ap (λ b. is_lt (nat_cmp k e.0) && b) (below_prots k es)

sorted_prots : (es : List (ℕ × Page)) → is_sorted nat_cmp (map (λ (e : ℕ × Page). (e.0, e.1.prot)) es) ≡ is_sorted nat_cmp es
sorted_prots [] = refl
sorted_prots (e ∷ es) =
    ap (λ b. b && is_sorted nat_cmp (map (λ (e : ℕ × Page). (e.0, e.1.prot)) es)) (below_prots e.0 es) ∙ ap (λ b. below_all nat_cmp e.0 es && b) (sorted_prots es)

len_prots : (space : Space) → finmap.len (prots_in space) ≡ finmap.len space
len_prots space =
    let es : List (ℕ × Prot) = map (λ (e : ℕ × Page). (e.0, e.1.prot)) (finmap.entries space) in
    let sorted : T (is_sorted nat_cmp es) = subst T (sym (sorted_prots (finmap.entries space))) (entries_sorted space) in
    let same : finmap.from_entries es ≡ finmap.from_sorted es =
    same_map nat_cmp_total nat_cmp-IsAntisymmetric (finmap.from_entries es) (finmap.from_sorted es) (λ q. get-from_entries nat_cmp_total es q ∙ sym (get-from_sorted nat_cmp es q sorted)) in
    len-entries (finmap.from_entries es) ∙ ap length (ap finmap.entries same ∙ entries-from_sorted nat_cmp es sorted) ∙ length-map (finmap.entries space) (λ (e : ℕ × Page). (e.0, e.1.prot))
    ∙ sym (len-entries space)

-- ---- areas

pub in_space : (before : Option Area) (areas : List Area) (page : ℕ) → AreMaximal before areas → IsSome (prot_in areas page) → page < 2 ^ 35
in_space before [] page good some = absurd (false≢true some)
in_space before (area ∷ areas) page good some = by (is_within area.first area.count page) (λ rest. in_space (Some area) areas page good.1 rest) refl some
  where
    by : (b : Bool) → (IsSome (prot_in areas page) → page < 2 ^ 35) → is_within area.first area.count page ≡ b → IsSome (cond b (Some area.prot) (prot_in areas page)) → page < 2 ^ 35
    by true later is some =
        let outer = and_parts (nat_lt 0 area.count && nat_le (area.first + area.count) (2 ^ 35)) (begins_after before area) good.0 in
        let inner = and_parts (nat_lt 0 area.count) (nat_le (area.first + area.count) (2 ^ 35)) outer.0 in
        let within = and_parts (nat_le area.first page) (nat_lt page (area.first + area.count)) is in
        let bound = leb-true _ _ inner.1 in
        let high = ltb-true _ _ within.1 in
        omega (arith, bound, high)
    by false later is some = later some

-- ---- entries

is_less : (a b : ℕ) → T (is_lt (nat_cmp a b)) → a < b
is_less a b is = grind (arith, nat_tests)

below_in : (k : ℕ) (es : List (ℕ × Space)) (e : ℕ × Space) → T (below_all nat_cmp k es) → Contains es e → k < e.0
below_in k [] e below c = absurd (omega (arith, c.1))
below_in k (f ∷ es) e below c =
    let parts = and_yes (is_lt (nat_cmp k f.0)) (below_all nat_cmp k es) below in
    elim (contains_cases f e es c) [
      | inl same ↦ let less = is_less k f.0 parts.0 in let key = ap (λ (x : ℕ × Space). x.0) same in omega (arith, less, key)
      | inr later ↦ below_in k es e parts.1 later
    ]

sorted_parts : (k : ℕ) (es : List (ℕ × Space)) → T (below_all nat_cmp k es && is_sorted nat_cmp es) → T (below_all nat_cmp k es) × T (is_sorted nat_cmp es)
sorted_parts k es t = by (below_all nat_cmp k es) t
  where
    by : (a : Bool) → T (a && is_sorted nat_cmp es) → T a × T (is_sorted nat_cmp es)
    by true t = (tt, t)
    by false t = absurd t

same_key : (q : ℕ) → eq_by_cmp nat_cmp q q ≡ true
same_key q = grind (arith, nat_tests)

other_key : (q k : ℕ) → k < q → eq_by_cmp nat_cmp q k ≡ false
other_key q k less = grind (arith, nat_tests)

find_in : (es : List (ℕ × Space)) (e : ℕ × Space) → T (is_sorted nat_cmp es) → Contains es e → find nat_cmp e.0 es ≡ Some e.1
find_in [] e sorted c = absurd (omega (arith, c.1))
find_in (f ∷ es) e sorted c =
    let parts = sorted_parts f.0 es sorted in
    elim (contains_cases f e es c) [
      | inl same ↦
          subst (λ (x : ℕ × Space). find nat_cmp x.0 (f ∷ es) ≡ Some x.1) (sym same) (ap (λ b. cond b (Some f.1) (find nat_cmp f.0 es)) (same_key f.0))
      | inr later ↦
          ap (λ b. cond b (Some f.1) (find nat_cmp e.0 es)) (other_key e.0 f.0 (below_in f.0 es e parts.0 later)) ∙ find_in es e parts.1 later
    ]

-- ---- sums

-- an entry's space is one of these, with as many pages
abbrev HasIts : List Listed → ℕ × Space → Type 0
HasIts spaces e = (s : Listed) × Contains spaces s × (s.space ≡ e.0) × (finmap.len e.1 ≤ sum_by (λ (a : Area). a.count) s.areas)

-- a space with a greater number is one of those after
skips : (s : Listed) (spaces : List Listed) (f : ℕ × Space) → s.space < f.0 → HasIts (s ∷ spaces) f → HasIts spaces f
skips s spaces f less its = grind arith

sum_within : (h : Header) (before : ℕ) (spaces : List Listed) (es : List (ℕ × Space)) → AreSpaces h before spaces → T (is_sorted nat_cmp es)
    → ((e : ℕ × Space) → Contains es e → HasIts spaces e) → sum_by (λ (e : ℕ × Space). finmap.len e.1) es ≤ sum_by (λ (s : Listed). sum_by (λ (a : Area). a.count) s.areas) spaces
sum_within h before [] [] good sorted its = omega arith
sum_within h before (s ∷ spaces) [] good sorted its = omega arith
sum_within h before [] (e ∷ es) good sorted its = let none = its e (0, omega arith, refl) in absurd (omega (arith, none.1.1))
sum_within h before (s ∷ spaces) (e ∷ es) good sorted its =
    let parts = sorted_parts e.0 es sorted in
    let first = its e (0, omega arith, refl) in
    let total = sum_by-cons (λ (s : Listed). sum_by (λ (a : Area). a.count) s.areas) s spaces in
    elim (contains_cases s first.0 spaces first.1) [
      | inl same ↦
          let key : first.0.space ≡ s.space = ap (λ (x : Listed). x.space) same in
          let number = first.2 in
          let one : finmap.len e.1 ≤ sum_by (λ (a : Area). a.count) s.areas = subst (λ (x : Listed). finmap.len e.1 ≤ sum_by (λ (a : Area). a.count) x.areas) same first.3 in
          let rest = sum_within h s.space spaces es good.1 parts.1 (λ f c.
          skips s spaces f (let less = below_in e.0 es f parts.0 c in omega (arith, less, key, number)) (its f (contains_later e f es c))) in
          let sum = sum_by-cons (λ (e : ℕ × Space). finmap.len e.1) e es in
          omega (arith, total, one, rest, sum)
      | inr later ↦
          let above = (space_of h s.space spaces first.0 good.1 later).2 in
          let number = first.2 in
          let rest = sum_within h s.space spaces (e ∷ es) good.1 sorted (λ f c. skips s spaces f (at_least f c above number) (its f c)) in
          omega (arith, total, rest)
    ]
  where
    at_least : (f : ℕ × Space) → Contains (e ∷ es) f → {n m : ℕ} → n < m → m ≡ e.0 → n < f.0
    at_least f c above number = elim (contains_cases e f es c) [
      | inl same ↦ let key = ap (λ (x : ℕ × Space). x.0) same in omega (arith, above, number, key)
      | inr later ↦ let less = below_in e.0 es f (sorted_parts e.0 es sorted).0 later in omega (arith, above, number, less)
    ]

-- ---- an image and its memory

image_table : (contents : List (List ℕ)) (images : List Image) (i : Image) → OpenImages contents images → Contains images i → IsTable i.header i.spaces
image_table [] images i is c = absurd (nothing i (subst (λ xs. Contains xs i) is c))
  where
    nothing : (i : Image) → Contains [] i → ⊥
    nothing i c = omega (arith, c.1)
image_table (file ∷ contents) images i (inl closed) c = image_table contents images i closed.1 c
image_table (file ∷ contents) images i (inr it) c = elim (contains_cases it.0 i it.1 (subst (λ xs. Contains xs i) it.2 c)) [
  | inl same ↦ subst (λ (k : Image). IsTable k.header k.spaces) (sym same) it.4.table
  | inr later ↦ image_table contents it.1 i it.5 later
]

listed_with : (number : ℕ) (spaces : List Listed) → list_any (λ (s : Listed). nat_eq s.space number) spaces ≡ true → (s : Listed) × Contains spaces s × (s.space ≡ number)
listed_with number spaces any =
    let found = Any-from_list_any (λ (s : Listed). nat_eq s.space number) spaces any in
    (found.1, (found.0, found.2, found.3), eqb-true _ _ found.4)

pub same_prot : (listed : Option Prot) (space page : ℕ) (images : List Image) (i : Image) (o : Option Page)
    → MatchOption o (listed ≡ None) (λ (p : Page). (listed ≡ Some p.prot) × Holds images space page p.bytes i) → listed ≡ option_map (λ (p : Page). p.prot) o
same_prot listed space page images i o is = grind arith

module _ (areas_law : AreasLaw) (one_list : OneListLaw) (counts : CountLaw) (contents : List (List ℕ)) (images : List Image) (i : Image) (memory : PlainMemory)
    (table : IsTable i.header i.spaces) (is : IsMemory images i memory) where
  record IsOf (number : ℕ) (space : Space) : Type 0 where
    listed : Listed
    member : Contains i.spaces listed
    number_is : listed.space ≡ number
    before : ℕ
    within : IsSpace i.header before listed
    are : AreAreasOf (prots_in space) listed.areas

  of : (number : ℕ) (space : Space) → Contains (finmap.entries memory) (number, space) → IsOf number space
  of number space c =
      let got : finmap.get memory number ≡ Some space = get-entries memory number ∙ find_in (finmap.entries memory) (number, space) (entries_sorted memory) c in
      let s = listed_with number i.spaces (sym (is.alive number) ∙ alive number space got) in
      let in_it = space_of i.header 0 i.spaces s.0 table.each s.1 in
      record {
        listed = s.0;
        member = s.1;
        number_is = s.2;
        before = in_it.0;
        within = in_it.1;
        are = record {
          maximal = in_it.1.areas;
          same = λ page.
              same_prot (prot_in s.0.areas page) s.0.space page images i (page_in memory s.0.space page) (is.pages s.0 s.1 page)
              ∙ ap (option_map (λ (p : Page). p.prot)) (ap (λ n. page_in memory n page) s.2 ∙ ap (option_and_then (λ (pages : Space). finmap.get pages page)) got)
              ∙ sym (get_prots space page);
        };
      }
    where
      alive : (number : ℕ) (space : Space) → finmap.get memory number ≡ Some space → finmap.contains_key memory number ≡ true
      alive number space got = ap is_some got

  limits : IsWithinLimits memory
  limits = record {
    spaces = λ number space c.
        let o = of number space c in
        let low : AreInSpace (prots_in space) = λ page some. in_space None o.listed.areas page o.are.maximal (subst IsSome (sym (o.are.same page)) some) in
        let one = one_list (prots_in space) (areas_of (prots_in space)) o.listed.areas (areas_law (prots_in space) low) o.are in
        record {
          some = let above = o.within.above in let number_is = o.number_is in omega (arith, above, number_is);
          few = let within = o.within.within in let number_is = o.number_is in omega (arith, within, number_is);
          areas = let few = o.within.few_areas in let long = ap length one in omega (arith, few, long);
        };
    pages =
        let sum = sum_within i.header 0 i.spaces (finmap.entries memory) table.each (entries_sorted memory) (λ e c.
        let o = of e.0 e.1 c in
        (o.listed, o.member, o.number_is, (let many = counts (prots_in e.1) o.listed.areas o.are in let len = len_prots e.1 in omega (arith, many, len)))) in
        let few = table.mapped in
        omega (arith, sum, few);
  }

pub shown_is_within_limits_lem : AreasLaw → OneListLaw → CountLaw → ShownIsWithinLimits
shown_is_within_limits_lem areas_law one_list counts contents checkpoint memory shows =
    let tip = shows.newest in
    limits areas_law one_list counts contents shows.images tip.0 memory (image_table contents shows.images tip.0 shows.store.slots tip.1.member) tip.3

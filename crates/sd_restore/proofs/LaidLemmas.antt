-- The entries of a memory, by the pages that were put into it.
use Rattle.std.proofs.Common.{◌≡◌, ◌≢◌, ◌⊎◌, ◌+◌, ◌<◌, ◌≤◌, ℕ, zero, suc, Bool, true, false, cond, ◌&&◌, ◌||◌, nat_eq, IsTrue, T, List, [], ◌∷◌, ◌++◌, map, Contains, Option, Some, None, IsSome, refl, sym, ◌∙◌, ap, subst, inl, inr, arith, append-nil}
use Rattle.std.specs.Prelude.{filter, is_some}
use Rattle.std.specs.List.{flat_map, list_any}
use Rattle.std.specs.Option.{option_map, option_and_then}
use Rattle.std.specs.Ordering.{nat_cmp, is_lt, eq_by_cmp}
use Rattle.std.specs.Cmp.{nat_cmp_total}
use Rattle.std.specs.FinMap as finmap
use Rattle.std.specs.FinMap.{is_sorted, get-entries, entries_sorted, nat_cmp-IsAntisymmetric}
use Rattle.std.specs.FinMap.Entries.{below_all, find, same_entries}
use Rattle.std.proofs.lemmas.Bool.{cond-true, cond-false, cases_eq}
use Rattle.std.proofs.lemmas.Bool.Decides.{nat_tests}
use Rattle.std.proofs.lemmas.List.{map-append}
use Rattle.std.proofs.lemmas.List.Elements.{filter-append}
use Rattle.sd_areas.specs.declared.area.Area.{Area}
use Rattle.sd_areas.specs.Areas.{AreAreasOf, AreInSpace, AreMaximal, areas_of, area_pages, is_area_after, prot_in}
use Rattle.sd_areas.specs.Laws.{AreasLaw, OneListLaw}
use Rattle.sd_areas.specs.Pages.{pages_from}
use Rattle.sd_areas.specs.PlainMemory.{Page, PlainMemory, Space}
use Rattle.sd_image.specs.declared.header.Header.{Header}
use Rattle.sd_image.specs.Image.{Image}
use Rattle.sd_image.specs.Shows.{IsMemory, page_in}
use Rattle.sd_image.specs.Table.{AreSpaces, Listed}
use Rattle.sd_restore.specs.Fits.{prots_in}
use Rattle.sd_restore.specs.Mapped.{Mapped, mapped_with, area_mapped, space_mapped, mapped_pages}
use Rattle.sd_restore.specs.Placed.{IsLaidOut, PlacedPage, mapped_of, placed_memory, placed_page, placed_entries, with_spaces, ArePlaced}
use Rattle.sd_restore.proofs.FitsLemmas.{get_prots, in_space, same_prot}
use Rattle.sd_restore.proofs.MappedLemmas.{space_of}
use Rattle.std.proofs.Math.Bool.{or-true}
use Rattle.std.proofs.Math.Facts.{and_yes}
use Rattle.sd_image.proofs.Members.{contains_cases}
use Rattle.sd_chain.specs.Catalog.{Opened, Places}
use Rattle.sd_chain.specs.Store.{IsCatalogOf}
use Rattle.sd_restore.specs.At.{IsAmong}
use Rattle.sd_restore.proofs.ShowLemmas.{stands_for}
use Rattle.sd_restore.proofs.MemoryLemmas.{After, empty_bare, pages_are, spaces_bare}

-- ---- lists that rise

both : (a b : Bool) → T a → T b → T (a && b)
both a b p q = grind arith

less_is : (a b : ℕ) → a < b → T (is_lt (nat_cmp a b))
less_is a b less = grind (arith, nat_tests)

is_less : (a b : ℕ) → T (is_lt (nat_cmp a b)) → a < b
is_less a b is = grind (arith, nat_tests)

tied : (q k : ℕ) → q ≡ k → eq_by_cmp nat_cmp q k ≡ true
tied q k e = grind (arith, nat_tests)

untied : (q k : ℕ) → q ≢ k → eq_by_cmp nat_cmp q k ≡ false
untied q k e = grind (arith, nat_tests)

same_number : (a b : ℕ) → a ≡ b → nat_eq a b ≡ true
same_number a b e = grind (arith, nat_tests)

other_number : (a b : ℕ) → a ≢ b → nat_eq a b ≡ false
other_number a b e = grind (arith, nat_tests)

-- strictly, from a number on
abbrev Rising : ℕ → List ℕ → Type 0
Rising low [] = Unit {0}
Rising low (x ∷ xs) = (low ≤ x) × Rising (suc x) xs

lower : (low high : ℕ) (xs : List ℕ) → low ≤ high → Rising high xs → Rising low xs
lower low high [] less r = tt
lower low high (x ∷ xs) less r = (let above = r.0 in omega (arith, less, above), r.1)

abbrev keys : {X : Type 0} → List (ℕ × X) → List ℕ
keys es = map (λ e. e.0) es

below_rising : {X : Type 0} (k low : ℕ) (es : List (ℕ × X)) → k < low → Rising low (keys es) → T (below_all nat_cmp k es)
below_rising k low [] less r = tt
below_rising k low (e ∷ es) less r =
    both (is_lt (nat_cmp k e.0)) (below_all nat_cmp k es) (less_is k e.0 (let above = r.0 in omega (arith, less, above)))
    (below_rising k (suc e.0) es (let above = r.0 in omega (arith, less, above)) r.1)

sorted_rising : {X : Type 0} (low : ℕ) (es : List (ℕ × X)) → Rising low (keys es) → T (is_sorted nat_cmp es)
sorted_rising low [] r = tt
sorted_rising low (e ∷ es) r = both (below_all nat_cmp e.0 es) (is_sorted nat_cmp es) (below_rising e.0 (suc e.0) es (omega arith) r.1) (sorted_rising (suc e.0) es r.1)

-- ---- values changed

module _ {X Y : Type 0} (v : X → Y) where
  abbrev changed : List (ℕ × X) → List (ℕ × Y)
  changed es = map (λ (e : ℕ × X). (e.0, v e.1)) es

  below_changed : (k : ℕ) (es : List (ℕ × X)) → below_all nat_cmp k (changed es) ≡ below_all nat_cmp k es
  below_changed k [] = refl
  below_changed k (e ∷ es) = ap (λ b. is_lt (nat_cmp k e.0) && b) (below_changed k es)

  sorted_changed : (es : List (ℕ × X)) → is_sorted nat_cmp (changed es) ≡ is_sorted nat_cmp es
  sorted_changed [] = refl
  sorted_changed (e ∷ es) = ap (λ b. b && is_sorted nat_cmp (changed es)) (below_changed e.0 es) ∙ ap (λ b. below_all nat_cmp e.0 es && b) (sorted_changed es)

  find_changed : (es : List (ℕ × X)) (q : ℕ) → find nat_cmp q (changed es) ≡ option_map v (find nat_cmp q es)
  find_changed [] q = refl
  find_changed (e ∷ es) q = ap (λ o. cond (eq_by_cmp nat_cmp q e.0) (Some (v e.1)) o) (find_changed es q) ∙ moved (eq_by_cmp nat_cmp q e.0) e.1 (find nat_cmp q es)
    where
      moved : (b : Bool) (x : X) (o : Option X) → cond b (Some (v x)) (option_map v o) ≡ option_map v (cond b (Some x) o)
      moved true x o = refl
      moved false x o = refl

-- ---- an entry is found

below_in : {X : Type 0} (k : ℕ) (es : List (ℕ × X)) (e : ℕ × X) → T (below_all nat_cmp k es) → Contains es e → k < e.0
below_in k [] e below c = absurd (omega (arith, c.1))
below_in k (f ∷ es) e below c =
    let two = and_yes (is_lt (nat_cmp k f.0)) (below_all nat_cmp k es) below in
    elim (contains_cases f e es c) [
      | inl same ↦ let less = is_less k f.0 two.0 in let key = ap (λ x. x.0) same in omega (arith, less, key)
      | inr later ↦ below_in k es e two.1 later
    ]

find_in : {X : Type 0} (es : List (ℕ × X)) (e : ℕ × X) → T (is_sorted nat_cmp es) → Contains es e → find nat_cmp e.0 es ≡ Some e.1
find_in [] e sorted c = absurd (omega (arith, c.1))
find_in (f ∷ es) e sorted c =
    let two = and_yes (below_all nat_cmp f.0 es) (is_sorted nat_cmp es) sorted in
    elim (contains_cases f e es c) [
      | inl same ↦ subst (λ x. find nat_cmp x.0 (f ∷ es) ≡ Some x.1) (sym same) (ap (λ b. cond b (Some f.1) (find nat_cmp f.0 es)) (tied f.0 f.0 refl))
      | inr later ↦ (let less = below_in f.0 es e two.0 later in
          ap (λ b. cond b (Some f.1) (find nat_cmp e.0 es)) (untied e.0 f.0 (λ same. omega (arith, less, same))) ∙ find_in es e two.1 later)
    ]

-- ---- the spaces

module _ {W : Type 0} (w : Listed → W) where
  abbrev by_space : List Listed → List (ℕ × W)
  by_space spaces = map (λ (s : Listed). (s.space, w s)) spaces

  rising_spaces : (h : Header) (before : ℕ) (spaces : List Listed) → AreSpaces h before spaces → Rising (suc before) (keys (by_space spaces))
  rising_spaces h before [] are = tt
  rising_spaces h before (s ∷ spaces) are = (let above = are.0.above in omega (arith, above), rising_spaces h s.space spaces are.1)

  abbrev Finds : List Listed → ℕ → Type 0
  Finds spaces q = ((s : Listed) × Contains spaces s × (s.space ≡ q) × (find nat_cmp q (by_space spaces) ≡ Some (w s)))
      ⊎ ((find nat_cmp q (by_space spaces) ≡ None) × (list_any (λ (s : Listed). nat_eq s.space q) spaces ≡ false))

  find_space : (spaces : List Listed) (q : ℕ) → Finds spaces q
  find_space [] q = inr (refl, refl)
  find_space (t ∷ spaces) q = elim (cases_eq t.space q) [
    | inl same ↦ inl (t, (0, omega arith, refl), same, cond-true _ _ _ (tied q t.space (sym same)))
    | inr differs ↦ (let apart = untied q t.space (λ e. differs (sym e)) in elim (find_space spaces q) [
      | inl one ↦ inl (one.0, (suc one.1.0, omega (arith, one.1.1), one.1.2), one.2, cond-false _ _ _ apart ∙ one.3)
      | inr none ↦ inr (cond-false _ _ _ apart ∙ none.0, ap (λ b. b || list_any (λ (s : Listed). nat_eq s.space q) spaces) (other_number t.space q differs) ∙ none.1)
    ])
  ]

-- ---- the pages of areas rise

rising_pages : (low first count : ℕ) (rest : List ℕ) → low ≤ first → Rising (first + count) rest → Rising low (pages_from first count ++ rest)
unfolding pages_from
rising_pages low first zero rest less r = lower low (first + 0) rest (omega (arith, less)) r
rising_pages low first (suc count) rest less r = (less, rising_pages (suc first) (suc first) count rest (omega arith) (subst (λ n. Rising n rest) (let e : first + suc count ≡ suc first + count = omega arith in e) r))

begins : (a b : Area) → IsTrue (is_area_after (Some a) b) → a.first + a.count ≤ b.first
begins a b after = grind (arith, nat_tests)

rising_after : (a : Area) (areas : List Area) → AreMaximal (Some a) areas → Rising (a.first + a.count) (flat_map area_pages areas)
rising_after a [] are = tt
rising_after a (b ∷ areas) are = rising_pages (a.first + a.count) b.first b.count (flat_map area_pages areas) (begins a b are.0) (rising_after b areas are.1)

rising_areas : (areas : List Area) → AreMaximal None areas → Rising 0 (flat_map area_pages areas)
rising_areas [] are = tt
rising_areas (b ∷ areas) are = rising_pages 0 b.first b.count (flat_map area_pages areas) (omega arith) (rising_after b areas are.1)

-- ---- the mapped pages of one space

abbrev in_it : ℕ → Mapped → Bool
in_it q m = nat_eq m.space q

abbrev numbers : List Mapped → List ℕ
numbers ms = map (λ (m : Mapped). m.page) ms

kept : (q n : ℕ) (a : Area) (xs : List ℕ) → nat_eq n q ≡ true → filter (in_it q) (mapped_with n a xs) ≡ mapped_with n a xs
kept q n a [] e = refl
kept q n a (x ∷ xs) e = cond-true _ _ _ e ∙ ap (λ ms. record { space = n; page = x; prot = a.prot } ∷ ms) (kept q n a xs e)

left_out : (q n : ℕ) (a : Area) (xs : List ℕ) → nat_eq n q ≡ false → filter (in_it q) (mapped_with n a xs) ≡ []
left_out q n a [] e = refl
left_out q n a (x ∷ xs) e = cond-false _ _ _ e ∙ left_out q n a xs e

numbered : (n : ℕ) (a : Area) (xs : List ℕ) → numbers (mapped_with n a xs) ≡ xs
numbered n a [] = refl
numbered n a (x ∷ xs) = ap (λ ys. x ∷ ys) (numbered n a xs)

of_space : (q n : ℕ) (areas : List Area) → nat_eq n q ≡ true → numbers (filter (in_it q) (flat_map (area_mapped n) areas)) ≡ flat_map area_pages areas
of_space q n [] e = refl
of_space q n (a ∷ areas) e =
    ap numbers (filter-append (in_it q) (area_mapped n a) (flat_map (area_mapped n) areas) ∙ ap (λ ms. ms ++ filter (in_it q) (flat_map (area_mapped n) areas)) (kept q n a (area_pages a) e))
    ∙ map-append (λ (m : Mapped). m.page) (area_mapped n a) (filter (in_it q) (flat_map (area_mapped n) areas))
    ∙ ap (λ xs. xs ++ numbers (filter (in_it q) (flat_map (area_mapped n) areas))) (numbered n a (area_pages a))
    ∙ ap (λ xs. area_pages a ++ xs) (of_space q n areas e)

of_other : (q n : ℕ) (areas : List Area) → nat_eq n q ≡ false → filter (in_it q) (flat_map (area_mapped n) areas) ≡ []
of_other q n [] e = refl
of_other q n (a ∷ areas) e =
    filter-append (in_it q) (area_mapped n a) (flat_map (area_mapped n) areas) ∙ ap (λ ms. ms ++ filter (in_it q) (flat_map (area_mapped n) areas)) (left_out q n a (area_pages a) e)
    ∙ of_other q n areas e

none_above : (h : Header) (before q : ℕ) (spaces : List Listed) → AreSpaces h before spaces → q ≤ before → filter (in_it q) (mapped_pages spaces) ≡ []
none_above h before q [] are less = refl
none_above h before q (s ∷ spaces) are less =
    let above = are.0.above in
    filter-append (in_it q) (space_mapped s) (mapped_pages spaces)
    ∙ ap (λ ms. ms ++ filter (in_it q) (mapped_pages spaces)) (of_other q s.space s.areas (other_number s.space q (λ e. omega (arith, above, less, e))))
    ∙ none_above h s.space q spaces are.1 (omega (arith, above, less))

rising_mapped : (h : Header) (before q : ℕ) (spaces : List Listed) → AreSpaces h before spaces → Rising 0 (numbers (filter (in_it q) (mapped_pages spaces)))
rising_mapped h before q [] are = tt
rising_mapped h before q (s ∷ spaces) are = elim (cases_eq s.space q) [
  | inl same ↦ subst (Rising 0) (sym (
      ap numbers (filter-append (in_it q) (space_mapped s) (mapped_pages spaces)
      ∙ ap (λ ms. filter (in_it q) (space_mapped s) ++ ms) (none_above h s.space q spaces are.1 (omega (arith, same))) ∙ append-nil (filter (in_it q) (space_mapped s)))
      ∙ of_space q s.space s.areas (same_number s.space q same)))
      (rising_areas s.areas are.0.areas)
  | inr differs ↦ subst (λ ms. Rising 0 (numbers ms)) (sym (
      filter-append (in_it q) (space_mapped s) (mapped_pages spaces)
      ∙ ap (λ ms. ms ++ filter (in_it q) (mapped_pages spaces)) (of_other q s.space s.areas (other_number s.space q differs))))
      (rising_mapped h s.space q spaces are.1)
]

-- ---- the pages that lie somewhere

module _ (contents : List (List ℕ)) (q : ℕ) where
  abbrev entry_of : PlacedPage → ℕ × Page
  entry_of p = (p.page, placed_page contents p)

  keys_placed : (pages : List PlacedPage) → keys (placed_entries contents q pages) ≡ numbers (filter (in_it q) (map mapped_of pages))
  keys_placed [] = refl
  keys_placed (p ∷ pages) = by (nat_eq p.space q) refl (keys_placed pages)
    where
      by : (b : Bool) → nat_eq p.space q ≡ b → keys (placed_entries contents q pages) ≡ numbers (filter (in_it q) (map mapped_of pages))
          → keys (placed_entries contents q (p ∷ pages)) ≡ numbers (filter (in_it q) (map mapped_of (p ∷ pages)))
      by true e rest = ap (λ (ps : List PlacedPage). keys (map entry_of ps)) (cond-true _ _ _ e) ∙ ap (λ xs. p.page ∷ xs) rest ∙ sym (ap numbers (cond-true _ _ _ e))
      by false e rest = ap (λ (ps : List PlacedPage). keys (map entry_of ps)) (cond-false _ _ _ e) ∙ rest ∙ sym (ap numbers (cond-false _ _ _ e))

  sorted_placed : (h : Header) (spaces : List Listed) (pages : List PlacedPage) → AreSpaces h 0 spaces → map mapped_of pages ≡ mapped_pages spaces → T (is_sorted nat_cmp (placed_entries contents q pages))
  sorted_placed h spaces pages are listed = sorted_rising 0 (placed_entries contents q pages)
      (subst (Rising 0) (sym (keys_placed pages ∙ ap (λ ms. numbers (filter (in_it q) ms)) listed)) (rising_mapped h 0 q spaces are))

  none_found : (pages : List PlacedPage) (page : ℕ) → ((p : PlacedPage) → Contains pages p → (p.space ≡ q) × (p.page ≡ page) → ⊥) → find nat_cmp page (placed_entries contents q pages) ≡ None
  none_found [] page none = refl
  none_found (p ∷ pages) page none =
      by (nat_eq p.space q) refl (none_found pages page (λ o c. none o (suc c.0, omega (arith, c.1), c.2)))
    where
      by : (b : Bool) → nat_eq p.space q ≡ b → find nat_cmp page (placed_entries contents q pages) ≡ None → find nat_cmp page (placed_entries contents q (p ∷ pages)) ≡ None
      by true e rest = ap (λ (ps : List PlacedPage). find nat_cmp page (map entry_of ps)) (cond-true _ _ _ e)
          ∙ cond-false _ _ _ (untied page p.page (λ same. none p (0, omega arith, refl) (here p.space q e, sym same))) ∙ rest
        where
          here : (a b : ℕ) → nat_eq a b ≡ true → a ≡ b
          here a b is = grind (arith, nat_tests)
      by false e rest = ap (λ (ps : List PlacedPage). find nat_cmp page (map entry_of ps)) (cond-false _ _ _ e) ∙ rest

  among_placed : (pages : List PlacedPage) (p : PlacedPage) → Contains pages p → p.space ≡ q → Contains (placed_entries contents q pages) (entry_of p)
  among_placed [] p c at = absurd (omega (arith, c.1))
  among_placed (o ∷ pages) p c at = elim (contains_cases o p pages c) [
    | inl same ↦ (let e = same_number o.space q (ap (λ (x : PlacedPage). x.space) (sym same) ∙ at) in
        subst (λ (ps : List PlacedPage). Contains (map entry_of ps) (entry_of p)) (sym (cond-true _ _ _ e)) (0, omega arith, ap entry_of (sym same)))
    | inr later ↦ by (nat_eq o.space q) refl (among_placed pages p later at)
  ]
    where
      by : (b : Bool) → nat_eq o.space q ≡ b → Contains (placed_entries contents q pages) (entry_of p) → Contains (placed_entries contents q (o ∷ pages)) (entry_of p)
      by true e rest = subst (λ (ps : List PlacedPage). Contains (map entry_of ps) (entry_of p)) (sym (cond-true _ _ _ e)) (suc rest.0, omega (arith, rest.1), rest.2)
      by false e rest = subst (λ (ps : List PlacedPage). Contains (map entry_of ps) (entry_of p)) (sym (cond-false _ _ _ e)) rest

-- ---- the memory

module _ (areas_law : AreasLaw) (one_list : OneListLaw) (contents : List (List ℕ)) (images : List Image) (i : Image) (h : Header) (spaces : List Listed) (pages : List PlacedPage)
    (are : AreSpaces h 0 spaces) (same : i.spaces ≡ spaces) (listed : map mapped_of pages ≡ mapped_pages spaces) (is : IsMemory images i (placed_memory contents spaces pages)) where
  abbrev memory : PlainMemory
  memory = placed_memory contents spaces pages

  abbrev Seen : Type 0
  Seen = List Area × List (ℕ × Page)

  abbrev seen : Space → Seen
  seen space = (areas_of (prots_in space), finmap.entries space)

  abbrev said : Listed → Seen
  said s = (s.areas, placed_entries contents s.space pages)

  page_of : (s : Listed) (space : Space) → finmap.get memory s.space ≡ Some space → (page : ℕ) → finmap.get space page ≡ page_in memory s.space page
  page_of s space got page = sym (ap (option_and_then (λ (pages : Space). finmap.get pages page)) got)

  found_there : (s : Listed) (page : ℕ) (o : Option Page) → After contents (with_spaces finmap.empty spaces) pages s.space page o → find nat_cmp page (placed_entries contents s.space pages) ≡ o
  found_there s page None none = none_found contents s.space pages page none.1
  found_there s page (Some found) (inl before) = absurd (let e : None ≡ Some found = sym (spaces_bare finmap.empty spaces empty_bare s.space page) ∙ before in cc)
  found_there s page (Some found) (inr put) =
      let p = put.one in
      subst (λ n. find nat_cmp n (placed_entries contents s.space pages) ≡ Some found) put.page_is
      (find_in (placed_entries contents s.space pages) (p.page, placed_page contents p) (sorted_placed contents s.space h spaces pages are listed) (among_placed contents s.space pages p put.among put.space_is)
      ∙ ap Some (sym put.is))

  entries_are : (s : Listed) (space : Space) → finmap.get memory s.space ≡ Some space → finmap.entries space ≡ placed_entries contents s.space pages
  entries_are s space got = same_entries nat_cmp nat_cmp_total nat_cmp-IsAntisymmetric (finmap.entries space) (placed_entries contents s.space pages) (entries_sorted space)
      (sorted_placed contents s.space h spaces pages are listed)
      (λ page. sym (get-entries space page) ∙ page_of s space got page
      ∙ sym (found_there s page (page_in memory s.space page) (pages_are contents (with_spaces finmap.empty spaces) pages s.space page)))

  areas_are : (s : Listed) (space : Space) → Contains spaces s → finmap.get memory s.space ≡ Some space → areas_of (prots_in space) ≡ s.areas
  areas_are s space c got =
      let maximal = (space_of h 0 spaces s are c).1.areas in
      let alike : (page : ℕ) → prot_in s.areas page ≡ finmap.get (prots_in space) page = λ page.
      same_prot (prot_in s.areas page) s.space page images i (page_in memory s.space page) (is.pages s (subst (λ xs. Contains xs s) (sym same) c) page)
      ∙ ap (option_map (λ (p : Page). p.prot)) (sym (page_of s space got page)) ∙ sym (get_prots space page) in
      let of : AreAreasOf (prots_in space) s.areas = record { maximal = maximal; same = alike } in
      let low : AreInSpace (prots_in space) = λ page some. in_space None s.areas page maximal (subst IsSome (sym (alike page)) some) in
      one_list (prots_in space) (areas_of (prots_in space)) s.areas (areas_law (prots_in space) low) of

  abbrev alive_at : ℕ → Bool
  alive_at q = list_any (λ (s : Listed). nat_eq s.space q) spaces

  as_seen : (q : ℕ) (o : Option Space) → finmap.get memory q ≡ o → is_some o ≡ alive_at q → Finds said spaces q → option_map seen o ≡ find nat_cmp q (by_space said spaces)
  as_seen q None got alive (inl one) = absurd (no_one one)
    where
      any_at : (spaces : List Listed) (s : Listed) → Contains spaces s → s.space ≡ q → list_any (λ (t : Listed). nat_eq t.space q) spaces ≡ true
      any_at [] s c e = absurd (omega (arith, c.1))
      any_at (t ∷ spaces) s c e = elim (contains_cases t s spaces c) [
        | inl first ↦ ap (λ b. b || list_any (λ (t : Listed). nat_eq t.space q) spaces) (same_number t.space q (ap (λ (x : Listed). x.space) (sym first) ∙ e))
        | inr later ↦ ap (λ b. nat_eq t.space q || b) (any_at spaces s later e) ∙ or-true (nat_eq t.space q)
      ]

      no_one : (s : Listed) × Contains spaces s × (s.space ≡ q) × (find nat_cmp q (by_space said spaces) ≡ Some (said s)) → ⊥
      no_one one = absurd (let e : false ≡ true = alive ∙ any_at spaces one.0 one.1 one.2 in cc)
  as_seen q None got alive (inr none) = sym none.0
  as_seen q (Some space) got alive (inl one) =
      let s = one.0 in
      let here : finmap.get memory s.space ≡ Some space = ap (finmap.get memory) one.2 ∙ got in
      ap Some (ap (λ areas. (areas, finmap.entries space)) (areas_are s space one.1 here) ∙ ap (λ entries. (s.areas, entries)) (entries_are s space here)) ∙ sym one.3
  as_seen q (Some space) got alive (inr none) = absurd (let e : true ≡ false = alive ∙ none.1 in cc)

  pub laid_out : IsLaidOut contents spaces pages memory
  laid_out = same_entries nat_cmp nat_cmp_total nat_cmp-IsAntisymmetric (changed seen (finmap.entries memory)) (by_space said spaces)
      (subst T (sym (sorted_changed seen (finmap.entries memory))) (entries_sorted memory))
      (sorted_rising 1 (by_space said spaces) (rising_spaces said h 0 spaces are))
      (λ q. find_changed seen (finmap.entries memory) q ∙ ap (option_map seen) (sym (get-entries memory q))
      ∙ as_seen q (finmap.get memory q) refl (is.alive q ∙ ap (list_any (λ (s : Listed). nat_eq s.space q)) same) (find_space said spaces q))

-- that of an image of a catalog
pub laid_image : AreasLaw → OneListLaw → (contents : List (List ℕ)) (places : Places) (i : Opened) (pages : List PlacedPage) (all : List Image) (image : Image) → IsCatalogOf contents places
    → IsAmong contents all i image → ArePlaced places i.header.serial (mapped_pages i.spaces) pages → IsLaidOut contents i.spaces pages (placed_memory contents i.spaces pages)
laid_image areas_law one_list contents places i pages all image catalog among placed =
    laid_out areas_law one_list contents all image image.header i.spaces pages
    (subst (AreSpaces image.header 0) among.opened.spaces among.opened.spelled.table.each) among.opened.spaces placed.are
    (stands_for contents places i pages catalog placed all image among)

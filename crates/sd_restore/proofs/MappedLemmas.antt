-- The mapped pages of an image: each is listed by its table, and has the permissions of its area.
use Rattle.std.proofs.Common.{◌≡◌, ◌<◌, ◌≤◌, ◌+◌, ◌-◌, ◌^◌, ℕ, zero, suc, true, false, cond, nat_eq, IsTrue, List, [], ◌∷◌, ◌++◌, map, Option, Some, None, Contains, refl, sym, ◌∙◌, ap, subst, arith, inl, inr}
use Rattle.std.specs.List.{flat_map}
use Rattle.std.proofs.lemmas.Bool.{cond-true, cond-false, cases_Bool}
use Rattle.std.proofs.lemmas.Bool.Decides.{nat_tests}
use Rattle.std.proofs.lemmas.List.{map-append}
use Rattle.std.proofs.lemmas.List.Elements.{Contains-append_right}
use Rattle.std.proofs.lemmas.Option.{slice_get-get_or}
use Rattle.sd_areas.specs.declared.area.Area.{Area}
use Rattle.sd_areas.specs.declared.prot.Prot.{Prot}
use Rattle.sd_areas.specs.Areas.{prot_in, area_pages, AreMaximal, is_area_after}
use Rattle.sd_areas.specs.Pages.{pages_from, is_within}
use Rattle.sd_image.specs.declared.header.Header.{Header}
use Rattle.sd_image.specs.declared.header.Kind.{Kind}
use Rattle.sd_image.specs.declared.header.Kind.TheVariants.{PreDump}
use Rattle.sd_image.specs.declared.run.Run.{Run}
use Rattle.sd_image.specs.declared.run.RunKind.{RunKind}
use Rattle.sd_image.specs.declared.run.RunKind.TheVariants.{Data, Parent, Zero}
use Rattle.sd_image.specs.Words.{run_kind_number}
use Rattle.sd_image.specs.Table.{Listed, run_pages, AreSpaces, IsSpace, Covers}
use Rattle.sd_image.specs.Shows.{pages_of}
use Rattle.sd_image.proofs.Members.{contains_cases, contains_map, contains_none, from_map, from_parts, into_parts}
use Rattle.sd_chain.specs.declared.way.Way.{Way}
use Rattle.sd_chain.specs.declared.way.Way.TheVariants as way
use Rattle.sd_chain.specs.Ways.{HasPage}
use Rattle.sd_restore.specs.Mapped.{Mapped, mapped_with, area_mapped, space_mapped, mapped_pages}

-- ---- pages from a first on

pub grown : (first count : ℕ) → pages_from first (suc count) ≡ pages_from first count ++ (first + count) ∷ []
unfolding pages_from
grown first zero = ap (λ n. n ∷ []) (omega arith)
grown first (suc count) = ap (λ xs. first ∷ xs) (grown (suc first) count ∙ ap (λ n. pages_from (suc first) count ++ n ∷ []) (omega arith))

pub no_pages : (first : ℕ) → pages_from first 0 ≡ []
unfolding pages_from
no_pages first = refl

pages_from-snoc : (first count : ℕ) → pages_from first (count + 1) ≡ pages_from first count ++ (first + count) ∷ []
pages_from-snoc first count = ap (pages_from first) (omega arith) ∙ grown first count

-- the page after the first k, and those after it
pages_split : (first count k : ℕ) → k < count → (rest : List ℕ) × (pages_from first count ≡ pages_from first k ++ (first + k) ∷ rest)
unfolding pages_from
pages_split first zero k less = absurd (omega arith)
pages_split first (suc count) zero less = (pages_from (suc first) count, ap (λ n. n ∷ pages_from (suc first) count) (omega arith))
pages_split first (suc count) (suc k) less =
    let later = pages_split (suc first) count k (omega arith) in
    (later.0, ap (λ xs. first ∷ xs) (later.1 ∙ ap (λ n. pages_from (suc first) k ++ n ∷ later.0) (omega arith)))

pub contains-pages_from : (first count k : ℕ) → k < count → Contains (pages_from first count) (first + k)
contains-pages_from first count k less =
    let split = pages_split first count k less in
    subst (λ xs. Contains xs (first + k)) (sym split.1) (Contains-append_right (pages_from first k) ((first + k) ∷ split.0) (first + k) (0, omega arith, refl))

among_from : (first count page : ℕ) → Contains (pages_from first count) page → (first ≤ page) × (page < first + count)
unfolding pages_from
among_from first zero page c = absurd (contains_none page c)
among_from first (suc count) page c = elim (contains_cases first page (pages_from (suc first) count) c) [
  | inl e ↦ (omega (arith, e), omega (arith, e))
  | inr later ↦ (let rest = among_from (suc first) count page later in (omega (arith, rest.0), omega (arith, rest.1)))
]

-- one more, with its space and its permissions
pub mapped_more : (space : ℕ) (area : Area) (k : ℕ) → mapped_with space area (pages_from area.first (k + 1))
    ≡ mapped_with space area (pages_from area.first k) ++ (record { space = space; page = area.first + k; prot = area.prot }) ∷ []
mapped_more space area k = ap (mapped_with space area) (pages_from-snoc area.first k) ∙ map-append _ (pages_from area.first k) ((area.first + k) ∷ [])

pub mapped_split : (space : ℕ) (area : Area) (k : ℕ) → k < area.count → (rest : List Mapped)
    × (area_mapped space area ≡ mapped_with space area (pages_from area.first k) ++ (record { space = space; page = area.first + k; prot = area.prot }) ∷ rest)
mapped_split space area k less =
    let split = pages_split area.first area.count k less in
    (mapped_with space area split.0, ap (mapped_with space area) split.1 ∙ map-append _ (pages_from area.first k) ((area.first + k) ∷ split.0))

-- ---- areas

pub area_within : (before : Option Area) (areas : List Area) (area : Area) → AreMaximal before areas → Contains areas area → area.first + area.count ≤ 2 ^ 35
area_within before [] area are c = absurd (contains_none area c)
area_within before (a ∷ areas) area are c = elim (contains_cases a area areas c) [
  | inl e ↦ subst (λ (k : Area). k.first + k.count ≤ 2 ^ 35) (sym e) (ends before a are.0)
  | inr later ↦ area_within (Some a) areas area are.1 later
]
  where
    ends : (before : Option Area) (a : Area) → IsTrue (is_area_after before a) → a.first + a.count ≤ 2 ^ 35
    ends before a after = grind (arith, nat_tests)

-- each later area begins after this one
behind : (a : Area) (areas : List Area) (area : Area) → AreMaximal (Some a) areas → Contains areas area → a.first + a.count ≤ area.first
behind a [] area are c = absurd (contains_none area c)
behind a (b ∷ areas) area are c =
    let next : a.first + a.count ≤ b.first = begins a b are.0 in
    elim (contains_cases b area areas c) [
      | inl e ↦ subst (λ (k : Area). a.first + a.count ≤ k.first) (sym e) next
      | inr later ↦ (let rest = behind b areas area are.1 later in omega (arith, next, rest))
    ]
  where
    begins : (a b : Area) → IsTrue (is_area_after (Some a) b) → a.first + a.count ≤ b.first
    begins a b after = grind (arith, nat_tests)

within_by : (first count page : ℕ) → first ≤ page → page < first + count → is_within first count page ≡ true
within_by first count page low high = grind (arith, nat_tests)

not_within : (first count page : ℕ) → first + count ≤ page → is_within first count page ≡ false
not_within first count page past = grind (arith, nat_tests)

-- a page of an area has its permissions
pub prot_of : (before : Option Area) (areas : List Area) (area : Area) (page : ℕ) → AreMaximal before areas → Contains areas area → Contains (area_pages area) page
    → prot_in areas page ≡ Some area.prot
prot_of before [] area page are c among = absurd (contains_none area c)
prot_of before (a ∷ areas) area page are c among =
    let range = among_from area.first area.count page among in
    elim (contains_cases a area areas c) [
      | inl e ↦ cond-true _ _ _ (subst (λ (k : Area). is_within k.first k.count page ≡ true) e (within_by area.first area.count page range.0 range.1)) ∙ ap (λ (k : Area). Some k.prot) (sym e)
      | inr later ↦
          (let next = behind a areas area are.1 later in
          cond-false _ _ _ (not_within a.first a.count page (omega (arith, next, range.0))) ∙ prot_of (Some a) areas area page are.1 later among)
    ]

-- a page with permissions has them from an area
pub area_of : (areas : List Area) (page : ℕ) (prot : Prot) → prot_in areas page ≡ Some prot → (area : Area) × Contains areas area × Contains (area_pages area) page × (area.prot ≡ prot)
area_of [] page prot is = absurd (let e : None ≡ Some prot = is in cc)
area_of (a ∷ areas) page prot is = elim (cases_Bool (is_within a.first a.count page)) [
  | inl within ↦ (a, (0, omega arith, refl), among within, same (sym (cond-true _ _ _ within) ∙ is))
  | inr apart ↦ (let rest = area_of areas page prot (sym (cond-false _ _ _ apart) ∙ is) in (rest.0, (suc rest.1.0, omega (arith, rest.1.1), rest.1.2), rest.2, rest.3))
]
  where
    same : Some a.prot ≡ Some prot → a.prot ≡ prot
    same e = cc

    bounds : (first count page : ℕ) → is_within first count page ≡ true → (first ≤ page) × (page < first + count)
    bounds first count page within = grind (arith, nat_tests)

    among : is_within a.first a.count page ≡ true → Contains (area_pages a) page
    among within =
        let b = bounds a.first a.count page within in
        subst (Contains (pages_from a.first a.count)) (let e : a.first + (page - a.first) ≡ page = omega (arith, b.0) in e) (contains-pages_from a.first a.count (page - a.first) (omega (arith, b.0, b.1)))

-- ---- spaces

pub space_of : (h : Header) (before : ℕ) (spaces : List Listed) (s : Listed) → AreSpaces h before spaces → Contains spaces s → (b : ℕ) × IsSpace h b s × (before < s.space)
space_of h before [] s are c = absurd (contains_none s c)
space_of h before (t ∷ spaces) s are c = elim (contains_cases t s spaces c) [
  | inl e ↦ (before, subst (IsSpace h before) (sym e) are.0, subst (λ (k : Listed). before < k.space) (sym e) are.0.above)
  | inr later ↦ (let rest = space_of h t.space spaces s are.1 later in (rest.0, rest.1, (let above = are.0.above in let more = rest.2 in omega (arith, above, more))))
]

-- the runs of an image that is restored have the pages of its areas
covers_pages : (kind : Kind) (areas : List Area) (runs : List Run) → (kind ≡ PreDump → ⊥) → Covers kind areas runs → flat_map run_pages runs ≡ flat_map area_pages areas
covers_pages kind areas runs restored covers = grind arith

-- ---- a mapped page is listed

same_kind : (n : ℕ) → nat_eq n n ≡ true
same_kind n = grind (arith, nat_tests)

in_some_way : (spaces : List Listed) (s : Listed) (page : ℕ) → Contains spaces s → Contains (flat_map run_pages s.runs) page
    → (kind : RunKind) × Contains (pages_of kind spaces) (s.space, page)
in_some_way spaces s page c among =
    let r = from_parts run_pages s.runs page among in
    let place : Contains (cond (nat_eq (run_kind_number r.0.kind) (run_kind_number r.0.kind)) (map (λ page. (s.space, page)) (run_pages r.0)) []) (s.space, page) =
    subst (λ xs. Contains xs (s.space, page)) (sym (cond-true _ _ _ (same_kind (run_kind_number r.0.kind)))) (contains_map (λ page. (s.space, page)) (run_pages r.0) page r.2) in (
      r.0.kind,
      into_parts (λ (t : Listed). flat_map (λ (q : Run). cond (nat_eq (run_kind_number q.kind) (run_kind_number r.0.kind)) (map (λ page. (t.space, page)) (run_pages q)) []) t.runs) spaces s (s.space, page) c
          (into_parts (λ (q : Run). cond (nat_eq (run_kind_number q.kind) (run_kind_number r.0.kind)) (map (λ page. (s.space, page)) (run_pages q)) []) s.runs r.0 (s.space, page) r.1 place),
    )

a_way : (spaces : List Listed) (page : ℕ × ℕ) (kind : RunKind) → Contains (pages_of kind spaces) page → (w : Way) × HasPage spaces page w
a_way spaces page Data c = (way.Data c.0, slice_get-get_or (pages_of Data spaces) c.0 page c.1 ∙ ap Some c.2)
a_way spaces page Parent c = (way.Parent, c)
a_way spaces page Zero c = (way.Zero, c)

pub has_page : (h : Header) (b : ℕ) (spaces : List Listed) (s : Listed) (page : ℕ) → (h.kind ≡ PreDump → ⊥) → IsSpace h b s → Contains spaces s
    → Contains (flat_map area_pages s.areas) page → (w : Way) × HasPage spaces (s.space, page) w
has_page h b spaces s page restored space c among =
    let found = in_some_way spaces s page c (subst (λ xs. Contains xs page) (sym (covers_pages h.kind s.areas s.runs restored space.covers)) among) in
    a_way spaces (s.space, page) found.0 found.1

-- ---- the list of mapped pages, and the areas

pub into_mapped : (spaces : List Listed) (s : Listed) (page : ℕ) (prot : Prot) → Contains spaces s → prot_in s.areas page ≡ Some prot
    → Contains (mapped_pages spaces) (record { space = s.space; page = page; prot = prot })
into_mapped spaces s page prot c is =
    let found = area_of s.areas page prot is in
    let here : Contains (area_mapped s.space found.0) (record { space = s.space; page = page; prot = found.0.prot }) =
    contains_map (λ page. record { space = s.space; page = page; prot = found.0.prot }) (area_pages found.0) page found.2 in
    into_parts space_mapped spaces s _ c (into_parts (area_mapped s.space) s.areas found.0 _ found.1
    (subst (λ prot. Contains (area_mapped s.space found.0) (record { space = s.space; page = page; prot = prot })) found.3 here))

pub from_mapped : (h : Header) (spaces : List Listed) (m : Mapped) → AreSpaces h 0 spaces → Contains (mapped_pages spaces) m
    → (s : Listed) × Contains spaces s × (m.space ≡ s.space) × (prot_in s.areas m.page ≡ Some m.prot)
from_mapped h spaces m are c =
    let s = from_parts space_mapped spaces m c in
    let area = from_parts (area_mapped s.0.space) s.0.areas m s.2 in
    let page = from_map (λ page. record { space = s.0.space; page = page; prot = area.0.prot }) (area_pages area.0) m area.2 in
    let maximal = (space_of h 0 spaces s.0 are s.1).1.areas in (
      s.0,
      s.1,
      ap (λ (k : Mapped). k.space) page.2,
      ap (λ (k : Mapped). prot_in s.0.areas k.page) page.2 ∙ prot_of None s.0.areas area.0 page.0 maximal area.1 page.1 ∙ ap (λ (k : Mapped). Some k.prot) (sym page.2),
    )

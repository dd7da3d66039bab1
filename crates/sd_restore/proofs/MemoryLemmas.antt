-- A memory of living spaces, with pages that are put into it one after the other.
use Rattle.std.proofs.Common.{◌≡◌, ◌≢◌, ◌⊎◌, ℕ, suc, Bool, true, false, cond, nat_eq, ◌||◌, IsTrue, List, [], ◌∷◌, ◌++◌, Option, Some, None, MatchOption, Contains, refl, sym, ◌∙◌, ap, subst, arith, inl, inr}
use Rattle.std.specs.Prelude.{unwrap_or, is_some, All, get_or}
use Rattle.std.specs.List.{list_any}
use Rattle.std.specs.Option.{option_and_then}
use Rattle.std.specs.Ordering.{nat_cmp, eq_by_cmp}
use Rattle.std.specs.FinMap as finmap
use Rattle.std.specs.FinMap.{get-insert, get-empty}
use Rattle.std.proofs.lemmas.Cmp.{nat_cmp_total}
use Rattle.std.proofs.lemmas.Bool.Decides.{nat_tests}
use Rattle.std.proofs.lemmas.Bool.{cond-true, cond-false, cases_eq}
use Rattle.sd_areas.specs.Memory.{put_page}
use Rattle.sd_areas.specs.PlainMemory.{Page, Space, PlainMemory}
use Rattle.sd_image.specs.Table.{Listed}
use Rattle.sd_image.specs.Shows.{page_in}
use Rattle.sd_image.proofs.Members.{contains_cases, contains_none}
use Rattle.sd_restore.specs.Placed.{PlacedPage, placed_page, with_spaces, with_pages}

tied : (q k : ℕ) → q ≡ k → eq_by_cmp nat_cmp q k ≡ true
tied q k e = grind (arith, nat_tests)

untied : (q k : ℕ) → q ≢ k → eq_by_cmp nat_cmp q k ≡ false
untied q k e = grind (arith, nat_tests)

of_space : (o : Option Space) (page : ℕ) → finmap.get (unwrap_or o finmap.empty) page ≡ option_and_then (λ pages. finmap.get pages page) o
of_space None page = get-empty nat_cmp page
of_space (Some pages) page = refl

-- ---- one page more

page_in_put : (m : PlainMemory) (s p q : ℕ) (f : Page) → page_in (put_page m s p f) s q ≡ cond (eq_by_cmp nat_cmp q p) (Some f) (page_in m s q)
page_in_put m s p q f =
    ap (option_and_then (λ pages. finmap.get pages q)) (get-insert nat_cmp_total m s (finmap.insert (unwrap_or (finmap.get m s) finmap.empty) p f) s ∙ cond-true _ _ _ (tied s s refl))
    ∙ get-insert nat_cmp_total (unwrap_or (finmap.get m s) finmap.empty) p f q
    ∙ ap (cond (eq_by_cmp nat_cmp q p) (Some f)) (of_space (finmap.get m s) q)

other_space : (m : PlainMemory) (s p other : ℕ) (f : Page) → other ≢ s → finmap.get (put_page m s p f) other ≡ finmap.get m other
other_space m s p other f differs = get-insert nat_cmp_total m s _ other ∙ cond-false _ _ _ (untied other s differs)

pub put_here : (m : PlainMemory) (s p : ℕ) (f : Page) → page_in (put_page m s p f) s p ≡ Some f
put_here m s p f = page_in_put m s p p f ∙ cond-true _ _ _ (tied p p refl)

pub put_elsewhere : (m : PlainMemory) (s p space page : ℕ) (f : Page) → ((s ≡ space) × (p ≡ page) → ⊥) → page_in (put_page m s p f) space page ≡ page_in m space page
put_elsewhere m s p space page f apart = grind (arith, cases_eq, page_in_put, cond-false, untied, other_space)

pub put_keeps : (m : PlainMemory) (s p space : ℕ) (f : Page) → IsTrue (finmap.contains_key m s) → finmap.contains_key (put_page m s p f) space ≡ finmap.contains_key m space
put_keeps m s p space f alive = elim (cases_eq space s) [
  | inl same ↦ ap is_some (get-insert nat_cmp_total m s _ space ∙ cond-true _ _ _ (tied space s same)) ∙ sym alive ∙ ap (finmap.contains_key m) (sym same)
  | inr differs ↦ ap is_some (other_space m s p space f differs)
]

-- ---- spaces

pub spaces_more : (memory : PlainMemory) (spaces : List Listed) (s : Listed) → with_spaces memory (spaces ++ s ∷ []) ≡ finmap.insert (with_spaces memory spaces) s.space finmap.empty
spaces_more memory [] s = refl
spaces_more memory (t ∷ spaces) s = spaces_more (finmap.insert memory t.space finmap.empty) spaces s

added : (memory : PlainMemory) (s space : ℕ) (b : Bool) → nat_eq s space ≡ b → finmap.contains_key (finmap.insert memory s finmap.empty) space ≡ (finmap.contains_key memory space || b)
added memory s space b is = ap is_some (get-insert nat_cmp_total memory s finmap.empty space) ∙ by b (turned s space b is)
  where
    turned : (s space : ℕ) (b : Bool) → nat_eq s space ≡ b → eq_by_cmp nat_cmp space s ≡ b
    turned s space true is = grind (arith, nat_tests)
    turned s space false is = grind (arith, nat_tests)

    or_true : (x : Bool) → true ≡ (x || true)
    or_true x = grind arith

    or_false : (x : Bool) → x ≡ (x || false)
    or_false x = grind arith

    by : (b : Bool) → eq_by_cmp nat_cmp space s ≡ b → is_some (cond (eq_by_cmp nat_cmp space s) (Some finmap.empty) (finmap.get memory space)) ≡ (finmap.contains_key memory space || b)
    by b e = grind arith

or_assoc : (a b c : Bool) → ((a || b) || c) ≡ (a || (b || c))
or_assoc a b c = grind arith

or_none : (a : Bool) → a ≡ (a || false)
or_none a = grind arith

pub spaces_alive : (memory : PlainMemory) (spaces : List Listed) (space : ℕ) → finmap.contains_key (with_spaces memory spaces) space
    ≡ (finmap.contains_key memory space || list_any (λ (s : Listed). nat_eq s.space space) spaces)
spaces_alive memory [] space = or_none (finmap.contains_key memory space)
spaces_alive memory (s ∷ spaces) space =
    spaces_alive (finmap.insert memory s.space finmap.empty) spaces space
    ∙ ap (λ b. b || list_any (λ (s : Listed). nat_eq s.space space) spaces) (added memory s.space space (nat_eq s.space space) refl)
    ∙ or_assoc (finmap.contains_key memory space) (nat_eq s.space space) (list_any (λ (s : Listed). nat_eq s.space space) spaces)

-- no space has a page
pub spaces_bare : (memory : PlainMemory) (spaces : List Listed) → ((space page : ℕ) → page_in memory space page ≡ None) → (space page : ℕ) → page_in (with_spaces memory spaces) space page ≡ None
spaces_bare memory [] none space page = none space page
spaces_bare memory (s ∷ spaces) none space page = spaces_bare (finmap.insert memory s.space finmap.empty) spaces (λ n q. elim (cases_eq n s.space) [
  | inl same ↦ ap (option_and_then (λ pages. finmap.get pages q)) (get-insert nat_cmp_total memory s.space finmap.empty n ∙ cond-true _ _ _ (tied n s.space same)) ∙ get-empty nat_cmp q
  | inr differs ↦ ap (option_and_then (λ pages. finmap.get pages q)) (get-insert nat_cmp_total memory s.space finmap.empty n ∙ cond-false _ _ _ (untied n s.space differs)) ∙ none n q
]) space page

pub empty_bare : (space page : ℕ) → page_in finmap.empty space page ≡ None
empty_bare space page = ap (option_and_then (λ (pages : Space). finmap.get pages page)) (get-empty nat_cmp space)

pub empty_dead : (memory : PlainMemory) (space : ℕ) → memory ≡ finmap.empty → finmap.contains_key memory space ≡ false
empty_dead memory space bare = ap (λ m. is_some (finmap.get m space)) bare ∙ ap is_some (get-empty nat_cmp space)

-- ---- pages

pub pages_more : (contents : List (List ℕ)) (memory : PlainMemory) (pages : List PlacedPage) (p : PlacedPage)
    → with_pages contents memory (pages ++ p ∷ []) ≡ put_page (with_pages contents memory pages) p.space p.page (placed_page contents p)
pages_more contents memory [] p = refl
pages_more contents memory (q ∷ pages) p = pages_more contents (put_page memory q.space q.page (placed_page contents q)) pages p

-- the space of each page is alive
abbrev pub AreAlive : PlainMemory → List PlacedPage → Type 0
AreAlive memory = All (λ (p : PlacedPage). IsTrue (finmap.contains_key memory p.space))

pub put_alive : (memory : PlainMemory) (s p : ℕ) (f : Page) (pages : List PlacedPage) → IsTrue (finmap.contains_key memory s) → AreAlive memory pages → AreAlive (put_page memory s p f) pages
put_alive memory s p f pages here alive k d less = put_keeps memory s p (get_or pages k d).space f here ∙ alive k d less

all_front : {X : Type 0} (P : X → Type 0) (x : X) (xs : List X) → All P (x ∷ xs) → P x
all_front P x xs all = all 0 x (omega arith)

all_later : {X : Type 0} (P : X → Type 0) (x : X) (xs : List X) → All P (x ∷ xs) → All P xs
all_later P x xs all k d less = all (suc k) d (omega (arith, less))

pub pages_alive : (contents : List (List ℕ)) (memory : PlainMemory) (pages : List PlacedPage) (space : ℕ) → AreAlive memory pages
    → finmap.contains_key (with_pages contents memory pages) space ≡ finmap.contains_key memory space
pages_alive contents memory [] space alive = refl
pages_alive contents memory (p ∷ pages) space alive =
    let here = all_front (λ (p : PlacedPage). IsTrue (finmap.contains_key memory p.space)) p pages alive in
    pages_alive contents (put_page memory p.space p.page (placed_page contents p)) pages space
    (put_alive memory p.space p.page (placed_page contents p) pages here (all_later (λ (p : PlacedPage). IsTrue (finmap.contains_key memory p.space)) p pages alive))
    ∙ put_keeps memory p.space p.page space (placed_page contents p) here

-- one of these pages is there, with these permissions and bytes
pub record IsPut (contents : List (List ℕ)) (pages : List PlacedPage) (space page : ℕ) (found : Page) : Type 0 where
  pub one : PlacedPage
  pub among : Contains pages one
  pub space_is : one.space ≡ space
  pub page_is : one.page ≡ page
  pub is : found ≡ placed_page contents one

-- what a page is after these were put
abbrev pub After : List (List ℕ) → PlainMemory → List PlacedPage → ℕ → ℕ → Option Page → Type 0
After contents old pages space page o = MatchOption o
    ((page_in old space page ≡ None) × ((p : PlacedPage) → Contains pages p → (p.space ≡ space) × (p.page ≡ page) → ⊥))
    (λ found. (page_in old space page ≡ Some found) ⊎ IsPut contents pages space page found)

later_put : (contents : List (List ℕ)) (p : PlacedPage) (pages : List PlacedPage) (space page : ℕ) (found : Page) → IsPut contents pages space page found → IsPut contents (p ∷ pages) space page found
later_put contents p pages space page found put = record {
  one = put.one;
  among = (suc put.among.0, omega (arith, put.among.1), put.among.2);
  space_is = put.space_is;
  page_is = put.page_is;
  is = put.is;
}

either_place : (p : PlacedPage) (space page : ℕ) → ((p.space ≡ space) × (p.page ≡ page)) ⊎ ((p.space ≡ space) × (p.page ≡ page) → ⊥)
either_place p space page = grind arith

pub pages_are : (contents : List (List ℕ)) (memory : PlainMemory) (pages : List PlacedPage) (space page : ℕ)
    → After contents memory pages space page (page_in (with_pages contents memory pages) space page)
pages_are contents memory [] space page = at (page_in memory space page)
  where
    at : (o : Option Page) → MatchOption o ((o ≡ None) × ((p : PlacedPage) → Contains [] p → (p.space ≡ space) × (p.page ≡ page) → ⊥)) (λ found. (o ≡ Some found) ⊎ IsPut contents [] space page found)
    at None = (refl, λ p c both. contains_none p c)
    at (Some found) = inl refl
pages_are contents memory (p ∷ pages) space page =
    by (page_in (with_pages contents memory (p ∷ pages)) space page) (pages_are contents (put_page memory p.space p.page (placed_page contents p)) pages space page)
  where
    here : (p.space ≡ space) × (p.page ≡ page) → page_in (put_page memory p.space p.page (placed_page contents p)) space page ≡ Some (placed_page contents p)
    here both =
        subst (λ n. page_in (put_page memory p.space p.page (placed_page contents p)) n page ≡ Some (placed_page contents p)) both.0
        (subst (λ n. page_in (put_page memory p.space p.page (placed_page contents p)) p.space n ≡ Some (placed_page contents p)) both.1 (put_here memory p.space p.page (placed_page contents p)))

    clash : {X : Type 0} {x : X} → None ≡ Some x → ⊥
    clash {x = x} e = absurd (let f : None ≡ Some x = e in cc)

    same : (a b : Page) → Some a ≡ Some b → a ≡ b
    same a b e = ap (λ o. unwrap_or o a) e

    by : (o : Option Page) → After contents (put_page memory p.space p.page (placed_page contents p)) pages space page o → After contents memory (p ∷ pages) space page o
    by None none = (
      elim (either_place p space page) [
        | inl both ↦ absurd (clash (sym none.0 ∙ here both))
        | inr apart ↦ sym (put_elsewhere memory p.space p.page space page (placed_page contents p) apart) ∙ none.0
      ],
      λ q c both. elim (contains_cases p q pages c) [
        | inl e ↦ clash (sym none.0 ∙ here (subst (λ (q : PlacedPage). (q.space ≡ space) × (q.page ≡ page)) e both))
        | inr later ↦ none.1 q later both
      ],
    )
    by (Some found) (inr put) = inr (later_put contents p pages space page found put)
    by (Some found) (inl was) = elim (either_place p space page) [
      | inl both ↦ inr (record {
        one = p;
        among = (0, omega arith, refl);
        space_is = both.0;
        page_is = both.1;
        is = same found (placed_page contents p) (sym was ∙ here both);
      })
      | inr apart ↦ inl (sym (put_elsewhere memory p.space p.page space page (placed_page contents p) apart) ∙ was)
    ]

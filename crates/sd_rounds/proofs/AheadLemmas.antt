-- How many pages of a memory are mapped ahead of a cursor.
use Rattle.std.proofs.Common.{◌≡◌, ◌⊎◌, ℕ, ◌+◌, ◌*◌, ◌<◌, ◌≤◌, ◌^◌, Bool, true, false, cond, ◌||◌, ◌&&◌, nat_eq, nat_lt, List, [], ◌∷◌, ◌++◌, length, map, Option, Some, None, is_some, unwrap_or, refl, sym, ◌∙◌, ap, subst, inl, inr, arith, T}
use Rattle.std.specs.List.{AllByRecursion, count_by, flat_map, list_any}
use Rattle.std.specs.Option.{option_map}
use Rattle.std.specs.Ordering.{nat_cmp, eq_by_cmp, is_lt}
use Rattle.std.specs.FinMap as finmap
use Rattle.std.specs.FinMap.{find, is_sorted, entries_sorted, get-entries}
use Rattle.std.specs.FinMap.Entries.{below_all}
use Rattle.std.proofs.lemmas.Bool.{and_parts, both_ways, cases_Bool, cases_lt, or_right}
use Rattle.std.proofs.lemmas.Bool.Decides.{nat_tests}
use Rattle.std.proofs.lemmas.List.Folds.{list_any-append}
use Rattle.std.proofs.lemmas.List.Sums.{sum_by-cons}
use Rattle.sd_areas.specs.PlainMemory.{PlainMemory, Space}
use Rattle.sd_pagetable.specs.Nested.{value_at}
use Rattle.sd_pagetable.specs.Page.{PageState, plain_page}
use Rattle.sd_pagetable.specs.Contents.{Contents, IsSound, page_at, plain_of}
use Rattle.sd_pagetable.specs.Law.{PlainLaw}
use Rattle.sd_pagetable.specs.Order.{IsNextPage, is_above}
use Rattle.sd_pagetable.specs.Tracking.{is_page}
use Rattle.sd_rounds.specs.Left.{mapped_places, pages_ahead, space_places}
use Rattle.sd_writing.specs.Entries.{Place}
use Rattle.sd_rounds.proofs.RoundLemmas.{alive_at}
use Rattle.sd_rounds.proofs.Orders.{above_more, page_is, page_here}

-- ---- rising places

abbrev IsAfter : Place → Place → Type 0
IsAfter before at = is_above (Some before) at.0 at.1 ≡ true

-- each is above those before it
abbrev Rising : List Place → Type 0
Rising [] = Unit {0}
Rising (at ∷ places) = AllByRecursion (IsAfter at) places × Rising places

abbrev has : Place → List Place → Bool
has at places = list_any (λ q. is_page q.0 q.1 at.0 at.1) places

abbrev ahead_of : Option Place → Place → Bool
ahead_of after at = is_above after at.0 at.1

abbrev count : Option Place → List Place → ℕ
count after places = count_by (ahead_of after) places

count-cons : (after : Option Place) (at : Place) (places : List Place) → count after (at ∷ places) ≡ cond (ahead_of after at) 1 0 + count after places
count-cons after at places = sum_by-cons (λ q. cond (ahead_of after q) 1 0) at places

counts_one : (after : Option Place) (at : Place) (places : List Place) → ahead_of after at ≡ true → count after (at ∷ places) ≡ count after places + 1
counts_one after at places e = (let c : ◌≡◌ {A = ℕ} (cond (ahead_of after at) 1 0) 1 = ap (λ b. cond b 1 0) e in omega (arith, c, count-cons after at places))

counts_none : (after : Option Place) (at : Place) (places : List Place) → ahead_of after at ≡ false → count after (at ∷ places) ≡ count after places
counts_none after at places e = (let c : ◌≡◌ {A = ℕ} (cond (ahead_of after at) 1 0) 0 = ap (λ b. cond b 1 0) e in omega (arith, c, count-cons after at places))

-- those above a place that is ahead are all ahead
counts_all : (after : Option Place) (at : Place) (places : List Place) → ahead_of after at ≡ true → AllByRecursion (IsAfter at) places → count after places ≡ length places
counts_all after at [] ahead all = refl
counts_all after at (q ∷ places) ahead all =
    counts_one after q places (above_more after at q ahead all.0)
    ∙ (let rest : count after places ≡ length places = counts_all after at places ahead all.1 in omega arith)

few_counted : (after : Option Place) (places : List Place) → count after places ≤ length places
few_counted after [] = (let none : count after [] ≡ 0 = refl in omega arith)
few_counted after (at ∷ places) = by (ahead_of after at) refl (few_counted after places)
  where
    by : (b : Bool) → ahead_of after at ≡ b → count after places ≤ length places → count after (at ∷ places) ≤ length (at ∷ places)
    by true e rest = omega (arith, rest, counts_one after at places e)
    by false e rest = omega (arith, rest, counts_none after at places e)

has_head : (at : Place) (places : List Place) → has at (at ∷ places) ≡ true
has_head at places = ap (λ b. b || has at places) (page_here at)

has_tail : (q at : Place) (places : List Place) → has at places ≡ true → has at (q ∷ places) ≡ true
has_tail q at places e = or_right (is_page q.0 q.1 at.0 at.1) (has at places) e

-- one of a list is its first, or one of the others
has_cases : (q at : Place) (places : List Place) → has at (q ∷ places) ≡ true → (q ≡ at) ⊎ (has at places ≡ true)
has_cases q at places e = by (is_page q.0 q.1 at.0 at.1) refl e
  where
    by : (b : Bool) → is_page q.0 q.1 at.0 at.1 ≡ b → (b || has at places) ≡ true → (q ≡ at) ⊎ (has at places ≡ true)
    by true is e = inl (page_is q at is)
    by false is e = inr e

all_has : (P : Place → Type 0) (at : Place) (places : List Place) → AllByRecursion P places → has at places ≡ true → P at
all_has P at [] all e = absurd (both_ways false refl e)
all_has P at (q ∷ places) all e = elim (has_cases q at places e) [
  | inl same ↦ subst P same all.0
  | inr later ↦ all_has P at places all.1 later
]

all_if_has : (P : Place → Type 0) (places : List Place) → ((at : Place) → has at places ≡ true → P at) → AllByRecursion P places
all_if_has P [] law = tt
all_if_has P (q ∷ places) law = (law q (has_head q places), all_if_has P places (λ at e. law at (has_tail q at places e)))

not_above_itself : (s p : ℕ) → (nat_lt s s || (nat_eq s s && nat_lt p p)) ≡ false
not_above_itself s p = grind (arith, nat_tests)

not_above_back : (a b c d : ℕ) → (nat_lt a c || (nat_eq a c && nat_lt b d)) ≡ true → (nat_lt c a || (nat_eq c a && nat_lt d b)) ≡ false
not_above_back a b c d e = grind (arith, nat_tests)

-- of the places ahead the least is one more than those ahead of it
next_counts : (after : Option Place) (at : Place) (places : List Place) → Rising places → has at places ≡ true → ahead_of after at ≡ true
    → ((q : Place) → has q places ≡ true → ahead_of after q ≡ true → ahead_of (Some q) at ≡ false) → count after places ≡ count (Some at) places + 1
next_counts after at [] rising there ahead least = absurd (both_ways false refl there)
next_counts after at (q ∷ places) rising there ahead least = elim (has_cases q at places there) [
  | inl same ↦
      let own : AllByRecursion (IsAfter at) places = subst (λ (p : Place). AllByRecursion (IsAfter p) places) same rising.0 in
      let before : count after (q ∷ places) ≡ count after places + 1 = counts_one after q places (ap (ahead_of after) same ∙ ahead) in
      let behind : count (Some at) (q ∷ places) ≡ count (Some at) places = counts_none (Some at) q places (ap (ahead_of (Some at)) same ∙ not_above_itself at.0 at.1) in
      let all : count after places ≡ length places = counts_all after at places ahead own in
      let rest : count (Some at) places ≡ length places = counts_own at places own in
      omega arith
  | inr later ↦
      let above : ahead_of (Some q) at ≡ true = all_has (IsAfter q) at places rising.0 later in
      let before : count after (q ∷ places) ≡ count after places = counts_none after q places (passed q (λ e. both_ways (ahead_of (Some q) at) (least q (has_head q places) e) above)) in
      let behind : count (Some at) (q ∷ places) ≡ count (Some at) places = counts_none (Some at) q places (not_above_back q.0 q.1 at.0 at.1 above) in
      let rest : count after places ≡ count (Some at) places + 1 = next_counts after at places rising.1 later ahead (λ p e. least p (has_tail q p places e)) in
      omega arith
]
  where
    passed : (q : Place) → (ahead_of after q ≡ true → ⊥) → ahead_of after q ≡ false
    passed q never = elim (cases_Bool (ahead_of after q)) [ inl e ↦ absurd (never e) | inr e ↦ e ]

    counts_own : (at : Place) (places : List Place) → AllByRecursion (IsAfter at) places → count (Some at) places ≡ length places
    counts_own at [] all = refl
    counts_own at (q ∷ places) all = counts_one (Some at) q places all.0 ∙ (let rest : count (Some at) places ≡ length places = counts_own at places all.1 in omega arith)

none_counts : (after : Option Place) (places : List Place) → ((q : Place) → has q places ≡ true → ahead_of after q ≡ false) → count after places ≡ 0
none_counts after [] none = refl
none_counts after (q ∷ places) none = counts_none after q places (none q (has_head q places)) ∙ none_counts after places (λ p e. none p (has_tail q p places e))

-- ---- the mapped pages rise

of_T : (b : Bool) → T b → b ≡ true
of_T b h = grind arith

below_less : (a b : ℕ) → is_lt (nat_cmp a b) ≡ true → a < b
below_less a b h = grind (arith, nat_tests)

less_above : (a b c d : ℕ) → a < c → (nat_lt a c || (nat_eq a c && nat_lt b d)) ≡ true
less_above a b c d l = grind (arith, nat_tests)

same_above : (a b d : ℕ) → b < d → (nat_lt a a || (nat_eq a a && nat_lt b d)) ≡ true
same_above a b d l = grind (arith, nat_tests)

abbrev IsAfterPlace : ℕ → Place → Type 0
IsAfterPlace space at = space < at.0

all_behind : (space page : ℕ) (places : List Place) → AllByRecursion (IsAfterPlace space) places → AllByRecursion (IsAfter (space, page)) places
all_behind space page [] all = tt
all_behind space page (q ∷ places) all = (less_above space page q.0 q.1 all.0, all_behind space page places all.1)

same_test : (a b : ℕ) → nat_eq b a ≡ eq_by_cmp nat_cmp a b
same_test a b = grind (arith, nat_tests)

module _ {X : Type 0} where
  abbrev listed_in : ℕ → List (ℕ × X) → List Place
  listed_in space es = map (λ page. (space, page)) (map (λ (e : ℕ × X). e.0) es)

  after_all : (space page : ℕ) (es : List (ℕ × X)) (more : List Place) → below_all nat_cmp page es ≡ true → AllByRecursion (IsAfterPlace space) more → AllByRecursion (IsAfter (space, page)) (listed_in space es ++ more)
  after_all space page [] more below behind = all_behind space page more behind
  after_all space page (e ∷ es) more below behind =
      let b = and_parts _ _ below in
      (same_above space page e.0 (below_less page e.0 b.0), after_all space page es more b.1 behind)

  rising_in : (space : ℕ) (es : List (ℕ × X)) (more : List Place) → is_sorted nat_cmp es ≡ true → AllByRecursion (IsAfterPlace space) more → Rising more → Rising (listed_in space es ++ more)
  rising_in space [] more sorted behind rising = rising
  rising_in space (e ∷ es) more sorted behind rising =
      let s = and_parts _ _ sorted in
      (after_all space e.0 es more s.0 behind, rising_in space es more s.1 behind rising)

  behind_in : (above space : ℕ) (es : List (ℕ × X)) (more : List Place) → above < space → AllByRecursion (IsAfterPlace above) more → AllByRecursion (IsAfterPlace above) (listed_in space es ++ more)
  behind_in above space [] more l all = all
  behind_in above space (e ∷ es) more l all = (l, behind_in above space es more l all)

  -- which pages are listed
  has_in : (space : ℕ) (es : List (ℕ × X)) (at : Place) → has at (listed_in space es) ≡ (nat_eq space at.0 && is_some (find nat_cmp at.1 es))
  has_in space [] at = none (nat_eq space at.0)
    where
      none : (b : Bool) → false ≡ (b && false)
      none true = refl
      none false = refl
  has_in space (e ∷ es) at =
      ap (λ b. (nat_eq space at.0 && nat_eq e.0 at.1) || b) (has_in space es at)
      ∙ ap (λ b. (nat_eq space at.0 && b) || (nat_eq space at.0 && is_some (find nat_cmp at.1 es))) (same_test at.1 e.0)
      ∙ by (nat_eq space at.0) (eq_by_cmp nat_cmp at.1 e.0)
    where
      by : (s b : Bool) → ((s && b) || (s && is_some (find nat_cmp at.1 es))) ≡ (s && is_some (cond b (Some e.1) (find nat_cmp at.1 es)))
      by true true = refl
      by true false = refl
      by false b = refl

none_below : {X : Type 0} (k b : ℕ) (es : List (ℕ × X)) → k ≤ b → below_all nat_cmp b es ≡ true → find nat_cmp k es ≡ None
none_below k b [] l h = refl
none_below k b (e ∷ es) l h =
    let p = and_parts _ _ h in
    let g : b < e.0 = below_less b e.0 p.0 in
    ap (λ t. cond t (Some e.1) (find nat_cmp k es)) (apart k e.0 (omega arith)) ∙ none_below k b es l p.1
  where
    apart : (a b : ℕ) → a < b → eq_by_cmp nat_cmp a b ≡ false
    apart a b l = grind (arith, nat_tests)

abbrev pages_of_spaces : List (ℕ × Space) → List Place
pages_of_spaces es = flat_map space_places es

behind_spaces : (above : ℕ) (es : List (ℕ × Space)) → below_all nat_cmp above es ≡ true → is_sorted nat_cmp es ≡ true → AllByRecursion (IsAfterPlace above) (pages_of_spaces es)
behind_spaces above [] below sorted = tt
behind_spaces above (e ∷ es) below sorted =
    let b = and_parts _ _ below in
    let s = and_parts _ _ sorted in
    let l : above < e.0 = below_less above e.0 b.0 in
    behind_in above e.0 (finmap.entries e.1) (pages_of_spaces es) l (behind_spaces above es b.1 s.1)

rising_spaces : (es : List (ℕ × Space)) → is_sorted nat_cmp es ≡ true → Rising (pages_of_spaces es)
rising_spaces [] sorted = tt
rising_spaces (e ∷ es) sorted =
    let s = and_parts _ _ sorted in
    rising_in e.0 (finmap.entries e.1) (pages_of_spaces es) (of_T _ (entries_sorted e.1)) (behind_spaces e.0 es s.0 s.1) (rising_spaces es s.1)

rising : (memory : PlainMemory) → Rising (mapped_places memory)
unfolding mapped_places
rising memory = rising_spaces (finmap.entries memory) (of_T _ (entries_sorted memory))

has_spaces : (es : List (ℕ × Space)) (at : Place) → is_sorted nat_cmp es ≡ true → has at (pages_of_spaces es) ≡ is_some (finmap.get (unwrap_or (find nat_cmp at.0 es) finmap.empty) at.1)
has_spaces [] at sorted = ap is_some (sym (finmap.get-empty nat_cmp at.1))
has_spaces (e ∷ es) at sorted =
    let s = and_parts _ _ sorted in
    list_any-append (λ q. is_page q.0 q.1 at.0 at.1) (space_places e) (pages_of_spaces es)
    ∙ ap (λ b. b || has at (pages_of_spaces es)) (has_in e.0 (finmap.entries e.1) at)
    ∙ ap (λ b. (nat_eq e.0 at.0 && is_some (find nat_cmp at.1 (finmap.entries e.1))) || b) (has_spaces es at s.1)
    ∙ ap (λ b. (b && is_some (find nat_cmp at.1 (finmap.entries e.1))) || is_some (finmap.get (unwrap_or (find nat_cmp at.0 es) finmap.empty) at.1)) (same_test at.0 e.0)
    ∙ by (eq_by_cmp nat_cmp at.0 e.0) refl s.0
  where
    equal : (a b : ℕ) → eq_by_cmp nat_cmp a b ≡ true → a ≤ b
    equal a b h = grind (arith, nat_tests)

    or_false : (b c : Bool) → c ≡ false → (b || c) ≡ b
    or_false b c h = grind arith

    by : (b : Bool) → eq_by_cmp nat_cmp at.0 e.0 ≡ b → below_all nat_cmp e.0 es ≡ true
        → ((b && is_some (find nat_cmp at.1 (finmap.entries e.1))) || is_some (finmap.get (unwrap_or (find nat_cmp at.0 es) finmap.empty) at.1))
        ≡ is_some (finmap.get (unwrap_or (cond b (Some e.1) (find nat_cmp at.0 es)) finmap.empty) at.1)
    by true is below =
        or_false _ _ (ap (λ o. is_some (finmap.get (unwrap_or o finmap.empty) at.1)) (none_below at.0 e.0 es (equal at.0 e.0 is) below) ∙ ap is_some (finmap.get-empty nat_cmp at.1))
        ∙ ap is_some (sym (get-entries e.1 at.1))
    by false is below = refl

has_mapped : (memory : PlainMemory) (at : Place) → has at (mapped_places memory) ≡ is_some (value_at memory at.0 at.1)
unfolding mapped_places
has_mapped memory at =
    has_spaces (finmap.entries memory) at (of_T _ (entries_sorted memory))
    ∙ ap (λ o. is_some (finmap.get (unwrap_or o finmap.empty) at.1)) (sym (get-entries memory at.0))

-- ---- over a memory

some_plain : (o : Option PageState) → is_some (option_map plain_page o) ≡ is_some o
some_plain o = grind arith

has_page : PlainLaw → (contents : Contents) (at : Place) → has at (mapped_places (plain_of contents)) ≡ is_some (page_at contents at.0 at.1)
has_page law contents at = has_mapped (plain_of contents) at ∙ ap is_some (law.pages contents at.0 at.1) ∙ some_plain (page_at contents at.0 at.1)

-- the next page is one of those ahead
pub next_ahead : PlainLaw → (contents : Contents) (after : Option Place) (at : Place) → IsNextPage contents.spaces after (Some at)
    → pages_ahead after (plain_of contents) ≡ pages_ahead (Some at) (plain_of contents) + 1
unfolding pages_ahead
next_ahead law contents after at next =
    next_counts after at (mapped_places (plain_of contents)) (rising (plain_of contents)) (has_page law contents at ∙ next.0) next.1
    (λ q there ahead. next.2 q.0 q.1 (sym (has_page law contents q) ∙ there) ahead)

pub none_ahead : PlainLaw → (contents : Contents) (after : Option Place) → IsNextPage contents.spaces after None → pages_ahead after (plain_of contents) ≡ 0
unfolding pages_ahead
none_ahead law contents after none =
    none_counts after (mapped_places (plain_of contents)) (λ q there. none q.0 q.1 (sym (has_page law contents q) ∙ there))

-- ---- how many there are at most

abbrev InSpaces : Place → Type 0
InSpaces at = (at.0 ≤ 16) × (at.1 < 2 ^ 35)

few_after : (before : Place) (places : List Place) → InSpaces before → Rising (before ∷ places) → AllByRecursion InSpaces places
    → length places + (before.0 * 2 ^ 35 + before.1) < 17 * 2 ^ 35
few_after before [] within rising all = (let none : length {A = Place} [] ≡ 0 = refl in omega (arith, within.0, within.1))
few_after before (at ∷ places) within rising all =
    let rest : length places + (at.0 * 2 ^ 35 + at.1) < 17 * 2 ^ 35 = few_after at places all.0 rising.1 all.1 in
    let more : before.0 * 2 ^ 35 + before.1 < at.0 * 2 ^ 35 + at.1 = greater before.0 before.1 at.0 at.1 within.1 rising.0.0 in
    omega arith
  where
    greater : (a b c d : ℕ) → b < 2 ^ 35 → (nat_lt a c || (nat_eq a c && nat_lt b d)) ≡ true → a * 2 ^ 35 + b < c * 2 ^ 35 + d
    greater a b c d l e = elim (cases_lt a c) [
      | inl less ↦ omega arith
      | inr more ↦ (let same : a ≡ c = grind (arith, nat_tests) in let up : b < d = grind (arith, nat_tests) in omega arith)
    ]

few_places : (places : List Place) → Rising places → AllByRecursion InSpaces places → length places ≤ 17 * 2 ^ 35
few_places [] rising all = (let none : length {A = Place} [] ≡ 0 = refl in omega arith)
few_places (at ∷ places) rising all = omega (arith, few_after at places all.0 rising all.1)

pub few_ahead : PlainLaw → (contents : Contents) → IsSound contents → (after : Option Place) → pages_ahead after (plain_of contents) ≤ 2 ^ 40
unfolding pages_ahead
few_ahead law contents sound after =
    let most = few_places (mapped_places (plain_of contents)) (rising (plain_of contents)) (all_if_has InSpaces (mapped_places (plain_of contents)) (λ at there. within at (page_at contents at.0 at.1) refl (sym (has_page law contents at) ∙ there))) in
    let some = few_counted after (mapped_places (plain_of contents)) in
    omega (arith, most, some)
  where
    living : (at : Place) (page : PageState) → page_at contents at.0 at.1 ≡ Some page → at.0 ≤ 16
    living at page e = (sound.spaces at.0 (alive_at contents.spaces at.0 at.1 (ap is_some e))).1

    within : (at : Place) (o : Option PageState) → page_at contents at.0 at.1 ≡ o → is_some o ≡ true → InSpaces at
    within at None e some = absurd (both_ways false refl some)
    within at (Some page) e some = (living at page e, sound.numbers at.0 at.1 page e)

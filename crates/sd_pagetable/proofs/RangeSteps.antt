-- One page of a run more.
use Rattle.std.proofs.Common.{◌≡◌, ◌⊎◌, ℕ, ◌+◌, ◌-◌, ◌<◌, ◌≤◌, Bool, true, false, not, cond, nat_eq, nat_le, ◌&&◌, ◌||◌, is_some, IsSome, Option, Some, None, refl, sym, ◌∙◌, ap, subst, inl, inr, arith}
use Rattle.std.specs.Prelude.{count_by, IfSome}
use Rattle.std.proofs.lemmas.Bool.Decides.{nat_tests}
use Rattle.std.specs.Option.{option_map}
use Rattle.std.specs.FinMap as finmap
use Rattle.std.proofs.lemmas.Bool.{both_ways, cases_Bool}
use Rattle.sd_pagetable.proofs.MemoryLemmas.{same_key}
use Rattle.sd_areas.specs.Pages.{pages_from, is_within}
use Rattle.sd_pagetable.specs.Nested.{Table, inside, is_alive, fill_within, change_within, remove_within}
use Rattle.sd_pagetable.specs.Page.{PageState}
use Rattle.sd_pagetable.specs.Contents.{Contents, page_at, put_page, remove_page, page_count}
use Rattle.sd_pagetable.specs.Ranges.{IsCleared}
use Rattle.sd_pagetable.specs.Tracking.{with_space}
use Rattle.sd_pagetable.proofs.TableLemmas.{same_table, get-remove_within}
use Rattle.sd_pagetable.proofs.NestedLemmas.{alive-insert, value_at-remove, tests}
use Rattle.sd_pagetable.proofs.RangeLemmas.{not_same, inside_with, with_twice, with_itself, put_in, remove_in, at_table, fill_none, fill_more, fill_skips, fill_outside, change_none, change_more, change_skips, change_outside, within_none, within_more}
use Rattle.sd_pagetable.proofs.RangeCounts.{left_to_count, one_more}

cases_option : (o : Option PageState) → (o ≡ None) ⊎ ((x : PageState) × (o ≡ Some x))
cases_option None = inl refl
cases_option (Some x) = inr (x, refl)

pub alive_with : (c : Contents) (s : ℕ) (t : Table PageState) → is_alive (with_space c s t).spaces s ≡ true
alive_with c s t = alive-insert c.spaces s t s ∙ ap (λ b. b || is_alive c.spaces s) (same_key s)

-- ---- filling
pub none_filled : (c : Contents) (s first : ℕ) (x : PageState) → is_alive c.spaces s ≡ true → c ≡ with_space c s (fill_within (inside c.spaces s) first (first - first) x)
none_filled c s first x alive = sym (ap (with_space c s) (fill_none (inside c.spaces s) first x) ∙ with_itself c s alive)

pub unfilled : (old now : Contents) (s first k : ℕ) (x : PageState) → now ≡ with_space old s (fill_within (inside old.spaces s) first (k - first) x) → page_at now s k ≡ page_at old s k
unfilled old now s first k x done = ap (λ c. page_at c s k) done ∙ at_table old s k _ ∙ fill_outside (inside old.spaces s) first k x

-- whether a page is a hole
abbrev pub is_hole : Contents → ℕ → ℕ → Bool
is_hole c s page = not (is_some (page_at c s page))

pub has_room : (old now : Contents) (s first k end : ℕ) (x : PageState) → k < end → now ≡ with_space old s (fill_within (inside old.spaces s) first (k - first) x)
    → page_count now.spaces + count_by (is_hole old s) (pages_from k (end - k)) ≤ 65536 → page_at now s k ≡ None → page_count now.spaces < 65536
has_room old now s first k end x less done few none = grind (arith, unfilled, left_to_count)

-- the page was there, or is there now
pub record Fills (old now : Contents) (s first k end : ℕ) (x : PageState) : Type 0 where
  pub done : now ≡ with_space old s (fill_within (inside old.spaces s) first (k - first) x)
  pub few : page_count now.spaces + count_by (is_hole old s) (pages_from k (end - k)) ≤ 65536

pub filled_more : (old now new : Contents) (s first k end : ℕ) (x : PageState) → first ≤ k → k < end → Fills old now s first k end x
    → (page_at now s k ≡ None → new ≡ put_page now s k x) → (IsSome (page_at now s k) → new ≡ now) → Fills old new s first (k + 1) end x
filled_more old now new s first k end x le less was added there = grind (arith, cases_option, unfilled, one_more, put_in, fill_more, left_to_count, fill_skips)

-- ---- protecting
pub none_changed : (change : PageState → PageState) (c : Contents) (s first : ℕ) → is_alive c.spaces s ≡ true → c ≡ with_space c s (change_within change (inside c.spaces s) first (first - first))
none_changed change c s first alive = sym (ap (with_space c s) (change_none change (inside c.spaces s) first) ∙ with_itself c s alive)

unchanged : (change : PageState → PageState) (old now : Contents) (s first k : ℕ) → now ≡ with_space old s (change_within change (inside old.spaces s) first (k - first)) → page_at now s k ≡ page_at old s k
unchanged change old now s first k done = ap (λ c. page_at c s k) done ∙ at_table old s k _ ∙ change_outside change (inside old.spaces s) first k

pub changed_more : (change : PageState → PageState) (old now new : Contents) (s first k : ℕ) → first ≤ k → now ≡ with_space old s (change_within change (inside old.spaces s) first (k - first))
    → IfSome (page_at now s k) (λ before. new ≡ put_page now s k (change before)) → (page_at now s k ≡ None → new ≡ now)
    → new ≡ with_space old s (change_within change (inside old.spaces s) first (k + 1 - first))
changed_more change old now new s first k le done mapped hole = grind (arith, cases_option, change_skips, unchanged, put_in, change_more)

-- ---- taking out
pub cleared_none : (c : Contents) (s : ℕ) (test : ℕ → Bool) → is_alive c.spaces s ≡ true → ((page : ℕ) → test page ≡ false) → IsCleared c c s test
cleared_none c s test alive none = grind (arith, with_itself)

pub cleared_same : (old new : Contents) (s : ℕ) (test other : ℕ → Bool) → IsCleared old new s test → ((page : ℕ) → other page ≡ test page) → IsCleared old new s other
cleared_same old new s test other cleared same = grind arith

cleared_by : (a b : Bool) (o : Option PageState) → cond b None (cond a None o) ≡ cond (a || b) None o
cleared_by a b o = grind arith

pub cleared_both : (a b c : Contents) (s : ℕ) (first then both : ℕ → Bool) → IsCleared a b s first → IsCleared b c s then → ((page : ℕ) → both page ≡ (first page || then page)) → IsCleared a c s both
cleared_both a b c s first then both one two is = grind (arith, cleared_by, with_twice)

removed_by : (q p : ℕ) (o : Option PageState) → (nat_eq q p ≡ true → o ≡ None) → cond (nat_eq q p) None o ≡ o
removed_by q p o none = grind arith

at_removed : (c : Contents) (s p q : ℕ) → page_at (remove_page c s p) s q ≡ cond (nat_eq q p) None (page_at c s q)
at_removed c s p q = value_at-remove c.spaces s p s q ∙ ap (λ b. cond (b && nat_eq q p) None (page_at c s q)) (same_key s)

pub removed_others : (c : Contents) (s p : ℕ) → is_alive c.spaces s ≡ true → remove_page c s p ≡ with_space c s (inside (remove_page c s p).spaces s)
removed_others c s p alive =
    let as_table : remove_page c s p ≡ with_space c s (finmap.remove (inside c.spaces s) p) = ap (λ d. remove_page d s p) (sym (with_itself c s alive)) ∙ remove_in c s p (inside c.spaces s) in
    as_table ∙ ap (with_space c s) (sym (ap (λ (d : Contents). inside d.spaces s) as_table ∙ inside_with c s _))

-- a page was taken out, where it was there
pub dropped : (old new : Contents) (s p : ℕ) → is_alive old.spaces s ≡ true → (IsSome (page_at old s p) → new ≡ remove_page old s p) → (page_at old s p ≡ None → new ≡ old) → IsCleared old new s (λ q. nat_eq q p)
dropped old new s p alive there hole = grind (arith, cases_option, removed_by, tests, with_itself, at_removed, removed_others)

-- ---- unmapping a run
pub still_outside : (old now new : Contents) (s p first count : ℕ) → new ≡ remove_page now s p → is_within first count p ≡ true
    → ((q : ℕ) → is_within first count q ≡ false → page_at now s q ≡ page_at old s q) → (q : ℕ) → is_within first count q ≡ false → page_at new s q ≡ page_at old s q
still_outside old now new s p first count step within was q outside =
    ap (λ c. page_at c s q) step ∙ at_removed now s p q ∙ ap (λ b. cond b None (page_at now s q)) (not_same q p apart) ∙ was q outside
  where
    apart : q ≡ p → ⊥
    apart e = absurd (let f : true ≡ false = sym within ∙ ap (is_within first count) (sym e) ∙ outside in cc)

pub still_others : (old now new : Contents) (s p : ℕ) → now ≡ with_space old s (inside now.spaces s) → new ≡ remove_page now s p → new ≡ with_space old s (inside new.spaces s)
still_others old now new s p was step = grind (arith, alive_with, removed_others, with_twice)

not_some : (o : Option PageState) → (IsSome o → ⊥) → o ≡ None
not_some o never = grind arith

pub unmapped_run : (old now : Contents) (s first count : ℕ) → now ≡ with_space old s (inside now.spaces s) → ((q : ℕ) → is_within first count q ≡ false → page_at now s q ≡ page_at old s q)
    → ((q : ℕ) → is_within first count q ≡ true → IsSome (page_at now s q) → ⊥) → now ≡ with_space old s (remove_within (inside old.spaces s) first count)
unmapped_run old now s first count others outside none = others ∙ ap (with_space old s) (same_table _ _ (λ q. at q ∙ sym (get-remove_within (inside old.spaces s) first count q)))
  where
    at : (q : ℕ) → page_at now s q ≡ cond (is_within first count q) None (page_at old s q)
    at q = elim (cases_Bool (is_within first count q)) [
      | inl here ↦ not_some (page_at now s q) (none q here) ∙ ap (λ b. cond b None (page_at old s q)) (sym here)
      | inr there ↦ outside q there ∙ ap (λ b. cond b None (page_at old s q)) (sym there)
    ]

-- ---- unmapping what areas don't have

pub none_unfilled : (gone : ℕ → Bool) (c : Contents) (s first : ℕ) → is_alive c.spaces s ≡ true → IsCleared c c s (λ q. is_within first (first - first) q && gone q)
none_unfilled gone c s first alive = cleared_none c s _ alive (λ q. ap (λ b. b && gone q) (within_none first q))

then_gone : (here before it : Bool) → (here ≡ true → it ≡ true) → ((here || before) && it) ≡ ((before && it) || here)
then_gone here before it h = grind arith

then_kept : (here before it : Bool) → (here ≡ true → it ≡ false) → ((here || before) && it) ≡ (before && it)
then_kept here before it h = grind arith

-- this page isn't in the areas, and was taken out
pub unfilled_more : (gone : ℕ → Bool) (a b c : Contents) (s first k : ℕ) → first ≤ k → gone k ≡ true → IsCleared a b s (λ q. is_within first (k - first) q && gone q) → IsCleared b c s (λ q. nat_eq q k)
    → IsCleared a c s (λ q. is_within first (k + 1 - first) q && gone q)
unfilled_more gone a b c s first k le is one two = cleared_both a b c s _ _ _ one two
    (λ q. ap (λ x. x && gone q) (within_more first k q le) ∙ then_gone (nat_eq q k) (is_within first (k - first) q) (gone q) (λ here. ap gone (tests q k here) ∙ is))

-- this page is in the areas, and stays
pub unfilled_same : (gone : ℕ → Bool) (a b : Contents) (s first k : ℕ) → first ≤ k → gone k ≡ false → IsCleared a b s (λ q. is_within first (k - first) q && gone q)
    → IsCleared a b s (λ q. is_within first (k + 1 - first) q && gone q)
unfilled_same gone a b s first k le is one = cleared_same a b s _ _ one
    (λ q. ap (λ x. x && gone q) (within_more first k q le) ∙ then_kept (nat_eq q k) (is_within first (k - first) q) (gone q) (λ here. ap gone (tests q k here) ∙ is))

seen : {B : Type 0} (f : PageState → B) (o : Option PageState) → is_some (option_map f o) ≡ is_some o
seen f o = grind arith

pub seen_there : {B : Type 0} (f : PageState → B) (o : Option PageState) (entry : Option B) (b : Bool) → entry ≡ option_map f o → b ≡ is_some entry → is_some o ≡ b
seen_there f o entry b e is = sym (is ∙ ap is_some e ∙ seen f o)

none_of : (o : Option PageState) → is_some o ≡ false → o ≡ None
none_of o e = grind arith

pub dropped_there : (old new : Contents) (s p : ℕ) → is_alive old.spaces s ≡ true → is_some (page_at old s p) ≡ true → new ≡ remove_page old s p → IsCleared old new s (λ q. nat_eq q p)
dropped_there old new s p alive there step = dropped old new s p alive (λ _. step) (λ none. absurd (let f : false ≡ true = sym (ap is_some none) ∙ there in cc))

pub dropped_hole : (old : Contents) (s p : ℕ) → is_alive old.spaces s ≡ true → is_some (page_at old s p) ≡ false → IsCleared old old s (λ q. nat_eq q p)
dropped_hole old s p alive hole = dropped old old s p alive (λ there. absurd (let f : true ≡ false = sym there ∙ hole in cc)) (λ _. refl)

-- the first page from a place on is in the run, or none is
pub in_run : (first end page : ℕ) → nat_le first page ≡ true → page < end → is_within first (end - first) page ≡ true
in_run first end page from below = grind (arith, nat_tests)

pub none_in_run : (c : Contents) (s first end : ℕ) → ((page : ℕ) → IsSome (page_at c s page) → nat_le first page ≡ false) → (q : ℕ) → is_within first (end - first) q ≡ true → IsSome (page_at c s q) → ⊥
none_in_run c s first end none q within there = both_ways (nat_le first q) (none q there) (from first end q within)
  where
    from : (first end q : ℕ) → is_within first (end - first) q ≡ true → nat_le first q ≡ true
    from first end q within = grind (arith, nat_tests)

pub past_run : (c : Contents) (s first end page : ℕ) → end ≤ page → ((q : ℕ) → IsSome (page_at c s q) → nat_le first q ≡ true → page ≤ q)
    → (q : ℕ) → is_within first (end - first) q ≡ true → IsSome (page_at c s q) → ⊥
past_run c s first end page past least q within there =
    let le = least q there (from first end q within) in
    let less = below first end q within in
    absurd (omega (arith, past, le, less))
  where
    from : (first end q : ℕ) → is_within first (end - first) q ≡ true → nat_le first q ≡ true
    from first end q within = grind (arith, nat_tests)

    below : (first end q : ℕ) → is_within first (end - first) q ≡ true → q < end
    below first end q within = grind (arith, nat_tests)

pub unfilled_step : {A : Type 0} (areas : ℕ → Option A) (a b c : Contents) (s first k : ℕ) → first ≤ k → (is_some (areas k) ≡ true → c ≡ b) → (is_some (areas k) ≡ false → IsCleared b c s (λ q. nat_eq q k))
    → IsCleared a b s (λ q. is_within first (k - first) q && not (is_some (areas q))) → IsCleared a c s (λ q. is_within first (k + 1 - first) q && not (is_some (areas q)))
unfilled_step areas a b c s first k le stays gone was = elim (cases_Bool (is_some (areas k))) [
  | inl there ↦ subst (λ d. IsCleared a d s (λ q. is_within first (k + 1 - first) q && not (is_some (areas q)))) (sym (stays there))
      (unfilled_same (λ q. not (is_some (areas q))) a b s first k le (ap not there) was)
  | inr hole ↦ unfilled_more (λ q. not (is_some (areas q))) a b c s first k le (ap not hole) was (gone hole)
]

pub cleared_alive : (a b : Contents) (s : ℕ) (test : ℕ → Bool) → IsCleared a b s test → is_alive b.spaces s ≡ true
cleared_alive a b s test cleared = ap (λ (d : Contents). is_alive d.spaces s) cleared.others ∙ alive_with a s _

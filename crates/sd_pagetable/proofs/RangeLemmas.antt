-- A space whose pages change one after the other.
use Rattle.std.proofs.Common.{◌≡◌, ℕ, ◌+◌, ◌-◌, ◌≤◌, Bool, true, false, cond, nat_eq, ◌||◌, IsSome, Option, Some, None, refl, sym, ◌∙◌, ap, subst, arith}
use Rattle.std.proofs.lemmas.Bool.Decides.{nat_tests}
use Rattle.std.specs.Option.{option_map, option_or}
use Rattle.std.specs.FinMap as finmap
use Rattle.std.proofs.Math.Bool.{or_self_left}
use Rattle.sd_pagetable.proofs.MemoryLemmas.{same_key}
use Rattle.sd_areas.specs.Pages.{is_within}
use Rattle.sd_pagetable.specs.Nested.{Table, Nested, inside, value_at, is_alive, put_at, remove_at, set_within, change_within, fill_within}
use Rattle.sd_pagetable.specs.Page.{PageState}
use Rattle.sd_pagetable.specs.Contents.{Contents, page_at, put_page, remove_page}
use Rattle.sd_pagetable.specs.Tracking.{with_space}
use Rattle.sd_pagetable.proofs.TableLemmas.{same_table, get_put, get-set_within, get-change_within, get-fill_within}
use Rattle.sd_pagetable.proofs.NestedLemmas.{same_nested, inside-insert, alive-insert, value_at-insert, tests}

pub not_same : (a b : ℕ) → (a ≡ b → ⊥) → nat_eq a b ≡ false
not_same a b differs = grind (arith, nat_tests)

abbrev of_spaces : Contents → Nested PageState → Contents
of_spaces c spaces = record { pool = c.pool; spaces = spaces }

-- ---- a space with other pages
pub inside_with : (c : Contents) (s : ℕ) (t : Table PageState) → inside (with_space c s t).spaces s ≡ t
inside_with c s t = inside-insert c.spaces s t s ∙ ap (λ b. cond b t (inside c.spaces s)) (same_key s)

pub inside_other : (c : Contents) (s u : ℕ) (t : Table PageState) → (u ≡ s → ⊥) → inside (with_space c s t).spaces u ≡ inside c.spaces u
inside_other c s u t differs = inside-insert c.spaces s t u ∙ ap (λ b. cond b t (inside c.spaces u)) (not_same u s differs)

twice : (b : Bool) (x y z : Table PageState) → cond b y (cond b x z) ≡ cond b y z
twice b x y z = grind arith

got_twice : (b : Bool) (x y z : Option PageState) → cond b y (cond b x z) ≡ cond b y z
got_twice b x y z = grind arith

pub with_twice : (c : Contents) (s : ℕ) (t u : Table PageState) → with_space (with_space c s t) s u ≡ with_space c s u
with_twice c s t u = ap (of_spaces c) (same_nested _ _
    (λ q. alive-insert (finmap.insert c.spaces s t) s u q ∙ ap (λ b. nat_eq q s || b) (alive-insert c.spaces s t q) ∙ or_self_left (nat_eq q s) (is_alive c.spaces q) ∙ sym (alive-insert c.spaces s u q))
    (λ q p. value_at-insert (finmap.insert c.spaces s t) s u q p ∙ ap (cond (nat_eq q s) (finmap.get u p)) (value_at-insert c.spaces s t q p)
    ∙ got_twice (nat_eq q s) (finmap.get t p) (finmap.get u p) (value_at c.spaces q p) ∙ sym (value_at-insert c.spaces s u q p)))

itself_alive : (m : Nested PageState) (s q : ℕ) → is_alive m s ≡ true → (b : Bool) → nat_eq q s ≡ b → (b || is_alive m q) ≡ is_alive m q
itself_alive m s q alive b e = grind arith

itself_at : (m : Nested PageState) (s q p : ℕ) (b : Bool) → nat_eq q s ≡ b → cond b (value_at m s p) (value_at m q p) ≡ value_at m q p
itself_at m s q p b e = grind arith

pub with_itself : (c : Contents) (s : ℕ) → is_alive c.spaces s ≡ true → with_space c s (inside c.spaces s) ≡ c
with_itself c s alive = ap (of_spaces c) (same_nested _ _
    (λ q. alive-insert c.spaces s (inside c.spaces s) q ∙ itself_alive c.spaces s q alive (nat_eq q s) refl)
    (λ q p. value_at-insert c.spaces s (inside c.spaces s) q p ∙ itself_at c.spaces s q p (nat_eq q s) refl))

-- one page more, or less, in it
pub put_in : (c : Contents) (s p : ℕ) (t : Table PageState) (x : PageState) → put_page (with_space c s t) s p x ≡ with_space c s (finmap.insert t p x)
unfolding put_at
put_in c s p t x = ap (λ u. with_space (with_space c s t) s (finmap.insert u p x)) (inside_with c s t) ∙ with_twice c s t (finmap.insert t p x)

pub remove_in : (c : Contents) (s p : ℕ) (t : Table PageState) → remove_page (with_space c s t) s p ≡ with_space c s (finmap.remove t p)
unfolding remove_at
remove_in c s p t = ap (λ u. with_space (with_space c s t) s (finmap.remove u p)) (inside_with c s t) ∙ with_twice c s t (finmap.remove t p)

-- ---- a run that grows by a page
pub within_none : (first q : ℕ) → is_within first (first - first) q ≡ false
within_none first q = grind (arith, nat_tests)

pub within_more : (first k q : ℕ) → first ≤ k → is_within first (k + 1 - first) q ≡ (nat_eq q k || is_within first (k - first) q)
within_more first k q le = grind (arith, nat_tests)

pub or_put : (a b : Bool) (x : PageState) (o : Option PageState) → cond a (Some x) (cond b (Some x) o) ≡ cond (a || b) (Some x) o
or_put a b x o = grind arith

pub set_none : (t : Table PageState) (first : ℕ) (x : PageState) → set_within t first (first - first) x ≡ t
set_none t first x = same_table _ _ (λ q. get-set_within t first (first - first) x q ∙ ap (λ b. cond b (Some x) (finmap.get t q)) (within_none first q))

pub set_more : (t : Table PageState) (first k : ℕ) (x : PageState) → first ≤ k → finmap.insert (set_within t first (k - first) x) k x ≡ set_within t first (k + 1 - first) x
set_more t first k x le = same_table _ _ (λ q. get_put (set_within t first (k - first) x) k x q ∙ ap (cond (nat_eq q k) (Some x)) (get-set_within t first (k - first) x q)
    ∙ or_put (nat_eq q k) (is_within first (k - first) q) x (finmap.get t q) ∙ ap (λ b. cond b (Some x) (finmap.get t q)) (sym (within_more first k q le)) ∙ sym (get-set_within t first (k + 1 - first) x q))

-- what a page outside of the part that was done has
pub set_outside : (t : Table PageState) (first k : ℕ) (x : PageState) → finmap.get (set_within t first (k - first) x) k ≡ finmap.get t k
set_outside t first k x = get-set_within t first (k - first) x k ∙ ap (λ b. cond b (Some x) (finmap.get t k)) (beyond first k)
  where
    beyond : (first k : ℕ) → is_within first (k - first) k ≡ false
    beyond first k = grind (arith, nat_tests)

-- what a page has in a space whose table is known
pub at_table : (c : Contents) (s p : ℕ) (t : Table PageState) → page_at (with_space c s t) s p ≡ finmap.get t p
at_table c s p t = ap (λ u. finmap.get u p) (inside_with c s t)

pub still_there : (old now : Contents) (s first k : ℕ) (x : PageState) → now ≡ with_space old s (set_within (inside old.spaces s) first (k - first) x) → IsSome (page_at old s k) → IsSome (page_at now s k)
still_there old now s first k x done there =
    subst (λ c. IsSome (page_at c s k)) (sym done) (subst IsSome (sym (at_table old s k _ ∙ set_outside (inside old.spaces s) first k x)) there)

pub renewed : (old now new : Contents) (s first k : ℕ) (x : PageState) → first ≤ k → now ≡ with_space old s (set_within (inside old.spaces s) first (k - first) x) → new ≡ put_page now s k x
    → new ≡ with_space old s (set_within (inside old.spaces s) first (k + 1 - first) x)
renewed old now new s first k x le done step =
    step ∙ ap (λ c. put_page c s k x) done ∙ put_in old s k _ x ∙ ap (with_space old s) (set_more (inside old.spaces s) first k x le)

pub none_renewed : (c : Contents) (s first : ℕ) (x : PageState) → is_alive c.spaces s ≡ true → c ≡ with_space c s (set_within (inside c.spaces s) first (first - first) x)
none_renewed c s first x alive = sym (ap (with_space c s) (set_none (inside c.spaces s) first x) ∙ with_itself c s alive)

-- ---- pages that weren't there
filled_there : (b : Bool) (x y : PageState) → option_or (Some y) (cond b (Some x) None) ≡ Some y
filled_there b x y = refl

fill_by : (t : Table PageState) (first k q : ℕ) (x : PageState) (o : Option PageState) (here before : Bool) → nat_eq q k ≡ here → is_within first (k - first) q ≡ before → finmap.get t q ≡ o
    → (here ≡ true → o ≡ None) → cond here (Some x) (option_or o (cond before (Some x) None)) ≡ option_or o (cond (here || before) (Some x) None)
fill_by t first k q x o here before e f g none = grind arith

-- a page of the run was filled
pub fill_more : (t : Table PageState) (first k : ℕ) (x : PageState) → first ≤ k → finmap.get t k ≡ None → finmap.insert (fill_within t first (k - first) x) k x ≡ fill_within t first (k + 1 - first) x
fill_more t first k x le none = grind (arith, same_table, get_put, get-fill_within, fill_by, tests, within_more)

skip_by : (o : Option PageState) (x : PageState) (here before : Bool) → (here ≡ true → IsSome o) → option_or o (cond before (Some x) None) ≡ option_or o (cond (here || before) (Some x) None)
skip_by o x here before there = grind arith

-- a page of the run was there
pub fill_skips : (t : Table PageState) (first k : ℕ) (x : PageState) → first ≤ k → IsSome (finmap.get t k) → fill_within t first (k - first) x ≡ fill_within t first (k + 1 - first) x
fill_skips t first k x le there = grind (arith, same_table, get-fill_within, skip_by, tests, within_more)

pub or_none : (o : Option PageState) → option_or o None ≡ o
or_none o = grind arith

pub fill_none : (t : Table PageState) (first : ℕ) (x : PageState) → fill_within t first (first - first) x ≡ t
fill_none t first x = same_table _ _ (λ q. get-fill_within t first (first - first) x q ∙ ap (λ b. option_or (finmap.get t q) (cond b (Some x) None)) (within_none first q) ∙ or_none (finmap.get t q))

pub fill_outside : (t : Table PageState) (first k : ℕ) (x : PageState) → finmap.get (fill_within t first (k - first) x) k ≡ finmap.get t k
fill_outside t first k x = get-fill_within t first (k - first) x k ∙ ap (λ b. option_or (finmap.get t k) (cond b (Some x) None)) (beyond first k) ∙ or_none (finmap.get t k)
  where
    beyond : (first k : ℕ) → is_within first (k - first) k ≡ false
    beyond first k = grind (arith, nat_tests)

-- ---- pages that change where they are
change_by : (change : PageState → PageState) (o : Option PageState) (here before : Bool) → (here ≡ true → before ≡ false)
    → (y : PageState) → (here ≡ true → o ≡ Some y) → cond here (Some (change y)) (option_map (λ x. cond before (change x) x) o) ≡ option_map (λ x. cond (here || before) (change x) x) o
change_by change o here before apart y is = grind arith

pub change_more : (change : PageState → PageState) (t : Table PageState) (first k : ℕ) (y : PageState) → first ≤ k → finmap.get t k ≡ Some y
    → finmap.insert (change_within change t first (k - first)) k (change y) ≡ change_within change t first (k + 1 - first)
change_more change t first k y le there = same_table _ _ (λ q. get_put (change_within change t first (k - first)) k (change y) q
    ∙ ap (cond (nat_eq q k) (Some (change y))) (get-change_within change t first (k - first) q)
    ∙ change_by change (finmap.get t q) (nat_eq q k) (is_within first (k - first) q) (λ here. apart first k q here) y (λ here. ap (finmap.get t) (tests q k here) ∙ there)
    ∙ ap (λ b. option_map (λ x. cond b (change x) x) (finmap.get t q)) (sym (within_more first k q le)) ∙ sym (get-change_within change t first (k + 1 - first) q))
  where
    apart : (first k q : ℕ) → nat_eq q k ≡ true → is_within first (k - first) q ≡ false
    apart first k q here = grind (arith, nat_tests)

stays_by : (change : PageState → PageState) (o : Option PageState) (here before : Bool) → (here ≡ true → o ≡ None) → option_map (λ x. cond before (change x) x) o ≡ option_map (λ x. cond (here || before) (change x) x) o
stays_by change o here before none = grind arith

pub change_skips : (change : PageState → PageState) (t : Table PageState) (first k : ℕ) → first ≤ k → finmap.get t k ≡ None → change_within change t first (k - first) ≡ change_within change t first (k + 1 - first)
change_skips change t first k le none = grind (arith, same_table, get-change_within, stays_by, tests, within_more)

mapped_itself : (o : Option PageState) → option_map (λ x. x) o ≡ o
mapped_itself o = grind arith

pub change_none : (change : PageState → PageState) (t : Table PageState) (first : ℕ) → change_within change t first (first - first) ≡ t
change_none change t first = same_table _ _ (λ q. get-change_within change t first (first - first) q ∙ ap (λ b. option_map (λ x. cond b (change x) x) (finmap.get t q)) (within_none first q) ∙ mapped_itself (finmap.get t q))

pub change_outside : (change : PageState → PageState) (t : Table PageState) (first k : ℕ) → finmap.get (change_within change t first (k - first)) k ≡ finmap.get t k
change_outside change t first k = get-change_within change t first (k - first) k ∙ ap (λ b. option_map (λ x. cond b (change x) x) (finmap.get t k)) (beyond first k) ∙ mapped_itself (finmap.get t k)
  where
    beyond : (first k : ℕ) → is_within first (k - first) k ≡ false
    beyond first k = grind (arith, nat_tests)

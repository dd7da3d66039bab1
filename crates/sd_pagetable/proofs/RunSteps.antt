-- A run of pages more.
use Rattle.std.proofs.Common.{◌≡◌, ℕ, zero, suc, ◌+◌, ◌-◌, ◌*◌, ◌<◌, ◌≤◌, Bool, true, false, cond, not, ◌||◌, is_some, IsSome, Option, Some, None, refl, sym, ◌∙◌, ap, subst, arith}
use Rattle.std.specs.Prelude.{count_by}
use Rattle.std.proofs.lemmas.Bool.Decides.{nat_tests}
use Rattle.std.specs.Option.{option_map, option_or}
use Rattle.std.specs.FinMap as finmap
use Rattle.sd_areas.specs.Pages.{pages_from, is_within}
use Rattle.sd_pagetable.specs.Nested.{Table, inside, is_alive, set_within, change_within, fill_within}
use Rattle.sd_pagetable.specs.Page.{PageState}
use Rattle.sd_pagetable.specs.Contents.{Contents, page_at, page_count}
use Rattle.sd_pagetable.specs.Tracking.{with_space}
use Rattle.sd_pagetable.proofs.TableLemmas.{same_table, get-set_within, get-change_within, get-fill_within}
use Rattle.sd_pagetable.proofs.RangeCounts.{one_if, counted_more, none_counted}
use Rattle.sd_pagetable.proofs.RangeLemmas.{inside_with, with_twice, at_table, with_itself, put_in, fill_more, fill_skips, fill_outside, or_none, or_put}
use Rattle.sd_pagetable.proofs.RangeSteps.{Fills, filled_more, none_changed, none_filled}

-- ---- pages that are counted
pub counted_run : (p : ℕ → Bool) (b : Bool) (first k count : ℕ) → first ≤ k → ((page : ℕ) → k ≤ page → page < k + count → p page ≡ b)
    → count_by p (pages_from first (k + count - first)) ≡ count_by p (pages_from first (k - first)) + count * one_if b
counted_run p b first k zero le are = (let e : count_by p (pages_from first (k + 0 - first)) ≡ count_by p (pages_from first (k - first)) = ap (λ n. count_by p (pages_from first (n - first))) (let z : k + 0 ≡ k = omega arith in z) in omega arith)
counted_run p b first k (suc count) le are =
    let was = counted_run p b first k count le (λ page l m. are page l (omega arith)) in
    let more = counted_more p first (k + count) (omega arith) in
    let one : one_if (p (k + count)) ≡ one_if b = ap one_if (are (k + count) (omega arith) (omega arith)) in
    let next : count_by p (pages_from first (k + suc count - first)) ≡ count_by p (pages_from first (k + count + 1 - first)) = ap (λ n. count_by p (pages_from first (n - first))) (let z : k + suc count ≡ k + count + 1 = omega arith in z) in
    let product : suc count * one_if b ≡ count * one_if b + one_if b = omega arith in
    omega arith

-- ---- a space whose table is changed again
pub again : (old now new : Contents) (s : ℕ) (f : Table PageState → Table PageState) (t : Table PageState) → now ≡ with_space old s t → new ≡ with_space now s (f (inside now.spaces s)) → new ≡ with_space old s (f t)
again old now new s f t was step = step ∙ ap (λ (c : Contents). with_space c s (f (inside c.spaces s))) was
    ∙ ap (λ u. with_space (with_space old s t) s (f u)) (inside_with old s t) ∙ with_twice old s t (f t)

within_both : (first k to q : ℕ) → first ≤ k → k ≤ to → is_within first (to - first) q ≡ (is_within k (to - k) q || is_within first (k - first) q)
within_both first k to q le more = grind (arith, nat_tests)

within_one : (first k to q : ℕ) → is_within k (to - k) q ≡ true → is_within first (k - first) q ≡ false
within_one first k to q here = grind (arith, nat_tests)

set_run : (t : Table PageState) (first k to : ℕ) (x : PageState) → first ≤ k → k ≤ to → set_within (set_within t first (k - first) x) k (to - k) x ≡ set_within t first (to - first) x
set_run t first k to x le more = same_table _ _ (λ q. get-set_within (set_within t first (k - first) x) k (to - k) x q ∙ ap (cond (is_within k (to - k) q) (Some x)) (get-set_within t first (k - first) x q)
    ∙ or_put (is_within k (to - k) q) (is_within first (k - first) q) x (finmap.get t q) ∙ ap (λ b. cond b (Some x) (finmap.get t q)) (sym (within_both first k to q le more)) ∙ sym (get-set_within t first (to - first) x q))

pub renewed_run : (old now new : Contents) (s first k to : ℕ) (x : PageState) → first ≤ k → k ≤ to → now ≡ with_space old s (set_within (inside old.spaces s) first (k - first) x)
    → new ≡ with_space now s (set_within (inside now.spaces s) k (to - k) x) → new ≡ with_space old s (set_within (inside old.spaces s) first (to - first) x)
renewed_run old now new s first k to x le more was step =
    again old now new s (λ t. set_within t k (to - k) x) (set_within (inside old.spaces s) first (k - first) x) was step ∙ ap (with_space old s) (set_run (inside old.spaces s) first k to x le more)

change_by : (f : PageState → PageState) (a b : Bool) (o : Option PageState) → (a ≡ true → b ≡ false) → option_map (λ x. cond a (f x) x) (option_map (λ x. cond b (f x) x) o) ≡ option_map (λ x. cond (a || b) (f x) x) o
change_by f a b o apart = grind arith

change_run : (f : PageState → PageState) (t : Table PageState) (first k to : ℕ) → first ≤ k → k ≤ to → change_within f (change_within f t first (k - first)) k (to - k) ≡ change_within f t first (to - first)
change_run f t first k to le more = grind (arith, same_table, get-change_within, change_by, within_one, within_both)

pub changed_run : (f : PageState → PageState) (old now new : Contents) (s first k to : ℕ) → first ≤ k → k ≤ to → now ≡ with_space old s (change_within f (inside old.spaces s) first (k - first))
    → new ≡ with_space now s (change_within f (inside now.spaces s) k (to - k)) → new ≡ with_space old s (change_within f (inside old.spaces s) first (to - first))
changed_run f old now new s first k to le more was step =
    again old now new s (λ t. change_within f t k (to - k)) (change_within f (inside old.spaces s) first (k - first)) was step ∙ ap (with_space old s) (change_run f (inside old.spaces s) first k to le more)

-- ---- pages that are there, mapped anew
from_within : (first to q : ℕ) → is_within first (to - first) q ≡ true → (first ≤ q) × (q < to)
from_within first to q e = (grind (arith, nat_tests), grind (arith, nat_tests))

set_there : (w : Bool) (x : PageState) (o : Option PageState) → (w ≡ true → IsSome o) → option_map (λ y. cond w x y) o ≡ cond w (Some x) o
set_there w x o there = grind arith

pub set_mapped : (t : Table PageState) (first to : ℕ) (x : PageState) → ((page : ℕ) → first ≤ page → page < to → IsSome (finmap.get t page)) → change_within (λ _. x) t first (to - first) ≡ set_within t first (to - first) x
set_mapped t first to x there = same_table _ _ (λ q. get-change_within (λ _. x) t first (to - first) q
    ∙ set_there (is_within first (to - first) q) x (finmap.get t q) (λ e. let l = from_within first to q e in there q l.0 l.1) ∙ sym (get-set_within t first (to - first) x q))

-- ---- pages that are there, where others are filled

-- ---- holes that are counted, and then pages that are there
is_hole : Contents → ℕ → ℕ → Bool
is_hole c s page = not (is_some (page_at c s page))

pub mapped_from : (c : Contents) (s mapped to : ℕ) → IsSome (page_at c s mapped) → ((page : ℕ) → mapped + 1 ≤ page → page < to → IsSome (page_at c s page))
    → (page : ℕ) → mapped ≤ page → page < to → IsSome (page_at c s page)
mapped_from c s mapped to here later page l m = grind arith

pub holes_more : (c : Contents) (s first k mapped to count : ℕ) → first ≤ k → k ≤ mapped → mapped ≤ to → count ≡ count_by (λ page. not (is_some (page_at c s page))) (pages_from first (k - first))
    → ((page : ℕ) → k ≤ page → page < mapped → page_at c s page ≡ None) → ((page : ℕ) → mapped ≤ page → page < to → IsSome (page_at c s page))
    → count + (mapped - k) ≡ count_by (λ page. not (is_some (page_at c s page))) (pages_from first (to - first))
unfolding is_hole
holes_more c s first k mapped to count le more past was none there =
    let one = counted_run (is_hole c s) true first k (mapped - k) le (λ page l m. ap (λ o. not (is_some o)) (none page l (omega arith))) in
    let two = counted_run (is_hole c s) false first mapped (to - mapped) (omega arith) (λ page l m. ap not (there page l (omega arith))) in
    let a : count_by (is_hole c s) (pages_from first (k + (mapped - k) - first)) ≡ count_by (is_hole c s) (pages_from first (mapped - first)) = ap (λ n. count_by (is_hole c s) (pages_from first (n - first))) (let z : k + (mapped - k) ≡ mapped = omega arith in z) in
    let b : count_by (is_hole c s) (pages_from first (mapped + (to - mapped) - first)) ≡ count_by (is_hole c s) (pages_from first (to - first)) = ap (λ n. count_by (is_hole c s) (pages_from first (n - first))) (let z : mapped + (to - mapped) ≡ to = omega arith in z) in
    let ones : (mapped - k) * one_if true ≡ mapped - k = omega arith in
    let nones : (to - mapped) * one_if false ≡ 0 = omega arith in
    omega arith

-- a run of no pages
pub unchanged_run : (f : PageState → PageState) (old now : Contents) (s first to : ℕ) → is_alive old.spaces s ≡ true → to ≡ first → now ≡ with_space old s (change_within f (inside old.spaces s) first (to - first)) → now ≡ old
unchanged_run f old now s first to alive same step =
    step ∙ ap (λ n. with_space old s (change_within f (inside old.spaces s) first (n - first))) same ∙ sym (none_changed f old s first alive)

-- ---- holes that are filled, and pages that are passed
more_counted : (p : ℕ → Bool) (first k count : ℕ) → first ≤ k → count_by p (pages_from first (k - first)) ≤ count_by p (pages_from first (k + count - first))
more_counted p first k zero le = (let e : count_by p (pages_from first (k + 0 - first)) ≡ count_by p (pages_from first (k - first)) = ap (λ n. count_by p (pages_from first (n - first))) (let z : k + 0 ≡ k = omega arith in z) in omega arith)
more_counted p first k (suc count) le =
    let was = more_counted p first k count le in
    let more = counted_more p first (k + count) (omega arith) in
    let next : count_by p (pages_from first (k + suc count - first)) ≡ count_by p (pages_from first (k + count + 1 - first)) = ap (λ n. count_by p (pages_from first (n - first))) (let z : k + suc count ≡ k + count + 1 = omega arith in z) in
    omega arith

-- what a page outside of the part that was filled has
filled_past : (old now : Contents) (s first k page : ℕ) (x : PageState) → k ≤ page → now ≡ with_space old s (fill_within (inside old.spaces s) first (k - first) x) → page_at now s page ≡ page_at old s page
filled_past old now s first k page x le done = ap (λ c. page_at c s page) done ∙ at_table old s page _
    ∙ get-fill_within (inside old.spaces s) first (k - first) x page ∙ ap (λ b. option_or (finmap.get (inside old.spaces s) page) (cond b (Some x) None)) (beyond first k page le) ∙ or_none (finmap.get (inside old.spaces s) page)
  where
    beyond : (first k page : ℕ) → k ≤ page → is_within first (k - first) page ≡ false
    beyond first k page le = grind (arith, nat_tests)

-- a run of holes has room
pub room_for : (old now : Contents) (s first k end to : ℕ) (x : PageState) → Fills old now s first k end x → k ≤ to → to ≤ end → ((page : ℕ) → k ≤ page → page < to → page_at now s page ≡ None)
    → page_count now.spaces + (to - k) ≤ 65536
unfolding is_hole
room_for old now s first k end to x was le within holes =
    let all = counted_run (is_hole old s) true k k (to - k) (omega arith) (λ page l m. ap (λ o. not (is_some o)) (sym (filled_past old now s first k page x l was.done) ∙ holes page l (omega arith))) in
    let none = none_counted (is_hole old s) k in
    let a : count_by (is_hole old s) (pages_from k (k + (to - k) - k)) ≡ count_by (is_hole old s) (pages_from k (to - k)) = ap (λ n. count_by (is_hole old s) (pages_from k (n - k))) (let z : k + (to - k) ≡ to = omega arith in z) in
    let most = more_counted (is_hole old s) k to (end - to) le in
    let b : count_by (is_hole old s) (pages_from k (to + (end - to) - k)) ≡ count_by (is_hole old s) (pages_from k (end - k)) = ap (λ n. count_by (is_hole old s) (pages_from k (n - k))) (let z : to + (end - to) ≡ end = omega arith in z) in
    let ones : (to - k) * one_if true ≡ to - k = omega arith in
    let few : page_count now.spaces + count_by (is_hole old s) (pages_from k (end - k)) ≤ 65536 = was.few in
    omega arith

-- a run more was filled
pub filled_all : (old now : Contents) (s first k end : ℕ) (x : PageState) → first ≤ k → is_alive now.spaces s ≡ true → Fills old now s first k end x → (count : ℕ) → k + count ≤ end
    → Fills old (with_space now s (fill_within (inside now.spaces s) k (k + count - k) x)) s first (k + count) end x
filled_all old now s first k end x le alive was zero within =
    let same : now ≡ with_space now s (fill_within (inside now.spaces s) k (k + 0 - k) x) = none_filled now s k x alive ∙ ap (λ n. with_space now s (fill_within (inside now.spaces s) k (n - k) x)) (let z : k ≡ k + 0 = omega arith in z) in
    subst (λ c. Fills old c s first (k + 0) end x) same (subst (λ n. Fills old now s first n end x) (let z : k ≡ k + 0 = omega arith in z) was)
filled_all old now s first k end x le alive was (suc count) within =
    let t = inside now.spaces s in
    let at = k + count in
    let before = with_space now s (fill_within t k (k + count - k) x) in
    let after = with_space now s (fill_within t k (k + count + 1 - k) x) in
    let done = filled_all old now s first k end x le alive was count (omega arith) in
    let seen : page_at before s at ≡ page_at now s at = at_table now s at _ ∙ fill_outside t k at x in
    let step = filled_more old before after s first at end x (omega arith) (omega arith) done
    (λ none. sym (put_in now s at (fill_within t k (k + count - k) x) x ∙ ap (with_space now s) (fill_more t k at x (omega arith) (sym seen ∙ none))))
    (λ there. ap (with_space now s) (sym (fill_skips t k at x (omega arith) (subst IsSome seen there)))) in
    let ends : k + count + 1 ≡ k + suc count = omega arith in
    subst (λ n. Fills old (with_space now s (fill_within t k (n - k) x)) s first n end x) ends step

pub filled_to : (old now new : Contents) (s first k to end : ℕ) (x : PageState) → first ≤ k → k ≤ to → to ≤ end → is_alive now.spaces s ≡ true → Fills old now s first k end x
    → new ≡ with_space now s (fill_within (inside now.spaces s) k (to - k) x) → Fills old new s first to end x
filled_to old now new s first k to end x le more within alive was step =
    let ends : k + (to - k) ≡ to = omega arith in
    let all = filled_all old now s first k end x le alive was (to - k) (omega arith) in
    subst (λ c. Fills old c s first to end x) (sym step) (subst (λ n. Fills old (with_space now s (fill_within (inside now.spaces s) k (n - k) x)) s first n end x) ends all)

-- a run of pages that are there isn't filled
pub passed : (c : Contents) (s first to : ℕ) (x : PageState) → is_alive c.spaces s ≡ true → ((page : ℕ) → first ≤ page → page < to → IsSome (page_at c s page))
    → c ≡ with_space c s (fill_within (inside c.spaces s) first (to - first) x)
passed c s first to x alive there = sym (ap (with_space c s) (same_table _ _ (λ q. get-fill_within (inside c.spaces s) first (to - first) x q
    ∙ kept (is_within first (to - first) q) (page_at c s q) (λ e. let l = from_within first to q e in there q l.0 l.1))) ∙ with_itself c s alive)
  where
    kept : (w : Bool) (o : Option PageState) → (w ≡ true → IsSome o) → option_or o (cond w (Some x) None) ≡ o
    kept w (Some y) is = refl
    kept true None is = absurd (let f : false ≡ true = is refl in cc)
    kept false None is = refl

-- What the calls over ranges make of the plain memory, and of the areas.
use Rattle.std.proofs.Common.{◌≡◌, ℕ, ◌+◌, ◌-◌, ◌≤◌, zero, suc, Bool, true, false, not, cond, nat_eq, is_some, IsSome, List, [], ◌∷◌, map, Option, Some, None, refl, sym, ◌∙◌, ap, subst, arith}
use Rattle.std.specs.Prelude.{count_by, sum_by}
use Rattle.std.proofs.lemmas.Bool.Decides.{nat_tests}
use Rattle.std.proofs.lemmas.List.Sums.{sum_by-cons}
use Rattle.std.specs.Option.{option_map, option_map_or}
use Rattle.std.specs.Ordering.{nat_cmp}
use Rattle.std.specs.BTreeMap.{BTreeMap, get}
use Rattle.std.specs.FinMap as finmap
use Rattle.sd_areas.specs.declared.prot.Prot.{Prot}
use Rattle.sd_areas.specs.Areas.{PageMap}
use Rattle.sd_areas.specs.Pages.{is_within, page_of, pages_for, pages_from}
use Rattle.sd_areas.specs.PlainMemory as plain
use Rattle.sd_pagetable.specs.Nested.{Table, map_values, inside, set_within, remove_within, change_within, total, total_within}
use Rattle.sd_pagetable.specs.Page.{PageState, plain_page, fresh_page, protected_page, zeros}
use Rattle.sd_pagetable.specs.Contents.{Contents, plain_of, page_at, page_count}
use Rattle.sd_pagetable.specs.RefusalOrder.{prots_in}
use Rattle.sd_pagetable.specs.Effects.{after_mmap, after_munmap, after_mprotect}
use Rattle.sd_pagetable.specs.Kept.{HasAreas, prots_of}
use Rattle.sd_pagetable.specs.Tracking.{with_space}
use Rattle.sd_pagetable.proofs.TableLemmas.{same_table, get_put, get_removed, get-map_values, get-set_within, get-remove_within, get-change_within, entries-map_values}
use Rattle.sd_pagetable.proofs.NestedLemmas.{inside-map}
use Rattle.sd_pagetable.proofs.TotalLemmas.{total-insert, total-remove, total_within-insert, total_within-remove_space}
use Rattle.sd_pagetable.proofs.RangeLemmas.{set_more, set_none, set_outside}
use Rattle.sd_pagetable.proofs.RangeCounts.{counted_more, none_counted}

-- ---- values seen another way
module _ {X Y : Type 0} (f : X → Y) where
  pushed : (b : Bool) (x : X) (o : Option X) → option_map f (cond b (Some x) o) ≡ cond b (Some (f x)) (option_map f o)
  pushed b x o = grind arith

  dropped : (b : Bool) (o : Option X) → option_map f (cond b None o) ≡ cond b None (option_map f o)
  dropped b o = grind arith

  pub map_insert : (m : Table X) (k : ℕ) (v : X) → map_values f (finmap.insert m k v) ≡ finmap.insert (map_values f m) k (f v)
  map_insert m k v = same_table _ _ (λ q. get-map_values f (finmap.insert m k v) q ∙ ap (option_map f) (get_put m k v q) ∙ pushed (nat_eq q k) v (finmap.get m q)
      ∙ ap (cond (nat_eq q k) (Some (f v))) (sym (get-map_values f m q)) ∙ sym (get_put (map_values f m) k (f v) q))

  pub map_set : (t : Table X) (first count : ℕ) (x : X) → map_values f (set_within t first count x) ≡ set_within (map_values f t) first count (f x)
  map_set t first count x = same_table _ _ (λ q. get-map_values f (set_within t first count x) q ∙ ap (option_map f) (get-set_within t first count x q) ∙ pushed (is_within first count q) x (finmap.get t q)
      ∙ ap (cond (is_within first count q) (Some (f x))) (sym (get-map_values f t q)) ∙ sym (get-set_within (map_values f t) first count (f x) q))

  pub map_remove : (t : Table X) (first count : ℕ) → map_values f (remove_within t first count) ≡ remove_within (map_values f t) first count
  map_remove t first count = same_table _ _ (λ q. get-map_values f (remove_within t first count) q ∙ ap (option_map f) (get-remove_within t first count q) ∙ dropped (is_within first count q) (finmap.get t q)
      ∙ ap (cond (is_within first count q) None) (sym (get-map_values f t q)) ∙ sym (get-remove_within (map_values f t) first count q))

  pub map_removed : (m : Table X) (k : ℕ) → map_values f (finmap.remove m k) ≡ finmap.remove (map_values f m) k
  map_removed m k = same_table _ _ (λ q. get-map_values f (finmap.remove m k) q ∙ ap (option_map f) (get_removed m k q) ∙ dropped (nat_eq q k) (finmap.get m q)
      ∙ ap (cond (nat_eq q k) None) (sym (get-map_values f m q)) ∙ sym (get_removed (map_values f m) k q))

  -- how many there are
  ones : (es : List (ℕ × X)) → sum_by (λ (e : ℕ × Y). 1) (map (λ (e : ℕ × X). (e.0, f e.1)) es) ≡ sum_by (λ (e : ℕ × X). 1) es
  ones [] = refl
  ones (e ∷ es) =
      let a = sum_by-cons (λ (e : ℕ × Y). 1) (e.0, f e.1) (map (λ (e : ℕ × X). (e.0, f e.1)) es) in
      let b = sum_by-cons (λ (e : ℕ × X). 1) e es in
      omega (arith, a, b, ones es)

  pub same_many : (t : Table X) → total (λ _. 1) (map_values f t) ≡ total (λ _. 1) t
  unfolding total
  same_many t = ap (sum_by (λ (e : ℕ × Y). 1)) (entries-map_values f t) ∙ ones (finmap.entries t)

module _ {X Y : Type 0} (f : X → Y) (change : X → X) (seen : Y → Y) (same : (x : X) → f (change x) ≡ seen (f x)) where
  changed : (b : Bool) (o : Option X) → option_map f (option_map (λ x. cond b (change x) x) o) ≡ option_map (λ y. cond b (seen y) y) (option_map f o)
  changed b o = grind arith

  pub map_change : (t : Table X) (first count : ℕ) → map_values f (change_within change t first count) ≡ change_within seen (map_values f t) first count
  map_change t first count = same_table _ _ (λ q. get-map_values f (change_within change t first count) q ∙ ap (option_map f) (get-change_within change t first count q) ∙ changed (is_within first count q) (finmap.get t q)
      ∙ ap (option_map (λ y. cond (is_within first count q) (seen y) y)) (sym (get-map_values f t q)) ∙ sym (get-change_within seen (map_values f t) first count q))

weights : (es : List (ℕ × Table PageState)) → sum_by (λ (e : ℕ × Table plain.Page). total (λ _. 1) e.1) (map (λ (e : ℕ × Table PageState). (e.0, map_values plain_page e.1)) es) ≡ sum_by (λ (e : ℕ × Table PageState). total (λ _. 1) e.1) es
weights [] = refl
weights (e ∷ es) =
    let a = sum_by-cons (λ (e : ℕ × Table plain.Page). total (λ _. 1) e.1) (e.0, map_values plain_page e.1) (map (λ (e : ℕ × Table PageState). (e.0, map_values plain_page e.1)) es) in
    let b = sum_by-cons (λ (e : ℕ × Table PageState). total (λ _. 1) e.1) e es in
    omega (arith, a, b, weights es, same_many plain_page e.1)

-- the plain memory has as many pages
pub plain_many : (c : Contents) → page_count (plain_of c) ≡ page_count c.spaces
unfolding plain_of total_within total
plain_many c = ap (sum_by (λ (e : ℕ × Table plain.Page). total (λ _. 1) e.1)) (entries-map_values (map_values plain_page) c.spaces) ∙ weights (finmap.entries c.spaces)

-- ---- the plain memory after a call
pub plain_inside : (c : Contents) (s : ℕ) → inside (plain_of c) s ≡ map_values plain_page (inside c.spaces s)
unfolding plain_of
plain_inside c s = inside-map plain_page c.spaces s

pub plain_with : (c : Contents) (s : ℕ) (t : Table PageState) → plain_of (with_space c s t) ≡ finmap.insert (plain_of c) s (map_values plain_page t)
unfolding plain_of
plain_with c s t = map_insert (map_values plain_page) c.spaces s t

pub plain_mapped : (c : Contents) (s address bytes : ℕ) (prot : Prot)
    → plain_of (with_space c s (set_within (inside c.spaces s) (page_of address) (pages_for bytes) (fresh_page prot))) ≡ after_mmap (plain_of c) s address bytes prot
plain_mapped c s address bytes prot = plain_with c s _
    ∙ ap (finmap.insert (plain_of c) s) (map_set plain_page (inside c.spaces s) (page_of address) (pages_for bytes) (fresh_page prot)
    ∙ ap (λ t. set_within t (page_of address) (pages_for bytes) (record { prot = prot; bytes = zeros })) (sym (plain_inside c s)))

pub plain_unmapped : (c : Contents) (s address bytes : ℕ)
    → plain_of (with_space c s (remove_within (inside c.spaces s) (page_of address) (pages_for bytes))) ≡ after_munmap (plain_of c) s address bytes
plain_unmapped c s address bytes = plain_with c s _
    ∙ ap (finmap.insert (plain_of c) s) (map_remove plain_page (inside c.spaces s) (page_of address) (pages_for bytes)
    ∙ ap (λ t. remove_within t (page_of address) (pages_for bytes)) (sym (plain_inside c s)))

pub plain_protected : (c : Contents) (s address bytes : ℕ) (prot : Prot)
    → plain_of (with_space c s (change_within (protected_page prot) (inside c.spaces s) (page_of address) (pages_for bytes))) ≡ after_mprotect (plain_of c) s address bytes prot
plain_protected c s address bytes prot = plain_with c s _
    ∙ ap (finmap.insert (plain_of c) s) (map_change plain_page (protected_page prot) (λ (page : plain.Page). record page { prot = prot }) (λ _. refl) (inside c.spaces s) (page_of address) (pages_for bytes)
    ∙ ap (λ t. change_within (λ (page : plain.Page). record page { prot = prot }) t (page_of address) (pages_for bytes)) (sym (plain_inside c s)))

-- ---- the permissions
pub composed : {X Y Z : Type 0} (f : X → Y) (g : Y → Z) (h : X → Z) → ((x : X) → g (f x) ≡ h x) → (t : Table X) → map_values g (map_values f t) ≡ map_values h t
composed f g h same t = same_table _ _ (λ q. get-map_values g (map_values f t) q ∙ ap (option_map g) (get-map_values f t q) ∙ both (finmap.get t q) ∙ sym (get-map_values h t q))
  where
    both : (o : Option _) → option_map g (option_map f o) ≡ option_map h o
    both None = refl
    both (Some x) = ap Some (same x)

pub prots_seen : (c : Contents) (s : ℕ) → prots_in (inside (plain_of c) s) ≡ prots_of (inside c.spaces s)
prots_seen c s = ap prots_in (plain_inside c s) ∙ composed plain_page (λ (page : plain.Page). page.prot) (λ (page : PageState). page.prot) (λ _. refl) (inside c.spaces s)

-- the areas of a space whose pages changed
pub areas_with : (areas new : BTreeMap ℕ PageMap) (c : Contents) (s : ℕ) (t : Table PageState) (own : PageMap) → HasAreas areas c → own ≡ prots_of t
    → ((q : ℕ) → get nat_cmp new q ≡ cond (nat_eq q s) (Some own) (get nat_cmp areas q)) → HasAreas new (with_space c s t)
areas_with areas new c s t own has are put = grind (arith, get_put)

-- ---- how many pages a run makes
at_least : (count : ℕ) (t : Table PageState) (first : ℕ) → ((q : ℕ) → is_within first count q ≡ true → IsSome (finmap.get t q)) → count ≤ total (λ (_ : PageState). 1) t
at_least zero t first all = omega arith
at_least (suc count) t first all =
    let last = first + count in
    let there : IsSome (finmap.get t last) = all last (at_end first count) in
    let less = total-remove (λ (_ : PageState). 1) t last in
    let one : ◌≡◌ {A = ℕ} (option_map_or (λ (_ : PageState). 1) (finmap.get t last) 0) 1 = counted (finmap.get t last) there in
    let rest = at_least count (finmap.remove t last) first (λ q within. subst IsSome (sym (get_removed t last q ∙ ap (λ b. cond b None (finmap.get t q)) (before first count q within))) (all q (longer first count q within))) in
    omega (arith, less, one, rest)
  where
    counted : (o : Option PageState) → IsSome o → ◌≡◌ {A = ℕ} (option_map_or (λ (_ : PageState). 1) o 0) 1
    counted (Some x) e = refl
    counted None e = absurd (let f : false ≡ true = e in cc)

    at_end : (first count : ℕ) → is_within first (suc count) (first + count) ≡ true
    at_end first count = grind (arith, nat_tests)

    before : (first count q : ℕ) → is_within first count q ≡ true → nat_eq q (first + count) ≡ false
    before first count q within = grind (arith, nat_tests)

    longer : (first count q : ℕ) → is_within first count q ≡ true → is_within first (suc count) q ≡ true
    longer first count q within = grind (arith, nat_tests)

pub run_is_mapped : (c : Contents) (s first count : ℕ) (x : PageState) → count ≤ page_count (with_space c s (set_within (inside c.spaces s) first count x)).spaces
run_is_mapped c s first count x =
    let t = set_within (inside c.spaces s) first count x in
    let enough = at_least count t first (λ q within. subst IsSome (sym (get-set_within (inside c.spaces s) first count x q ∙ ap (λ b. cond b (Some x) (finmap.get (inside c.spaces s) q)) within)) refl) in
    let more = total_within-insert (λ (_ : PageState). 1) c.spaces s t in
    let inner = total_within-remove_space (λ (_ : PageState). 1) c.spaces s in
    omega (arith, enough, more, inner)

pub set_counted : (t : Table PageState) (first count : ℕ) (x : PageState)
    → total (λ (_ : PageState). 1) (set_within t first (first + count - first) x) ≡ total (λ (_ : PageState). 1) t + count_by (λ q. not (is_some (finmap.get t q))) (pages_from first (first + count - first))
set_counted t first zero x =
    let start : first + zero - first ≡ first - first = omega arith in
    let none : total (λ (_ : PageState). 1) (set_within t first (first - first) x) ≡ total (λ (_ : PageState). 1) t = ap (total (λ (_ : PageState). 1)) (set_none t first x) in
    subst (λ n. total (λ (_ : PageState). 1) (set_within t first n x) ≡ total (λ (_ : PageState). 1) t + count_by (λ q. not (is_some (finmap.get t q))) (pages_from first n)) (sym start)
    (let zero_counted = none_counted (λ q. not (is_some (finmap.get t q))) first in omega (arith, none, zero_counted))
set_counted t first (suc count) x =
    let k = first + count in
    let next : first + suc count - first ≡ k + 1 - first = omega arith in
    let was = set_counted t first count x in
    let put : total (λ (_ : PageState). 1) (finmap.insert (set_within t first (k - first) x) k x) ≡ total (λ (_ : PageState). 1) (set_within t first (k + 1 - first) x) = ap (total (λ (_ : PageState). 1)) (set_more t first k x (omega arith)) in
    let sum = total-insert (λ (_ : PageState). 1) (set_within t first (k - first) x) k x in
    let old : ◌≡◌ {A = ℕ} (option_map_or (λ (_ : PageState). 1) (finmap.get (set_within t first (k - first) x) k) 0) (option_map_or (λ (_ : PageState). 1) (finmap.get t k) 0) = ap (λ o. option_map_or (λ (_ : PageState). 1) o 0) (set_outside t first k x) in
    let more = counted_more (λ q. not (is_some (finmap.get t q))) first k (omega arith) in
    let either = hole_or_page (finmap.get t k) in
    subst (λ n. total (λ (_ : PageState). 1) (set_within t first n x) ≡ total (λ (_ : PageState). 1) t + count_by (λ q. not (is_some (finmap.get t q))) (pages_from first n)) (sym next)
    (omega (arith, was, put, sum, old, more, either))
  where
    hole_or_page : (o : Option PageState) → ◌≡◌ {A = ℕ} (option_map_or (λ (_ : PageState). 1) o 0 + cond (not (is_some o)) 1 0) 1
    hole_or_page None = refl
    hole_or_page (Some x) = refl

-- how many pages there are after `mmap`
pub mapped_count : (c : Contents) (s first end : ℕ) (x : PageState) → first ≤ end
    → page_count (with_space c s (set_within (inside c.spaces s) first (end - first) x)).spaces ≡ page_count c.spaces + count_by (λ q. not (is_some (page_at c s q))) (pages_from first (end - first))
mapped_count c s first end x le =
    let count = end - first in
    let same : first + count - first ≡ end - first = omega (arith, le) in
    let sum = subst (λ n. total (λ (_ : PageState). 1) (set_within (inside c.spaces s) first n x) ≡ total (λ (_ : PageState). 1) (inside c.spaces s) + count_by (λ q. not (is_some (finmap.get (inside c.spaces s) q))) (pages_from first n)) same
    (set_counted (inside c.spaces s) first count x) in
    let more = total_within-insert (λ (_ : PageState). 1) c.spaces s (set_within (inside c.spaces s) first (end - first) x) in
    omega (arith, sum, more)

-- How many pages of a run are holes, and how many pages there are.
use Rattle.std.proofs.Common.{◌≡◌, ℕ, ◌+◌, ◌-◌, ◌<◌, ◌≤◌, zero, suc, Bool, true, false, cond, IsSome, List, [], ◌∷◌, Option, Some, None, refl, ◌∙◌, ap, arith}
use Rattle.std.specs.Prelude.{count_by}
use Rattle.std.specs.Option.{option_map_or}
use Rattle.std.proofs.lemmas.List.Sums.{sum_by-cons}
use Rattle.sd_areas.specs.Pages.{pages_from}
use Rattle.sd_pagetable.specs.Nested.{value_at}
use Rattle.sd_pagetable.specs.Page.{PageState}
use Rattle.sd_pagetable.specs.Contents.{Contents, page_at, put_page, remove_page, page_count}
use Rattle.sd_pagetable.proofs.TotalLemmas.{total_within-put, total_within-remove}

abbrev pub one_if : Bool → ℕ
one_if b = cond b 1 0

counted : (p : ℕ → Bool) (page : ℕ) (pages : List ℕ) → count_by p (page ∷ pages) ≡ one_if (p page) + count_by p pages
counted p page pages = sum_by-cons (λ k. one_if (p k)) page pages

-- the run's first page, and the others
front : (p : ℕ → Bool) (first count : ℕ) → count_by p (pages_from first (suc count)) ≡ one_if (p first) + count_by p (pages_from (suc first) count)
unfolding pages_from
front p first count = counted p first (pages_from (suc first) count)

-- the others, and the run's last page
back : (p : ℕ → Bool) (first count : ℕ) → count_by p (pages_from first (suc count)) ≡ count_by p (pages_from first count) + one_if (p (first + count))
unfolding pages_from
back p first zero =
    let e : one_if (p first) ≡ one_if (p (first + 0)) = ap (λ k. one_if (p k)) (let z : first ≡ first + 0 = omega arith in z) in
    let none : count_by p [] ≡ zero = refl in
    omega (arith, e, none, counted p first [])
back p first (suc count) =
    let later = back p (suc first) count in
    let front_one = front p first (suc count) in
    let front_two = front p first count in
    let e : one_if (p (suc first + count)) ≡ one_if (p (first + suc count)) = ap (λ k. one_if (p k)) (let z : suc first + count ≡ first + suc count = omega arith in z) in
    omega (arith, later, e, front_one, front_two)

pub none_counted : (p : ℕ → Bool) (first : ℕ) → count_by p (pages_from first (first - first)) ≡ 0
unfolding pages_from
none_counted p first = ap (λ n. count_by p (pages_from first n)) (let z : first - first ≡ 0 = omega arith in z)

pub counted_more : (p : ℕ → Bool) (first k : ℕ) → first ≤ k → count_by p (pages_from first (k + 1 - first)) ≡ count_by p (pages_from first (k - first)) + one_if (p k)
counted_more p first k le =
    ap (λ n. count_by p (pages_from first n)) (let z : k + 1 - first ≡ suc (k - first) = omega (arith, le) in z) ∙ back p first (k - first)
    ∙ ap (λ n. count_by p (pages_from first (k - first)) + one_if (p n)) (let z : first + (k - first) ≡ k = omega (arith, le) in z)

pub left_to_count : (p : ℕ → Bool) (k end : ℕ) → k < end → count_by p (pages_from k (end - k)) ≡ one_if (p k) + count_by p (pages_from (k + 1) (end - (k + 1)))
left_to_count p k end less =
    ap (λ n. count_by p (pages_from k n)) (let z : end - k ≡ suc (end - (k + 1)) = omega (arith, less) in z) ∙ front p k (end - (k + 1))
    ∙ ap (λ n. one_if (p k) + count_by p (pages_from n (end - (k + 1)))) (let z : suc k ≡ k + 1 = omega arith in z)

-- ---- how many pages there are
pub one_more : (c : Contents) (s p : ℕ) (x : PageState) → page_at c s p ≡ None → page_count (put_page c s p x).spaces ≡ page_count c.spaces + 1
one_more c s p x none = grind (arith, total_within-put)

pub one_less : (c : Contents) (s p : ℕ) → IsSome (page_at c s p) → page_count (remove_page c s p).spaces < page_count c.spaces
one_less c s p there =
    let a = total_within-remove (λ (_ : PageState). 1) c.spaces s p in
    let b : ◌≡◌ {A = ℕ} (option_map_or (λ (_ : PageState). 1) (value_at c.spaces s p) 0) 1 = of_some (page_at c s p) there in
    omega (arith, a, b)
  where
    of_some : (o : Option PageState) → IsSome o → ◌≡◌ {A = ℕ} (option_map_or (λ (_ : PageState). 1) o 0) 1
    of_some (Some x) e = refl
    of_some None e = absurd (let f : false ≡ true = e in cc)

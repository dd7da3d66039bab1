-- Runs of mapped pages that are unmapped, one after the other.
use Rattle.std.proofs.Common.{◌≡◌, ℕ, ◌+◌, ◌-◌, ◌<◌, ◌≤◌, Bool, true, false, cond, nat_eq, ◌||◌, IsSome, Option, None, sym, ◌∙◌, ap, arith}
use Rattle.std.proofs.lemmas.Bool.Decides.{nat_tests}
use Rattle.sd_areas.specs.Pages.{is_within}
use Rattle.sd_pagetable.specs.Nested.{inside, is_alive, remove_within}
use Rattle.sd_pagetable.specs.Page.{PageState}
use Rattle.sd_pagetable.specs.Contents.{Contents, page_at, remove_page}
use Rattle.sd_pagetable.specs.Ranges.{IsCleared}
use Rattle.sd_pagetable.specs.Tracking.{with_space}
use Rattle.sd_pagetable.proofs.TableLemmas.{same_table, get-remove_within}
use Rattle.sd_pagetable.proofs.RangeLemmas.{within_none, within_more, with_itself}
use Rattle.sd_pagetable.proofs.RangeSteps.{cleared_none, cleared_both, dropped}

or_turned : (a b : Bool) → (a || b) ≡ (b || a)
or_turned a b = grind arith

-- no page yet
pub unmaps_none : (c : Contents) (s first : ℕ) → is_alive c.spaces s ≡ true → IsCleared c c s (is_within first (first - first))
unmaps_none c s first alive = cleared_none c s _ alive (within_none first)

not_yet : (first k : ℕ) → is_within first (k - first) k ≡ false
not_yet first k = grind (arith, nat_tests)

-- the next page is still there
pub still_mapped : (old now : Contents) (s first k : ℕ) → IsCleared old now s (is_within first (k - first)) → IsSome (page_at old s k) → IsSome (page_at now s k)
still_mapped old now s first k done there = grind (arith, not_yet)

-- one page more
pub unmaps_more : (old now new : Contents) (s first k : ℕ) → first ≤ k → is_alive now.spaces s ≡ true → IsCleared old now s (is_within first (k - first)) → IsSome (page_at now s k) → new ≡ remove_page now s k
    → IsCleared old new s (is_within first (k + 1 - first))
unmaps_more old now new s first k le alive done there step = cleared_both old now new s _ (λ q. nat_eq q k) _ done
    (dropped now new s k alive (λ _. step) (λ none. absurd (let e : IsSome (page_at now s k) = there in grind arith)))
    (λ q. within_more first k q le ∙ or_turned (nat_eq q k) (is_within first (k - first) q))

within_both : (first k to q : ℕ) → first ≤ k → k ≤ to → is_within first (to - first) q ≡ (is_within first (k - first) q || is_within k (to - k) q)
within_both first k to q le more = grind (arith, nat_tests)

-- one run more
pub unmaps_run : (old now new : Contents) (s first k to : ℕ) → first ≤ k → k ≤ to → IsCleared old now s (is_within first (k - first)) → IsCleared now new s (is_within k (to - k)) → IsCleared old new s (is_within first (to - first))
unmaps_run old now new s first k to le more done step = cleared_both old now new s _ _ _ done step (λ q. within_both first k to q le more)

from_within : (first to q : ℕ) → is_within first (to - first) q ≡ true → (first ≤ q) × (q < to)
from_within first to q e = (grind (arith, nat_tests), grind (arith, nat_tests))

gone_by : (b : Bool) (o : Option PageState) → (b ≡ true → o ≡ None) → o ≡ cond b None o
gone_by b o none = grind arith

-- a run of holes
pub unmaps_holes : (c : Contents) (s first to : ℕ) → is_alive c.spaces s ≡ true → ((page : ℕ) → first ≤ page → page < to → page_at c s page ≡ None) → IsCleared c c s (is_within first (to - first))
unmaps_holes c s first to alive holes = record {
  pages = λ q. gone_by (is_within first (to - first) q) (page_at c s q) (λ e. let l = from_within first to q e in holes q l.0 l.1);
  others = sym (with_itself c s alive);
}

-- the whole run
pub unmaps_all : (old new : Contents) (s first count : ℕ) → IsCleared old new s (is_within first count) → new ≡ with_space old s (remove_within (inside old.spaces s) first count)
unmaps_all old new s first count done = done.others ∙ ap (with_space old s) (same_table _ _ (λ q. done.pages q ∙ sym (get-remove_within (inside old.spaces s) first count q)))

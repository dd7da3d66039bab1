-- Pages that differ, put to others.
use Rattle.std.proofs.Common.{◌≡◌, ◌≢◌, ◌⊎◌, ◌+◌, ◌-◌, ◌*◌, ◌<◌, ◌≤◌, ℕ, List, length, Option, Some, None, refl, sym, ◌∙◌, ap, subst, inl, inr, arith}
use Rattle.std.specs.Prelude.{◌↔◌}
use Rattle.std.specs.List.{slice_range}
use Rattle.std.specs.Option.{option_map}
use Rattle.sd_areas.specs.declared.prot.Prot.{Prot}
use Rattle.sd_chain.specs.declared.found.Found.{Found}
use Rattle.sd_chain.specs.Chains.{found_on}
use Rattle.sd_chain.specs.Store.{bytes_at}
use Rattle.sd_restore.specs.declared.placed_run.PlacedRun.{PlacedRun}
use Rattle.sd_restore.proofs.TakeLemmas.{taken_all}
use Rattle.sd_diff.specs.declared.difference.PageRun.{PageRun}
use Rattle.sd_diff.specs.declared.difference.AreaChange.{AreaChange}
use Rattle.sd_diff.specs.Difference.{AddsChanges, AddsPage, AddsProts, AddsWritten, HasChange, HasPage, IsChangedIn, IsIn, IsWritten, held_prot}
use Rattle.sd_diff.specs.Held.{Held, held_in}
use Rattle.sd_diff.proofs.ListLemmas.{below_or}

-- ---- one page

pub put_differs : (contents : List (List ℕ)) (run : PageRun) (before after : Found) (old new : List PageRun) → (bytes_at contents before ≢ bytes_at contents after)
    → ((space page : ℕ) → HasPage new space page ↔ (HasPage old space page ⊎ IsIn run space page)) → AddsPage contents run before after old new
put_differs contents run before after old new differ put at page = (
  λ h. elim ((put at page).0 h) [
    | inl g ↦ inl g
    | inr i ↦ inr (i, differ)
  ],
  λ h. elim h [
    | inl g ↦ (put at page).1 (inl g)
    | inr both ↦ (put at page).1 (inr both.0)
  ],
)

pub put_same : (contents : List (List ℕ)) (run : PageRun) (before after : Found) (list : List PageRun) → ((bytes_at contents before ≢ bytes_at contents after) → ⊥) → AddsPage contents run before after list list
put_same contents run before after list same at page = (
  λ h. inl h,
  λ h. elim h [
    | inl g ↦ g
    | inr both ↦ absurd (same both.1)
  ],
)

-- ---- pages of two runs

pub none_written : (contents : List (List ℕ)) (space from to : ℕ) (before after : ℕ → Option Held) (list : List PageRun)
    → ((page : ℕ) → from ≤ page → page < to → IsWritten contents (before page) (after page) → ⊥) → AddsWritten contents space from to before after list list
none_written contents space from to before after list none at page = (
  λ h. inl h,
  λ h. elim h [
    | inl g ↦ g
    | inr both ↦ absurd (none page both.0.from_is both.0.to_is both.1)
  ],
)

place_at : (r : PlacedRun) (first k page : ℕ) → r.first ≡ first → page ≡ first + k → found_on r.there (page - r.first) ≡ found_on r.there k
place_at r first k page is at = ap (found_on r.there) (let e : page - r.first ≡ k = omega (arith, is, at) in e)

-- they are written where their bytes differ
pub written_at : (contents : List (List ℕ)) (old new : PlacedRun) (first k page : ℕ) → old.first ≡ first → new.first ≡ first → page ≡ first + k
    → IsWritten contents (held_in (Some old) page) (held_in (Some new) page) ↔ (bytes_at contents (found_on old.there k) ≢ bytes_at contents (found_on new.there k))
written_at contents old new first k page o n at =
    let one = ap (bytes_at contents) (place_at old first k page o at) in
    let other = ap (bytes_at contents) (place_at new first k page n at) in
    (λ differ same. differ (one ∙ same ∙ sym other), λ differ same. differ (sym one ∙ same ∙ other))

pub same_unwritten : (contents : List (List ℕ)) (old new : PlacedRun) (page : ℕ) → old.first ≡ new.first → old.there ≡ new.there → IsWritten contents (held_in (Some old) page) (held_in (Some new) page) → ⊥
same_unwritten contents old new page first there differ =
    differ (ap (λ t. bytes_at contents (found_on t (page - old.first))) there ∙ ap (λ f. bytes_at contents (found_on new.there (page - f))) first)

-- one page more
pub written_more : (contents : List (List ℕ)) (space first k : ℕ) (old new : PlacedRun) (run : PageRun) (before after : Found) (a b c : List PageRun)
    → old.first ≡ first → new.first ≡ first → run.space ≡ space → run.first ≡ first + k → run.count ≡ 1
    → before ≡ found_on old.there k → after ≡ found_on new.there k
    → AddsWritten contents space first (first + k) (held_in (Some old)) (held_in (Some new)) a b → AddsPage contents run before after b c
    → AddsWritten contents space first (first + (k + 1)) (held_in (Some old)) (held_in (Some new)) a c
written_more contents space first k old new run before after a b c o n s f one at_old at_new was put at page = (
  λ h. elim ((put at page).0 h) [
    | inl g ↦ elim ((was at page).0 g) [
      | inl l ↦ inl l
      | inr both ↦ (let high = both.0.to_is in inr (record { space_is = both.0.space_is; from_is = both.0.from_is; to_is = omega (arith, high) }, both.1))
    ]
    | inr both ↦ inr (
      (let low = both.0.first in let high = both.0.last in record { space_is = sym both.0.space_is ∙ s; from_is = omega (arith, low, f); to_is = omega (arith, high, f, one) }),
      (written_at contents old new first k page o n (here both.0)).1 (subst (λ x. bytes_at contents x ≢ bytes_at contents (found_on new.there k)) at_old (subst (λ x. bytes_at contents before ≢ bytes_at contents x) at_new both.1)),
    )
  ],
  λ h. elim h [
    | inl l ↦ (put at page).1 (inl ((was at page).1 (inl l)))
    | inr both ↦ elim (below_or page (first + k)) [
      | inl less ↦ (put at page).1 (inl ((was at page).1 (inr (record { space_is = both.0.space_is; from_is = both.0.from_is; to_is = less }, both.1))))
      | inr more ↦ (let high = both.0.to_is in let e : page ≡ first + k = omega (arith, more, high) in (put at page).1 (inr (
        (record { space_is = s ∙ sym both.0.space_is; first = omega (arith, f, e); last = omega (arith, f, e, one) }),
        subst (λ x. bytes_at contents x ≢ bytes_at contents after) (sym at_old) (subst (λ x. bytes_at contents (found_on old.there k) ≢ bytes_at contents x) (sym at_new) ((written_at contents old new first k page o n e).0 both.1)),
      )))
    ]
  ],
)
  where
    here : IsIn run at page → page ≡ first + k
    here i = let low = i.first in let high = i.last in omega (arith, low, high, f, one)

-- ---- their permissions

prots_in : (r : Option PlacedRun) (page : ℕ) → held_prot (held_in r page) ≡ option_map (λ (r : PlacedRun). r.prot) r
prots_in None page = refl
prots_in (Some r) page = refl

pub prots_are : (pages : PageRun) (before after : Option PlacedRun) (old new : List AreaChange) → AddsProts pages (option_map (λ (r : PlacedRun). r.prot) before) (option_map (λ (r : PlacedRun). r.prot) after) old new
    → AddsChanges pages.space pages.first (pages.first + pages.count) (held_in before) (held_in after) old new
prots_are pages before after old new put at page was is = (
  λ h. elim ((put at page was is).0 h) [
    | inl g ↦ inl g
    | inr parts ↦ inr (
      record { space_is = sym parts.0.space_is; from_is = parts.0.first; to_is = parts.0.last },
      record { old_is = parts.1 ∙ sym (prots_in before page); new_is = parts.2 ∙ sym (prots_in after page); differ = parts.3 },
    )
  ],
  λ h. elim h [
    | inl g ↦ (put at page was is).1 (inl g)
    | inr both ↦ (put at page was is).1 (inr (
      record { space_is = sym both.0.space_is; first = both.0.from_is; last = both.0.to_is },
      both.1.old_is ∙ prots_in before page,
      both.1.new_is ∙ prots_in after page,
      both.1.differ,
    ))
  ],
)

pub prots_put : (pages : PageRun) (before after : Option Prot) (old new : List AreaChange) (change : AreaChange) → before ≢ after
    → change.pages ≡ pages → change.old ≡ before → change.new ≡ after
    → ((space page : ℕ) (was is : Option Prot) → HasChange new space page was is ↔ (HasChange old space page was is ⊎ IsChangedIn change space page was is))
    → AddsProts pages before after old new
prots_put pages before after old new change differ p o n put at page was is = (
  λ h. elim ((put at page was is).0 h) [
    | inl g ↦ inl g
    | inr i ↦ inr (
      subst (λ q. IsIn q at page) p i.page_is,
      sym i.old_is ∙ o,
      sym i.new_is ∙ n,
      λ same. differ (sym o ∙ i.old_is ∙ same ∙ sym i.new_is ∙ n),
    )
  ],
  λ h. elim h [
    | inl g ↦ (put at page was is).1 (inl g)
    | inr parts ↦ (put at page was is).1 (inr (record { page_is = subst (λ q. IsIn q at page) (sym p) parts.0; old_is = o ∙ sym parts.1; new_is = n ∙ sym parts.2 }))
  ],
)

pub prots_same : (pages : PageRun) (before after : Option Prot) (list : List AreaChange) → before ≡ after → AddsProts pages before after list list
prots_same pages before after list same at page was is = (
  λ h. inl h,
  λ h. elim h [
    | inl g ↦ g
    | inr parts ↦ absurd (parts.3 (parts.1 ∙ same ∙ sym parts.2))
  ],
)

-- ---- pages that were read, and pages of which none is written

pub page_read : (contents : List (List ℕ)) (there : Found) (bytes : List ℕ) → length bytes ≡ 4096
    → slice_range bytes (4096 * 0) (4096 * 0 + 4096) ≡ bytes_at contents (found_on there 0) → bytes ≡ bytes_at contents there
page_read contents there bytes long read = sym (taken_all bytes 4096 (omega (arith, long))) ∙ read ∙ ap (bytes_at contents) (on_none there)
  where
    on_none : (there : Found) → found_on there 0 ≡ there
    on_none there = grind arith

pub begins_unwritten : (contents : List (List ℕ)) (space first : ℕ) (before after : ℕ → Option Held) (list : List PageRun) → AddsWritten contents space first (first + 0) before after list list
begins_unwritten contents space first before after list = none_written contents space first (first + 0) before after list (λ page low high _. omega (arith, low, high))

pub same_runs_unwritten : (contents : List (List ℕ)) (space from to : ℕ) (old new : PlacedRun) (list : List PageRun) → old.first ≡ new.first → old.there ≡ new.there
    → AddsWritten contents space from to (held_in (Some old)) (held_in (Some new)) list list
same_runs_unwritten contents space from to old new list first there =
    none_written contents space from to (held_in (Some old)) (held_in (Some new)) list (λ page _ _ written. same_unwritten contents old new page first there written)

-- where one memory has none of the pages
pub none_before_written : (contents : List (List ℕ)) (space from to : ℕ) (before after : Option PlacedRun) (list : List PageRun) → before ≡ None → AddsWritten contents space from to (held_in before) (held_in after) list list
none_before_written contents space from to before after list none =
    none_written contents space from to (held_in before) (held_in after) list (λ page _ _ written. subst (λ o. IsWritten contents (held_in o page) (held_in after page)) none written)

pub none_after_written : (contents : List (List ℕ)) (space from to : ℕ) (before after : Option PlacedRun) (list : List PageRun) → after ≡ None → AddsWritten contents space from to (held_in before) (held_in after) list list
none_after_written contents space from to before after list none =
    none_written contents space from to (held_in before) (held_in after) list (λ page _ _ written. by page before (subst (λ o. IsWritten contents (held_in before page) (held_in o page)) none written))
  where
    by : (page : ℕ) (o : Option PlacedRun) → IsWritten contents (held_in o page) None → ⊥
    by page None written = written
    by page (Some r) written = written

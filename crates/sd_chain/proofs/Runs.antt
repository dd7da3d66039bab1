-- The run of a space that has a page, found by its place.
use Rattle.std.proofs.Common.{◌≡◌, ℕ, zero, suc, ◌+◌, ◌-◌, ◌<◌, ◌≤◌, true, false, ltb, leb, List, [], ◌∷◌, length, get_or, Option, Some, None, sym, ◌∙◌, subst, arith, Bool}
use Rattle.std.specs.List.{slice_get}
use Rattle.std.specs.Prelude.{All, IfSome, IsNone, IsTrue}
use Rattle.std.specs.Bool.{then_some}
use Rattle.std.specs.List.Sorted.{IsPartitionedBy, IsPartitionPoint}
use Rattle.std.proofs.lemmas.Bool.{and_from, and_parts, cases_lt, false≢true, leb-false, leb-true, le-leb, lt-ltb, ltb-true}
use Rattle.std.proofs.lemmas.Option.{get_or_from_slice_get}
use Rattle.sd_areas.specs.Pages.{is_within}
use Rattle.sd_image.specs.declared.run.Run.{Run}
use Rattle.sd_image.specs.Table.{is_run_after, AreRuns}

-- whether a run begins at a page or before it
abbrev pub begins_by : ℕ → Run → Bool
begins_by page run = leb run.first page

abbrev end_of : Option Run → ℕ
end_of None = 0
end_of (Some run) = run.first + run.count

behind : (parent : ℕ) (before : Option Run) (run : Run) → is_run_after parent before run ≡ true → end_of before ≤ run.first
behind parent before run e = grind arith

-- each run begins after the ends of those before it
later_begins : (parent : ℕ) (before : Option Run) (runs : List Run) (i : ℕ) (d : Run) → AreRuns parent before runs → i < length runs → end_of before ≤ (get_or runs i d).first
later_begins parent before [] i d h l = absurd (omega arith)
later_begins parent before (run ∷ runs) zero d h l = behind parent before run h.0
later_begins parent before (run ∷ runs) (suc i) d h l =
    let here = behind parent before run h.0 in
    let rest = later_begins parent (Some run) runs i d h.1 (omega arith) in
    omega (arith, here, rest)

pub apart : (parent : ℕ) (before : Option Run) (runs : List Run) (i j : ℕ) (d : Run) → AreRuns parent before runs → i < j → j < length runs
    → (get_or runs i d).first + (get_or runs i d).count ≤ (get_or runs j d).first
apart parent before (run ∷ runs) zero (suc j) d h l m = later_begins parent (Some run) runs j d h.1 (omega arith)
apart parent before (run ∷ runs) (suc i) (suc j) d h l m = apart parent (Some run) runs i j d h.1 (omega arith) (omega arith)
apart parent before _ _ _ d h l m = absurd (omega arith)

starts_rise : (parent : ℕ) (before : Option Run) (runs : List Run) (i j : ℕ) (d : Run) → AreRuns parent before runs → i ≤ j → j < length runs
    → (get_or runs i d).first ≤ (get_or runs j d).first
starts_rise parent before (run ∷ runs) zero zero d h l m = omega arith
starts_rise parent before (run ∷ runs) zero (suc j) d h l m = let rest = later_begins parent (Some run) runs j d h.1 (omega arith) in omega (arith, rest)
starts_rise parent before (run ∷ runs) (suc i) (suc j) d h l m = starts_rise parent (Some run) runs i j d h.1 (omega arith) (omega arith)
starts_rise parent before _ _ _ d h l m = absurd (omega arith)

pub are_partitioned : (parent page : ℕ) (runs : List Run) → AreRuns parent None runs → IsPartitionedBy (begins_by page) runs
are_partitioned parent page runs h i j d l m e = le-leb _ _ (omega (arith, starts_rise parent None runs i j d h l m, leb-true _ _ e))

abbrev pub IsPoint : ℕ → List Run → ℕ → Type 0
IsPoint page = IsPartitionPoint (λ run. begins_by page run ≡ true) (λ run. begins_by page run ≡ false)

has_both : (run : Run) (page : ℕ) → IsTrue (is_within run.first run.count page) → (run.first ≤ page) × (page < run.first + run.count)
has_both run page h = let parts = and_parts (leb run.first page) (ltb page (run.first + run.count)) h in (leb-true _ _ parts.0, ltb-true _ _ parts.1)

pub within_from : (run : Run) (page : ℕ) → run.first ≤ page → page < run.first + run.count → IsTrue (is_within run.first run.count page)
within_from run page low high = and_from _ _ (le-leb _ _ low) (lt-ltb _ _ high)

pub within_low : (run : Run) (page : ℕ) → IsTrue (is_within run.first run.count page) → run.first ≤ page
within_low run page h = (has_both run page h).0

pub within_high : (run : Run) (page : ℕ) → IsTrue (is_within run.first run.count page) → page < run.first + run.count
within_high run page h = (has_both run page h).1

-- no run has a page that all begin after
pub none_begins : (page : ℕ) (runs : List Run) (after : ℕ) → IsPoint page runs after → after ≡ 0
    → All (λ run. IsTrue (is_within run.first run.count page) → ⊥) runs
none_begins page runs after point none = grind arith

-- nor one that the last that begins before it hasn't
pub none_has : (parent page : ℕ) (runs : List Run) (after at : ℕ) (run : Run) → AreRuns parent None runs → IsPoint page runs after → at ≡ after - 1 → (after ≡ 0 → ⊥) → after ≤ length runs
    → slice_get runs at ≡ Some run → is_within run.first run.count page ≡ false
    → All (λ run. IsTrue (is_within run.first run.count page) → ⊥) runs
none_has parent page runs after at run good point is some bound got hasnt = grind (arith, has_both, get_or_from_slice_get, leb-true, cases_lt, apart, leb-false, false≢true)

pub place_is : (runs : List Run) (at : ℕ) (run : Run) (b : Bool) (page : ℕ) (r : Option ℕ) → r ≡ then_some b at → b ≡ is_within run.first run.count page → run ≡ get_or runs at run
    → IfSome r (λ at. (other : Run) → slice_get runs at ≡ Some other → IsTrue (is_within other.first other.count page))
place_is runs at run b page r is has got =
    subst (λ o. IfSome o (λ at. (other : Run) → slice_get runs at ≡ Some other → IsTrue (is_within other.first other.count page))) (sym is) (by b has)
  where
    by : (b : Bool) → b ≡ is_within run.first run.count page → IfSome (then_some b at) (λ at. (other : Run) → slice_get runs at ≡ Some other → IsTrue (is_within other.first other.count page))
    by true has = λ other there. subst (λ (r : Run). IsTrue (is_within r.first r.count page)) (got ∙ get_or_from_slice_get runs at other run there) (sym has)
    by false has = tt

pub none_is : (b : Bool) (at : ℕ) (r : Option ℕ) → r ≡ then_some b at → IsNone r → b ≡ false
none_is b at r is none = grind arith

-- the run at a place has a page
abbrev pub HasWithin : List Run → ℕ → ℕ → Type 0
HasWithin runs at page = (run : Run) → slice_get runs at ≡ Some run → IsTrue (is_within run.first run.count page)

-- no run has a page
abbrev pub HasNone : List Run → ℕ → Type 0
HasNone runs page = (parent : ℕ) → AreRuns parent None runs → All (λ run. IsTrue (is_within run.first run.count page) → ⊥) runs

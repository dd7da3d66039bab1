-- What runs of a space have, from one page on.
use Rattle.std.proofs.Common.{◌≡◌, ◌+◌, ◌-◌, ◌<◌, ◌≤◌, ◌^◌, ℕ, zero, suc, drop, true, false, List, [], ◌∷◌, Option, Some, None, length, refl, sym, ◌∙◌, ap, subst, arith}
use Rattle.std.specs.Prelude.{All, IfSome}
use Rattle.std.proofs.lemmas.Bool.{cond-true, cond-false}
use Rattle.std.proofs.lemmas.Bool.Decides.{nat_tests}
use Rattle.std.proofs.lemmas.List.Elements.{All-head, All-tail}
use Rattle.sd_areas.specs.Pages.{is_within}
use Rattle.sd_chain.specs.declared.found.Found.{Found}
use Rattle.sd_chain.specs.Chains.{found_on}
use Rattle.sd_restore.specs.declared.placed_run.PlacedRun.{PlacedRun}
use Rattle.sd_restore.specs.Placed.{IsInSlots, IsWithin}
use Rattle.sd_diff.specs.declared.difference.PageRun.{PageRun}
use Rattle.sd_diff.specs.declared.part.Part.{Part}
use Rattle.sd_diff.specs.Held.{AreRising, EndsAfter, held_at, held_by}
use Rattle.sd_diff.specs.Parts.{HasRest, IsPart, IsRest}

within_is : (first count page : ℕ) → first ≤ page → page < first + count → is_within first count page ≡ true
within_is first count page low high = grind (arith, nat_tests)

not_yet : (first count page : ℕ) → page < first → is_within first count page ≡ false
not_yet first count page low = grind (arith, nat_tests)

no_more : (first count page : ℕ) → first + count ≤ page → is_within first count page ≡ false
no_more first count page high = grind (arith, nat_tests)

found_behind : (there : Found) (b k : ℕ) → found_on (found_on there b) k ≡ found_on there (b + k)
found_behind there b k = grind arith

-- ---- what the first run has, and what the others

pub held_first : (r : PlacedRun) (runs : List PlacedRun) (page : ℕ) → r.first ≤ page → page < r.first + r.count → held_at (r ∷ runs) page ≡ Some (held_by r page)
held_first r runs page low high = cond-true _ _ _ (within_is r.first r.count page low high)

pub held_later : (r : PlacedRun) (runs : List PlacedRun) (page : ℕ) → r.first + r.count ≤ page → held_at (r ∷ runs) page ≡ held_at runs page
held_later r runs page high = cond-false _ _ _ (no_more r.first r.count page high)

none_before : (runs : List PlacedRun) (bound page : ℕ) → All (λ (s : PlacedRun). bound ≤ s.first) runs → page < bound → held_at runs page ≡ None
none_before [] bound page all less = refl
none_before (s ∷ runs) bound page all less =
    let front = All-head (λ (s : PlacedRun). bound ≤ s.first) s runs all in
    cond-false _ _ _ (not_yet s.first s.count page (omega (arith, less, front))) ∙ none_before runs bound page (All-tail (λ (s : PlacedRun). bound ≤ s.first) s runs all) less

pub held_before : (r : PlacedRun) (runs : List PlacedRun) (page : ℕ) → AreRising (r ∷ runs) → page < r.first → held_at (r ∷ runs) page ≡ None
held_before r runs page rising less = cond-false _ _ _ (not_yet r.first r.count page less) ∙ none_before runs (r.first + r.count) page rising.0 (omega (arith, less))

-- ---- parts

pub part_before : (runs rest : List PlacedRun) (r : PlacedRun) (at : ℕ) → runs ≡ r ∷ rest → All IsWithin runs → at < r.first
    → IsPart runs at (record { until = r.first; run = None })
part_before runs rest r at is within less =
    let inside = All-head IsWithin r rest (subst (All IsWithin) is within) in
    let pages = inside.pages in
    record {
      some = less;
      within = omega (arith, pages);
      rest = tt;
      slots = λ count slots. tt;
      same = λ rising page low high. ap (λ rs. held_at rs page) is ∙ held_before r rest page (subst AreRising is rising) high;
    }

held_on_rest : (r rest : PlacedRun) (at page : ℕ) → r.first ≤ at → at ≤ page → rest.first ≡ r.first + (at - r.first) → rest.prot ≡ r.prot → rest.there ≡ found_on r.there (at - r.first) → held_by r page ≡ held_by rest page
held_on_rest r rest at page low from first prot there =
    let e : (at - r.first) + (page - rest.first) ≡ page - r.first = omega (arith, low, from, first) in
    ap (λ p. record { prot = p; there = found_on r.there (page - r.first) }) (sym prot)
    ∙ ap (λ t. record { prot = rest.prot; there = t }) (ap (found_on r.there) (sym e) ∙ sym (found_behind r.there (at - r.first) (page - rest.first)) ∙ ap (λ t. found_on t (page - rest.first)) (sym there))

pub part_within : (runs others : List PlacedRun) (r rest : PlacedRun) (at : ℕ) → runs ≡ r ∷ others → All IsWithin runs → EndsAfter at runs → r.first ≤ at
    → IsWithin rest → rest.first ≡ r.first + (at - r.first) → rest.count ≡ r.count - (at - r.first) → rest.prot ≡ r.prot → rest.there ≡ found_on r.there (at - r.first)
    → ((count : ℕ) → IsInSlots count r.there → IsInSlots count rest.there) → IsPart runs at (record { until = r.first + r.count; run = Some rest })
part_within runs others r rest at is within ahead low rest_within first count prot there slots =
    let inside = All-head IsWithin r others (subst (All IsWithin) is within) in
    let pages = inside.pages in
    let behind = subst (EndsAfter at) is ahead in
    record {
      some = behind;
      within = pages;
      rest = record { within = rest_within; first = omega (arith, first, low); last = omega (arith, count, low, behind) };
      slots = λ n all. slots n (All-head (λ (s : PlacedRun). IsInSlots n s.there) r others (subst (All (λ (s : PlacedRun). IsInSlots n s.there)) is all));
      same = λ rising page from to. ap (λ rs. held_at rs page) is ∙ held_first r others page (omega (arith, low, from)) to ∙ ap Some (held_on_rest r rest at page low from first prot there);
    }

-- ---- the runs from a page on

pub drop_rising : (n : ℕ) (runs : List PlacedRun) → AreRising runs → AreRising (drop n runs)
drop_rising zero runs rising = rising
drop_rising (suc n) [] rising = tt
drop_rising (suc n) (r ∷ runs) rising = drop_rising n runs rising.1

no_runs : (runs : List PlacedRun) → length runs ≡ 0 → runs ≡ []
no_runs [] none = refl
no_runs (r ∷ runs) none = absurd (omega (arith, none))

pub none_ahead : (runs : List PlacedRun) (at : ℕ) → length runs ≡ 0 → EndsAfter at runs
none_ahead runs at none = subst (EndsAfter at) (sym (no_runs runs none)) tt

pub no_part : (runs : List PlacedRun) (at : ℕ) → length runs ≡ 0 → at < 2 ^ 35 → IsPart runs at (record { until = 2 ^ 35; run = None })
no_part runs at none less = subst (λ rs. IsPart rs at (record { until = 2 ^ 35; run = None })) (sym (no_runs runs none)) (record {
  some = less;
  within = omega arith;
  rest = tt;
  slots = λ count slots. tt;
  same = λ rising page low high. refl;
})

-- ---- where none is

pub none_high : (runs : List PlacedRun) (page : ℕ) → All IsWithin runs → 2 ^ 35 ≤ page → held_at runs page ≡ None
none_high [] page within high = refl
none_high (r ∷ runs) page within high =
    let pages = (All-head IsWithin r runs within).pages in
    held_later r runs page (omega (arith, pages, high)) ∙ none_high runs page (All-tail IsWithin r runs within) high

-- ---- a loop over parts

pub ahead_of_none : (runs : List PlacedRun) → All IsWithin runs → EndsAfter 0 runs
ahead_of_none [] within = tt
ahead_of_none (r ∷ runs) within = let some = (All-head IsWithin r runs within).some in omega (arith, some)

some_rest : (from to until first end : ℕ) (run : Option PlacedRun) → first ≡ from → end ≡ to → to ≤ until → IfSome run (IsRest from until) → IfSome run (IsRest first end)
some_rest from to until first end None f e less rest = tt
some_rest from to until first end (Some r) f e less rest =
    let is = rest.first in
    let last = rest.last in
    record { within = rest.within; first = is ∙ sym f; last = omega (arith, last, f, e, less) }

pub has_rest : (count : ℕ) (runs : List PlacedRun) (at until : ℕ) (part : Part) (pages : PageRun) → IsPart runs at part → All (λ (r : PlacedRun). IsInSlots count r.there) runs
    → pages.first ≡ at → pages.first + pages.count ≡ until → until ≤ part.until → HasRest count pages part
has_rest count runs at until part pages is slots first end less = record {
  rest = some_rest at until part.until pages.first (pages.first + pages.count) part.run first end less is.rest;
  slots = is.slots count slots;
}

-- A run of pages put over the areas, or taken from them.
use Rattle.std.proofs.Common.{◌≡◌, ℕ, ◌+◌, ◌<◌, ◌≤◌, ◌^◌, Bool, true, false, cond, ◌&&◌, List, [], ◌∷◌, Option, Some, None, refl, ◌∙◌, arith}
use Rattle.std.specs.Prelude.{nat_lt, nat_le}
use Rattle.std.proofs.lemmas.Bool.{cond-false, cases_lt, le-leb, lt-leb, lt-ltb, le-ltb, and_from, and_left, and_right}
use Rattle.sd_areas.specs.declared.area.Area.{Area}
use Rattle.sd_areas.specs.declared.prot.Prot.{Prot}
use Rattle.sd_areas.specs.Pages.{is_within}
use Rattle.sd_areas.specs.Areas.{prot_in, AreMaximal}
use Rattle.sd_areas.specs.Runs.{IsExtended, HasParts, HasRun, HasGap}
use Rattle.sd_areas.proofs.Maximal.{follows_on, inside, below, above}

-- no area has a page past the last
pub none_outside : (before : Option Area) (xs : List Area) (page : ℕ) → AreMaximal before xs → 2 ^ 35 ≤ page → prot_in xs page ≡ None
none_outside before [] page m l = refl
none_outside before (x ∷ xs) page m l =
    let f = follows_on before x m.0 in
    cond-false _ _ _ (above x.first x.count page (omega (arith, f.within))) ∙ none_outside (Some x) xs page m.1 l

-- whether a page lies from one up to another
span : ℕ → ℕ → ℕ → Bool
span from to page = nat_le from page && nat_lt page to

in_span : (from to page : ℕ) → from ≤ page → page < to → span from to page ≡ true
unfolding span
in_span from to page l h = and_from _ _ (le-leb _ _ l) (lt-ltb _ _ h)

before_span : (from to page : ℕ) → page < from → span from to page ≡ false
unfolding span
before_span from to page l = and_left _ _ (lt-leb _ _ l)

past_span : (from to page : ℕ) → to ≤ page → span from to page ≡ false
unfolding span
past_span from to page l = and_right _ _ (le-ltb _ _ l)

-- what the three parts give a page
three_parts : (first count limit page : ℕ) (was put : Option Prot) → first + count ≤ limit → (limit ≤ page → was ≡ None) →
    cond (span (first + count) limit page) was (cond (is_within first count page) put (cond (span 0 first page) was None)) ≡ cond (is_within first count page) put was
three_parts first count limit page was put w out = grind (arith, cases_lt, before_span, below, in_span, inside, above, past_span)

two_parts : (first count limit page : ℕ) (was : Option Prot) → first + count ≤ limit → (limit ≤ page → was ≡ None) →
    cond (span (first + count) limit page) was (cond (span 0 first page) was None) ≡ cond (is_within first count page) None was
two_parts first count limit page was w out = grind (arith, cases_lt, before_span, below, in_span, inside, past_span, above)

pub run_put : (old front joined new : List Area) (area : Area) → AreMaximal None old → area.first + area.count ≤ 2 ^ 35 →
    HasParts [] front old 0 area.first → IsExtended front joined area → HasParts joined new old (area.first + area.count) (2 ^ 35) → HasRun old new area
unfolding span
run_put old front joined new area m w a b c = grind (arith, three_parts, none_outside)

pub run_cut : (old front new : List Area) (first count : ℕ) → AreMaximal None old → first + count ≤ 2 ^ 35 →
    HasParts [] front old 0 first → HasParts front new old (first + count) (2 ^ 35) → HasGap old new first count
unfolding span
run_cut old front new first count m w a c = grind (arith, two_parts, none_outside)

pub run_put_at : (old start front joined new : List Area) (area : Area) (begin : ℕ) → start ≡ [] → begin ≡ area.first → AreMaximal None old → area.first + area.count ≤ 2 ^ 35 →
    HasParts start front old 0 begin → IsExtended front joined area → HasParts joined new old (begin + area.count) (2 ^ 35) → HasRun old new area
run_put_at old start front joined new area begin s e m w a b c = grind (arith, run_put)

pub run_cut_at : (old start front new : List Area) (first count begin : ℕ) → start ≡ [] → begin ≡ first → AreMaximal None old → first + count ≤ 2 ^ 35 →
    HasParts start front old 0 begin → HasParts front new old (begin + count) (2 ^ 35) → HasGap old new first count
run_cut_at old start front new first count begin s e m w a c = grind (arith, run_cut)

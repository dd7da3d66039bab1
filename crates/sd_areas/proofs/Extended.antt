-- One more area after the others.
use Rattle.std.proofs.Common.{◌≡◌, ℕ, ◌+◌, ◌<◌, ◌≤◌, ◌^◌, true, false, cond, List, [], ◌∷◌, ◌++◌, length, Option, Some, None, refl, sym, ap, subst, ◌∙◌, arith}
use Rattle.std.specs.Prelude.{IsTrue}
use Rattle.std.proofs.lemmas.Bool.{and_parts, eqb-true}
use Rattle.sd_areas.specs.declared.area.Area.{Area}
use Rattle.sd_areas.specs.declared.prot.Prot.{Prot}
use Rattle.sd_areas.specs.Pages.{is_within}
use Rattle.sd_areas.specs.Prot.{prot_bits}
use Rattle.sd_areas.specs.Areas.{prot_in, is_area_after, AreMaximal}
use Rattle.sd_areas.specs.Runs.{last_after, area_end, end_of_all, is_area_continued, IsExtended}
use Rattle.sd_areas.proofs.Maximal.{first_area, same_prot, follows_on, follows_apart, last_after-append, AreMaximal-append, AreMaximal-front, prot_in-append}

pub extended : (old : List Area) (area : Area) → AreMaximal None old → end_of_all old ≤ area.first → IsTrue (is_area_after (last_after None old) area) → IsExtended old (old ++ area ∷ []) area
extended old area m l h = record {
  maximal = AreMaximal-append None old area m h;
  ends = ap area_end (last_after-append None old area);
  same = λ page. prot_in-append None old area page m l;
}

no_areas : (areas : List Area) → length areas ≡ 0 → areas ≡ []
no_areas [] e = refl
no_areas (area ∷ areas) e = absurd (omega arith)

-- the first area
pub extended_none : (old popped new : List Area) (area : Area) → old ≡ popped ++ [] → new ≡ popped → length popped ≡ 0 → 0 < area.count → area.first + area.count ≤ 2 ^ 35 → IsExtended old (new ++ area ∷ []) area
extended_none old popped new area is same none c w = grind (arith, no_areas, extended, first_area)

-- an area that doesn't continue the last
pub extended_apart : (xs old new : List Area) (last area : Area) → old ≡ xs ++ last ∷ [] → new ≡ xs ++ last ∷ [] → AreMaximal None old → end_of_all old ≤ area.first → 0 < area.count → area.first + area.count ≤ 2 ^ 35 → is_area_continued last area ≡ false → IsExtended old (new ++ area ∷ []) area
extended_apart xs old new last area e f m l c w apart =
    let at : last_after None old ≡ Some last = ap (last_after None) e ∙ last_after-append None xs last in
    let le : last.first + last.count ≤ area.first = subst (λ (o : Option Area). area_end o ≤ area.first) at l in
    let h : IsTrue (is_area_after (last_after None old) area) = subst (λ (o : Option Area). IsTrue (is_area_after o area)) (sym at) (follows_apart last area c w le apart) in
    subst (λ (n : List Area). IsExtended old (n ++ area ∷ []) area) (e ∙ sym f) (extended old area m l h)

-- the last area, which ends within the space
pub last_within : (xs old : List Area) (last : Area) → old ≡ xs ++ last ∷ [] → AreMaximal None old → last.first + last.count ≤ 2 ^ 35
last_within xs old last e m = (follows_on (last_after None xs) last (AreMaximal-front None xs last (subst (AreMaximal None) e m)).1).within

-- a longer area follows what its shorter one followed
grown_after : (before : Option Area) (last more : Area) → IsTrue (is_area_after before last) → more.first ≡ last.first → prot_bits more.prot ≡ prot_bits last.prot → 0 < more.count → more.first + more.count ≤ 2 ^ 35 → IsTrue (is_area_after before more)
grown_after before last more h f p c w = grind arith

-- pages of two runs that touch
two_runs : (first a b page : ℕ) (p : Option Prot) (rest : Option Prot) → cond (is_within first (a + b) page) p rest ≡ cond (is_within (first + a) b page) p (cond (is_within first a page) p rest)
two_runs first a b page p rest = grind arith

-- an area that continues the last becomes a part of it
pub extended_joined : (xs old : List Area) (last area more : Area) → old ≡ xs ++ last ∷ [] → AreMaximal None old → 0 < area.count → area.first + area.count ≤ 2 ^ 35 → is_area_continued last area ≡ true →
    more.first ≡ last.first → more.count ≡ last.count + area.count → more.prot ≡ last.prot → IsExtended old (xs ++ more ∷ []) area
extended_joined xs old last area more e m c w joined f n p =
    let parts = and_parts _ _ joined in
    let touch : last.first + last.count ≡ area.first = eqb-true _ _ parts.0 in
    let same : last.prot ≡ area.prot = same_prot _ _ (eqb-true _ _ parts.1) in
    let front = AreMaximal-front None xs last (subst (AreMaximal None) e m) in
    let fo = follows_on (last_after None xs) last front.1 in
    let after = grown_after (last_after None xs) last more front.1 f (ap prot_bits p) (omega arith) (omega arith) in
    let new = extended xs more front.0 (omega (arith, fo.behind)) after in
    record {
      maximal = new.maximal;
      ends = new.ends ∙ omega arith;
      same = λ page.
          let old_page = ap (λ l. prot_in l page) e ∙ prot_in-append None xs last page front.0 fo.behind in
          new.same page
          ∙ rw (f, n, p, ← same, ← touch, old_page) (two_runs last.first last.count area.count page (Some last.prot) (prot_in xs page));
    }

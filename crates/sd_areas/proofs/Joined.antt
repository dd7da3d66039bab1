-- Some areas in the middle of a list replaced by others.
use Rattle.std.proofs.Common.{◌≡◌, ◌≢◌, ◌⊎◌, ℕ, ◌+◌, ◌-◌, ◌<◌, ◌≤◌, ◌^◌, false, cond, List, [], ◌∷◌, ◌++◌, Option, Some, None, refl, sym, ap, subst, ◌∙◌, arith, inl, inr}
use Rattle.std.specs.Prelude.{IsTrue}
use Rattle.std.specs.Option.{option_or}
use Rattle.std.proofs.lemmas.Bool.{cases_Bool, cond-true, cond-false, cases_lt, cases_order}
use Rattle.sd_areas.specs.declared.area.Area.{Area}
use Rattle.sd_areas.specs.declared.prot.Prot.{Prot}
use Rattle.sd_areas.specs.Pages.{is_within}
use Rattle.sd_areas.specs.Prot.{prot_bits}
use Rattle.sd_areas.specs.Areas.{prot_in, is_area_after, AreMaximal}
use Rattle.sd_areas.specs.Runs.{last_after, area_end}
use Rattle.sd_areas.proofs.Maximal.{follows_on, same_prot, touching, comes_after, first_area, touches_after, above, inside_parts, end_grows, none_before, none_stands_after}
use Rattle.sd_areas.proofs.Unique.{at_head, below_head, after_differs}

-- ---- a list in two parts
pub parts_are : (before : Option Area) (xs ys : List Area) → AreMaximal before (xs ++ ys) → AreMaximal before xs × AreMaximal (last_after before xs) ys
parts_are before [] ys m = (tt, m)
parts_are before (x ∷ xs) ys m = let r = parts_are (Some x) xs ys m.1 in ((m.0, r.0), r.1)

pub joined_are : (before : Option Area) (xs ys : List Area) → AreMaximal before xs → AreMaximal (last_after before xs) ys → AreMaximal before (xs ++ ys)
joined_are before [] ys m n = n
joined_are before (x ∷ xs) ys m n = (m.0, joined_are (Some x) xs ys m.1 n)

pub prot_in-joined : (xs ys : List Area) (page : ℕ) → prot_in (xs ++ ys) page ≡ option_or (prot_in xs page) (prot_in ys page)
prot_in-joined [] ys page = refl
prot_in-joined (x ∷ xs) ys page =
    elim (cases_Bool (is_within x.first x.count page)) [
      | inl t ↦ cond-true _ _ _ t ∙ ap (λ o. option_or o (prot_in ys page)) (sym (cond-true _ (Some x.prot) (prot_in xs page) t))
      | inr f ↦ cond-false _ _ _ f ∙ prot_in-joined xs ys page ∙ ap (λ o. option_or o (prot_in ys page)) (sym (cond-false _ (Some x.prot) (prot_in xs page) f))
    ]

pub alone : (before : Option Area) (xs : List Area) → AreMaximal before xs → AreMaximal None xs
alone before [] m = tt
alone before (x ∷ xs) m = let f = follows_on before x m.0 in (first_area x f.pages f.within, m.1)

-- ---- what stands before and after
abbrev pub EndsBelow : Option Area → ℕ → Type 0
EndsBelow None page = Unit {0}
EndsBelow (Some a) page = a.first + a.count < page

abbrev pub BeginsAbove : List Area → ℕ → Type 0
BeginsAbove [] page = Unit {0}
BeginsAbove (c ∷ cs) page = page < c.first

end_below : (before : Option Area) (page : ℕ) → EndsBelow before page → area_end before ≤ page
end_below before page h = grind arith

-- the first of the new areas follows what stands before
head_fits : (before : Option Area) (middle : List Area) (y : Area) (first count : ℕ) → AreMaximal before middle → EndsBelow before first → 0 < y.count → y.first + y.count ≤ 2 ^ 35
    → (is_within first count y.first ≡ false → prot_in middle y.first ≡ Some y.prot) → IsTrue (is_area_after before y)
head_fits None middle y first count m h c w same = first_area y c w
head_fits (Some a) middle y first count m h c w same =
    elim (cases_Bool (is_within first count y.first)) [
      | inl t ↦ comes_after (Some a) y c w (omega (arith, h, inside_parts first count y.first t))
      | inr f ↦ elim (cases_order (a.first + a.count) y.first) [
        | inl e ↦ touches_after a y c w e (λ bits. after_differs a middle m
            (ap (prot_in middle) e ∙ same f ∙ ap Some (sym (same_prot a.prot y.prot bits))))
        | inr (inl l) ↦ comes_after (Some a) y c w l
        | inr (inr g) ↦ (let none = none_before (Some a) middle y.first m g in let there = same f in absurd (cc))
      ]
    ]

-- the last area's last page
last_there : (before : Option Area) (y : Area) (ys : List Area) (l : Area) → AreMaximal before (y ∷ ys) → last_after (Some y) ys ≡ Some l → (0 < l.count) × (prot_in (y ∷ ys) (l.first + l.count - 1) ≡ Some l.prot)
last_there before y [] l m e =
    let f = follows_on before y m.0 in
    let same : y ≡ l = cc in
    subst (λ (z : Area). (0 < z.count) × (prot_in (y ∷ []) (z.first + z.count - 1) ≡ Some z.prot)) same
    (f.pages, at_head y [] (y.first + y.count - 1) (omega (arith, f.pages)) (omega (arith, f.pages)))
last_there before y (z ∷ zs) l m e =
    let r = last_there (Some y) z zs l m.1 e in (
      r.0,
      elim (cases_lt (l.first + l.count - 1) (y.first + y.count)) [
        | inl less ↦ (let none = none_before (Some y) (z ∷ zs) (l.first + l.count - 1) m.1 less in let there = r.1 in absurd (cc))
        | inr past ↦ cond-false _ _ _ (above y.first y.count (l.first + l.count - 1) past) ∙ r.1
      ],
    )

-- a page that areas have is far below what stands after them, or has other permissions
back_fits : (before : Option Area) (xs : List Area) (c : Area) (page : ℕ) (prot : Prot) → AreMaximal before xs → IsTrue (is_area_after (last_after before xs) c) → prot_in xs page ≡ Some prot
    → (page + 1 < c.first) ⊎ ((page + 1 ≡ c.first) × (prot_bits prot ≢ prot_bits c.prot))
back_fits before [] c page prot m h e = absurd (cc)
back_fits before (x ∷ []) c page prot m h e =
    elim (cases_Bool (is_within x.first x.count page)) [
      | inl t ↦ (
          let i = inside_parts x.first x.count page t in
          let f = follows_on (Some x) c h in
          let there = cond-true _ (Some x.prot) None t in
          let same : x.prot ≡ prot = cc in
          elim (cases_lt (page + 1) c.first) [
            | inl l ↦ inl l
            | inr g ↦ inr (omega (arith, g, i.1, f.behind), λ bits. touching x c h (omega (arith, g, i.1, f.behind)) (ap prot_bits same ∙ bits))
          ])
      | inr o ↦ (let none = cond-false _ (Some x.prot) None o in absurd (cc))
    ]
back_fits before (x ∷ z ∷ zs) c page prot m h e =
    elim (cases_Bool (is_within x.first x.count page)) [
      | inl t ↦ (
          let i = inside_parts x.first x.count page t in
          let f = follows_on (Some x) z m.1.0 in
          let grows = end_grows (Some z) zs m.1.1 in
          let last = follows_on (last_after (Some z) zs) c h in
          inl (omega (arith, i.1, f.behind, f.pages, grows, last.behind)))
      | inr o ↦ back_fits (Some x) (z ∷ zs) c page prot m.1 h (sym (cond-false _ (Some x.prot) (prot_in (z ∷ zs) page) o) ∙ e)
    ]

-- what stands after follows the last of the new areas
tail_fits : (before : Option Area) (middle new : List Area) (c : Area) (first count : ℕ) → AreMaximal before middle → IsTrue (is_area_after (last_after before middle) c) → EndsBelow before first → first + count < c.first
    → AreMaximal before new → ((page : ℕ) → is_within first count page ≡ false → prot_in new page ≡ prot_in middle page) → IsTrue (is_area_after (last_after before new) c)
tail_fits None middle [] c first count m h b a n same = let f = follows_on (last_after None middle) c h in first_area c f.pages f.within
tail_fits (Some x) middle [] c first count m h b a n same = let f = follows_on (last_after (Some x) middle) c h in comes_after (Some x) c f.pages f.within (omega (arith, b, a))
tail_fits before middle (y ∷ ys) c first count m h b a n same =
    let f = follows_on (last_after before middle) c h in
    let last = last_is y ys in
    let l = last.0 in
    let there = last_there before y ys l n last.1 in
    let page = l.first + l.count - 1 in
    subst (λ (o : Option Area). IsTrue (is_area_after o c)) (sym last.1)
    (elim (cases_Bool (is_within first count page)) [
      | inl t ↦ comes_after (Some l) c f.pages f.within (omega (arith, there.0, a, inside_parts first count page t))
      | inr o ↦ elim (back_fits before middle c page l.prot m h (sym (same page o) ∙ there.1)) [
        | inl less ↦ comes_after (Some l) c f.pages f.within (omega (arith, there.0, less))
        | inr touch ↦ touches_after l c f.pages f.within (omega (arith, there.0, touch.0)) touch.1
      ]
    ])
  where
    last_is : (y : Area) (ys : List Area) → (l : Area) × (last_after (Some y) ys ≡ Some l)
    last_is y [] = (y, refl)
    last_is y (z ∷ zs) = last_is z zs

new_after : (before : Option Area) (middle new : List Area) (first count : ℕ) → AreMaximal before middle → EndsBelow before first → AreMaximal None new
    → ((page : ℕ) → is_within first count page ≡ false → prot_in new page ≡ prot_in middle page) → AreMaximal before new
new_after before middle [] first count m b n same = tt
new_after before middle (y ∷ ys) first count m b n same =
    let f = follows_on None y n.0 in
    let there = at_head y ys y.first (omega arith) (omega (arith, f.pages)) in
    (head_fits before middle y first count m b f.pages f.within (λ o. sym (same y.first o) ∙ there), n.1)

back_after : (before : Option Area) (middle new back : List Area) (first count : ℕ) → AreMaximal before middle → AreMaximal (last_after before middle) back → EndsBelow before first → BeginsAbove back (first + count)
    → AreMaximal before new → ((page : ℕ) → is_within first count page ≡ false → prot_in new page ≡ prot_in middle page) → AreMaximal (last_after before new) back
back_after before middle new [] first count m k b a n same = tt
back_after before middle new (c ∷ cs) first count m k b a n same = (tail_fits before middle new c first count m k.0 b a n same, k.1)

-- ---- the whole list
-- the areas that meet or touch a run of pages, between the others
pub record AreAround (front middle back : List Area) (first count : ℕ) : Type 0 where
  pub maximal : AreMaximal None (front ++ (middle ++ back))
  pub below : EndsBelow (last_after None front) first
  pub above : BeginsAbove back (first + count)

pub middle_is : (front middle back : List Area) → AreMaximal None (front ++ (middle ++ back)) → AreMaximal None middle
middle_is front middle back m = grind (arith, parts_are, alone)

pub replaced_are : (front middle new back : List Area) (first count : ℕ) → AreAround front middle back first count → AreMaximal None new
    → ((page : ℕ) → is_within first count page ≡ false → prot_in new page ≡ prot_in middle page) → AreMaximal None (front ++ (new ++ back))
replaced_are front middle new back first count around n same =
    let before = last_after None front in
    let parts = parts_are None front (middle ++ back) around.maximal in
    let rest = parts_are before middle back parts.1 in
    let fits = new_after before middle new first count rest.0 around.below n same in
    joined_are None front (new ++ back) parts.0 (joined_are before new back fits (back_after before middle new back first count rest.0 rest.1 around.below around.above fits same))

-- the others have no page of the run
none_in_front : (front middle back : List Area) (first count page : ℕ) → AreAround front middle back first count → first ≤ page → prot_in front page ≡ None
none_in_front front middle back first count page around l =
    none_stands_after None front page (parts_are None front (middle ++ back) around.maximal).0 (omega (arith, l, end_below (last_after None front) first around.below))

none_in_back : (front middle back : List Area) (first count page : ℕ) → AreAround front middle back first count → page < first + count → prot_in back page ≡ None
none_in_back front middle back first count page around l =
    let rest = parts_are (last_after None front) middle back (parts_are None front (middle ++ back) around.maximal).1 in
    at (last_after (last_after None front) middle) back rest.1 around.above
  where
    at : (before : Option Area) (back : List Area) → AreMaximal before back → BeginsAbove back (first + count) → prot_in back page ≡ None
    at before [] m a = refl
    at before (c ∷ cs) m a = below_head before c cs page m (omega (arith, l, a))

or_none : (o : Option Prot) → option_or o None ≡ o
or_none o = grind arith

three : (front middle back : List Area) (page : ℕ) → prot_in (front ++ (middle ++ back)) page ≡ option_or (prot_in front page) (option_or (prot_in middle page) (prot_in back page))
three front middle back page = prot_in-joined front (middle ++ back) page ∙ ap (option_or (prot_in front page)) (prot_in-joined middle back page)

-- a page of the run is as the areas in the middle have it
pub in_middle : (front middle back : List Area) (first count page : ℕ) → AreAround front middle back first count → first ≤ page → page < first + count → prot_in (front ++ (middle ++ back)) page ≡ prot_in middle page
in_middle front middle back first count page around l h =
    three front middle back page ∙ rw (none_in_front front middle back first count page around l, none_in_back front middle back first count page around h) (or_none (prot_in middle page))

pub replaced_same : (front middle new back : List Area) (first count : ℕ) (put : Option Prot) → AreAround front middle back first count
    → ((page : ℕ) → prot_in new page ≡ cond (is_within first count page) put (prot_in middle page))
    → (page : ℕ) → prot_in (front ++ (new ++ back)) page ≡ cond (is_within first count page) put (prot_in (front ++ (middle ++ back)) page)
replaced_same front middle new back first count put around same page = grind (arith, cases_Bool, inside_parts, three, none_in_front, none_in_back, or_none)

-- The areas that `areas_of` makes of a space's entries are the areas of that space.
use Rattle.std.proofs.Common.{◌≡◌, ℕ, ◌+◌, ◌<◌, ◌^◌, Bool, true, false, cond, ◌&&◌, ◌==◌, T, List, [], ◌∷◌, Option, Some, None, refl, sym, ap, ◌∙◌, arith, inl, inr}
use Rattle.std.specs.Prelude.{nat_lt, IsSome, is_some}
use Rattle.std.specs.declared.cmp.Ordering.TheVariants.{Less, Equal, Greater}
use Rattle.std.specs.Ordering.{nat_cmp, eq_by_cmp, is_lt}
use Rattle.std.specs.FinMap as finmap
use Rattle.std.specs.FinMap.{find, is_sorted, get-entries, entries_sorted}
use Rattle.std.proofs.lemmas.Bool.{and_parts, eqb-true, cases_Bool, cond-true}
use Rattle.sd_areas.specs.declared.area.Area.{Area}
use Rattle.sd_areas.specs.declared.prot.Prot.{Prot}
use Rattle.sd_areas.specs.Pages.{is_within}
use Rattle.sd_areas.specs.Areas.{PageMap, prot_in, AreMaximal, AreAreasOf, AreInSpace, put_page_before, areas_of_entries, areas_of}
use Rattle.sd_areas.specs.Runs.{is_area_continued}
use Rattle.sd_areas.proofs.Maximal.{same_prot, follows_on, follows_apart, first_area}
use Rattle.sd_areas.proofs.PagesOf.{tied}
pub use Rattle.sd_areas.proofs.Unique.{one_list}

FirstAbove : ℕ → List Area → Type 0
FirstAbove k [] = Unit {0}
FirstAbove k (a ∷ rest) = k < a.first

single : ℕ → Prot → Area
single page prot = record { first = page; count = 1; prot = prot }

longer : ℕ → Area → Area
longer page a = record { first = page; count = a.count + 1; prot = a.prot }

put_case : (page : ℕ) (prot : Prot) (a : Area) (rest : List Area) (b : Bool) → is_area_continued (single page prot) a ≡ b → put_page_before page prot (a ∷ rest) ≡ cond b (longer page a ∷ rest) (single page prot ∷ a ∷ rest)
unfolding single longer
put_case page prot a rest b e = ap (λ t. cond t (longer page a ∷ rest) (single page prot ∷ a ∷ rest)) e

put_first : (k page : ℕ) (prot : Prot) (areas : List Area) → k < page → FirstAbove k (put_page_before page prot areas)
unfolding FirstAbove single longer
put_first k page prot areas l = grind arith

-- only the end and the permissions of what stands before count
same_before : (a b : Area) (rest : List Area) → b.first + b.count ≡ a.first + a.count → b.prot ≡ a.prot → AreMaximal (Some a) rest → AreMaximal (Some b) rest
same_before a b [] e p m = tt
same_before a b (z ∷ rest) e p m = (rw (e, p) m.0, m.1)

joined_parts : (page : ℕ) (prot : Prot) (a : Area) → is_area_continued (single page prot) a ≡ true → (page + 1 ≡ a.first) × (prot ≡ a.prot)
unfolding single
joined_parts page prot a t = let p = and_parts _ _ t in (eqb-true _ _ p.0, same_prot _ _ (eqb-true _ _ p.1))

put_maximal : (page : ℕ) (prot : Prot) (areas : List Area) → AreMaximal None areas → FirstAbove page areas → page < 2 ^ 35 → AreMaximal None (put_page_before page prot areas)
unfolding FirstAbove single longer
put_maximal page prot areas m l w = grind (arith, first_area, follows_on, cases_Bool, joined_parts, put_case, same_before, follows_apart)

pub one_page : (page q : ℕ) → is_within page 1 q ≡ eq_by_cmp nat_cmp q page
one_page page q = grind arith

-- a run with one more page at its front
one_more : (page count q : ℕ) (p o : Option Prot) → cond (is_within page (count + 1) q) p o ≡ cond (eq_by_cmp nat_cmp q page) p (cond (is_within (page + 1) count q) p o)
one_more page count q p o = grind arith

put_prot_in : (page : ℕ) (prot : Prot) (areas : List Area) (q : ℕ) → prot_in (put_page_before page prot areas) q ≡ cond (eq_by_cmp nat_cmp q page) (Some prot) (prot_in areas q)
unfolding single longer
put_prot_in page prot [] q = ap (λ b. cond b (Some prot) None) (one_page page q)
put_prot_in page prot (a ∷ rest) q =
    elim (cases_Bool (is_area_continued (single page prot) a)) [
      | inl t ↦ (
          let parts = joined_parts page prot a t in
          ap (λ l. prot_in l q) (put_case page prot a rest true t) ∙ rw (parts.1, ← parts.0) (one_more page a.count q (Some a.prot) (prot_in rest q)))
      | inr apart ↦ ap (λ l. prot_in l q) (put_case page prot a rest false apart) ∙ ap (λ b. cond b (Some prot) (prot_in (a ∷ rest) q)) (one_page page q)
    ]

-- ---- entries whose pages rise
front : (a b : Bool) → T (a && b) → T a
front a b h = grind arith

back : (a b : Bool) → T (a && b) → T b
back a b h = grind arith

less_cases : (a b : ℕ) (x y : Bool) → nat_lt a b ≡ x → T (is_lt (cond x Less (cond y Equal Greater))) → a < b
less_cases a b x y e h = grind arith

sorted_tail : (e : ℕ × Prot) (es : List (ℕ × Prot)) → T (is_sorted nat_cmp (e ∷ es)) → T (is_sorted nat_cmp es)
sorted_tail e es h = back _ _ h

sorted_next : (e f : ℕ × Prot) (es : List (ℕ × Prot)) → T (is_sorted nat_cmp (e ∷ f ∷ es)) → e.0 < f.0
sorted_next e f es h = less_cases e.0 f.0 (nat_lt e.0 f.0) (e.0 == f.0) refl (front _ _ (front _ _ h))

entries_first : (e : ℕ × Prot) (es : List (ℕ × Prot)) → T (is_sorted nat_cmp (e ∷ es)) → FirstAbove e.0 (areas_of_entries es)
unfolding FirstAbove
entries_first e [] h = tt
entries_first e (f ∷ es) h = put_first e.0 f.0 f.1 (areas_of_entries es) (sorted_next e f es h)

AllInSpace : List (ℕ × Prot) → Type 0
AllInSpace es = (page : ℕ) → IsSome (find nat_cmp page es) → page < 2 ^ 35

head_in_space : (e : ℕ × Prot) (es : List (ℕ × Prot)) → AllInSpace (e ∷ es) → e.0 < 2 ^ 35
unfolding AllInSpace
head_in_space e es h = h e.0 (ap is_some (cond-true _ (Some e.1) (find nat_cmp e.0 es) (tied e.0 e.0 refl)))

tail_in_space : (e : ℕ × Prot) (es : List (ℕ × Prot)) → AllInSpace (e ∷ es) → AllInSpace es
unfolding AllInSpace
tail_in_space e es h page some = grind arith

entries_maximal : (es : List (ℕ × Prot)) → T (is_sorted nat_cmp es) → AllInSpace es → AreMaximal None (areas_of_entries es)
entries_maximal [] h w = tt
entries_maximal (e ∷ es) h w = put_maximal e.0 e.1 (areas_of_entries es) (entries_maximal es (sorted_tail e es h) (tail_in_space e es w)) (entries_first e es h) (head_in_space e es w)

entries_prot_in : (es : List (ℕ × Prot)) (q : ℕ) → prot_in (areas_of_entries es) q ≡ find nat_cmp q es
entries_prot_in [] q = refl
entries_prot_in (e ∷ es) q = put_prot_in e.0 e.1 (areas_of_entries es) q ∙ ap (cond (eq_by_cmp nat_cmp q e.0) (Some e.1)) (entries_prot_in es q)

-- what `areas_of` makes are the areas of the space
pub areas_of_are : (pages : PageMap) → AreInSpace pages → AreAreasOf pages (areas_of pages)
unfolding areas_of AllInSpace
areas_of_are pages w = record {
  maximal = entries_maximal (finmap.entries pages) (entries_sorted pages) (λ page some. w page (ap is_some (get-entries pages page) ∙ some));
  same = λ page. entries_prot_in (finmap.entries pages) page ∙ sym (get-entries pages page);
}

-- and no other list is
pub areas_of_is : (pages : PageMap) (areas : List Area) → AreInSpace pages → AreAreasOf pages areas → areas_of pages ≡ areas
areas_of_is pages areas w h = one_list pages (areas_of pages) areas (areas_of_are pages w) h

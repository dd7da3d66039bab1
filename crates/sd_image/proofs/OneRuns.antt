-- Maximal runs are one list: where two have each page in the same way, they are the same.
use Rattle.std.proofs.Common.{◌≡◌, ℕ, ◌+◌, ◌<◌, ◌≤◌, true, false, ltb, leb, List, [], ◌∷◌, Option, Some, None, refl, sym, ap, subst, ◌∙◌, arith, inl, inr}
use Rattle.std.proofs.lemmas.Bool.{and_parts, and_from, lt-ltb, le-leb, ltb-true, lt-leb, le-ltb, cases_Bool, cond-true, cond-false, and_left, and_right, cases_lt, cases_order}
use Rattle.sd_image.proofs.ItemLaws.{same_run}
use Rattle.sd_areas.specs.Pages.{is_within}
use Rattle.sd_image.specs.declared.run.Run.{Run}
use Rattle.sd_image.specs.declared.run.RunKind.{RunKind}
use Rattle.sd_image.specs.Table.{run_begins_after, is_run_after, AreRuns}
use Rattle.sd_image.specs.Laws.{kind_in, OneListOfRuns}
use Rattle.sd_image.proofs.Items.{run_range}

-- ---- pages within a range

inside : (first count page : ℕ) → first ≤ page → page < first + count → is_within first count page ≡ true
inside first count page low high = and_from (leb first page) (ltb page (first + count)) (le-leb _ _ low) (lt-ltb _ _ high)

below : (first count page : ℕ) → page < first → is_within first count page ≡ false
below first count page low = and_left (leb first page) (ltb page (first + count)) (lt-leb _ _ low)

above : (first count page : ℕ) → first + count ≤ page → is_within first count page ≡ false
above first count page high = and_right (leb first page) (ltb page (first + count)) (le-ltb _ _ high)

within_end : (first count page : ℕ) → is_within first count page ≡ true → page < first + count
within_end first count page e = ltb-true _ _ (and_parts (leb first page) (ltb page (first + count)) e).1

-- ---- a run after another

end_of : Option Run → ℕ
end_of None = 0
end_of (Some run) = run.first + run.count

after_of : (parent : ℕ) (before : Option Run) (run : Run) → is_run_after parent before run ≡ true → run_begins_after before run ≡ true
after_of parent before run e = grind arith

begins_from : (parent : ℕ) (before : Option Run) (run : Run) → is_run_after parent before run ≡ true → end_of before ≤ run.first
unfolding end_of
begins_from parent before run e = grind arith

-- two runs that touch are of other kinds
touching : (parent : ℕ) (b run : Run) → is_run_after parent (Some b) run ≡ true → b.first + b.count ≡ run.first → b.kind ≡ run.kind → ⊥
touching parent b run e touch same = grind arith

-- no run that begins later has an earlier page
none_before : (parent : ℕ) (before : Option Run) (runs : List Run) (page : ℕ) → AreRuns parent before runs → page < end_of before → kind_in runs page ≡ None
unfolding end_of
none_before parent before [] page m low = refl
none_before parent before (run ∷ runs) page m low =
    let from = begins_from parent before run m.0 in
    let early : page < run.first = omega (arith, from) in
    cond-false _ _ _ (below run.first run.count page early) ∙ none_before parent (Some run) runs page m.1 (omega arith)

at_head : (x : Run) (xs : List Run) (page : ℕ) → x.first ≤ page → page < x.first + x.count → kind_in (x ∷ xs) page ≡ Some x.kind
at_head x xs page low high = cond-true _ _ _ (inside x.first x.count page low high)

below_head : (parent : ℕ) (before : Option Run) (x : Run) (xs : List Run) (page : ℕ) → AreRuns parent before (x ∷ xs) → page < x.first → kind_in (x ∷ xs) page ≡ None
unfolding end_of
below_head parent before x xs page m low = cond-false _ _ _ (below x.first x.count page low) ∙ none_before parent (Some x) xs page m.1 (omega arith)

some_kind : (a b : RunKind) → Some a ≡ Some b → a ≡ b
some_kind a b e = cc

none_some : (a : RunKind) → None ≡ Some a → ⊥
none_some a e = cc

-- the page after a run is in none, or in one of another kind
after_differs : (parent : ℕ) (x : Run) (xs : List Run) → AreRuns parent (Some x) xs → kind_in xs (x.first + x.count) ≡ Some x.kind → ⊥
unfolding end_of
after_differs parent x [] m e = none_some x.kind e
after_differs parent x (z ∷ zs) m e =
    let from = begins_from parent (Some x) z m.0 in
    let range = run_range parent (Some x) z m.0 in
    elim (cases_lt (x.first + x.count) z.first) [
      | inl l ↦ none_some x.kind (sym (below_head parent (Some x) z zs (x.first + x.count) m l) ∙ e)
      | inr g ↦
          let touch : x.first + x.count ≡ z.first = omega (arith, from) in
          let there = at_head z zs (x.first + x.count) (omega arith) (omega (arith, range.some)) in
          touching parent x z m.0 touch (some_kind _ _ (sym e ∙ there))
    ]

-- ---- two lists

Alike : List Run → List Run → Type 0
Alike one other = (page : ℕ) → kind_in one page ≡ kind_in other page

module _ (parent : ℕ) where
  first_not_below : (before : Option Run) (x y : Run) (xs ys : List Run) → AreRuns parent before (x ∷ xs) → AreRuns parent before (y ∷ ys) → Alike (x ∷ xs) (y ∷ ys) → x.first < y.first → ⊥
  unfolding Alike
  first_not_below before x y xs ys m n alike low =
      let range = run_range parent before x m.0 in
      let there = at_head x xs x.first (omega arith) (omega (arith, range.some)) in
      none_some x.kind (sym (below_head parent before y ys x.first n low) ∙ sym (alike x.first) ∙ there)

  count_not_below : (before : Option Run) (x y : Run) (xs ys : List Run) → AreRuns parent before (x ∷ xs) → AreRuns parent before (y ∷ ys) → Alike (x ∷ xs) (y ∷ ys)
      → x.first ≡ y.first → x.kind ≡ y.kind → x.count < y.count → ⊥
  unfolding Alike
  count_not_below before x y xs ys m n alike first kind low = grind (arith, cond-false, above, at_head, after_differs)

  equal_unless : (a b : ℕ) → (a < b → ⊥) → (b < a → ⊥) → a ≡ b
  equal_unless a b f g = elim (cases_order a b) [ inl e ↦ e | inr (inl l) ↦ absurd (f l) | inr (inr l) ↦ absurd (g l) ]

  same_heads : (before : Option Run) (x y : Run) (xs ys : List Run) → AreRuns parent before (x ∷ xs) → AreRuns parent before (y ∷ ys) → Alike (x ∷ xs) (y ∷ ys) → x ≡ y
  unfolding Alike
  same_heads before x y xs ys m n alike =
      let back : Alike (y ∷ ys) (x ∷ xs) = λ page. sym (alike page) in
      let f = run_range parent before x m.0 in
      let g = run_range parent before y n.0 in
      let first : x.first ≡ y.first = equal_unless _ _ (first_not_below before x y xs ys m n alike) (first_not_below before y x ys xs n m back) in
      let kind : x.kind ≡ y.kind = some_kind _ _ (sym (at_head x xs x.first (omega arith) (omega (arith, f.some))) ∙ alike x.first ∙ at_head y ys x.first (omega arith) (omega (arith, g.some))) in
      same_run x y first
      (equal_unless _ _ (count_not_below before x y xs ys m n alike first kind) (count_not_below before y x ys xs n m back (sym first) (sym kind))) kind

  same_tails : (x : Run) (xs ys : List Run) → AreRuns parent (Some x) xs → AreRuns parent (Some x) ys → Alike (x ∷ xs) (x ∷ ys) → Alike xs ys
  unfolding Alike end_of
  same_tails x xs ys m n alike page =
      elim (cases_Bool (is_within x.first x.count page)) [
        | inl t ↦
            let low : page < x.first + x.count = within_end x.first x.count page t in
            none_before parent (Some x) xs page m low ∙ sym (none_before parent (Some x) ys page n low)
        | inr f ↦ sym (cond-false _ _ _ f) ∙ alike page ∙ cond-false _ _ _ f
      ]

same_runs : (parent : ℕ) (before : Option Run) (xs ys : List Run) → AreRuns parent before xs → AreRuns parent before ys → Alike xs ys → xs ≡ ys
unfolding Alike
same_runs parent before [] [] m n alike = refl
same_runs parent before [] (y ∷ ys) m n alike =
    let range = run_range parent before y n.0 in
    absurd (none_some y.kind (alike y.first ∙ at_head y ys y.first (omega arith) (omega (arith, range.some))))
same_runs parent before (x ∷ xs) [] m n alike =
    let range = run_range parent before x m.0 in
    absurd (none_some x.kind (sym (alike x.first) ∙ at_head x xs x.first (omega arith) (omega (arith, range.some))))
same_runs parent before (x ∷ xs) (y ∷ ys) m n alike =
    let e : x ≡ y = same_heads parent before x y xs ys m n alike in
    let at : AreRuns parent (Some x) ys = subst (λ (r : Run). AreRuns parent (Some r) ys) (sym e) n.1 in
    let same : Alike (x ∷ xs) (x ∷ ys) = λ page. subst (λ (r : Run). kind_in (x ∷ xs) page ≡ kind_in (r ∷ ys) page) (sym e) (alike page) in
    ap (λ r. r ∷ xs) e ∙ ap (λ rs. y ∷ rs) (same_runs parent (Some x) xs ys m.1 at (same_tails parent x xs ys m.1 at same))

pub one_list_of_runs_lem : OneListOfRuns
unfolding Alike
one_list_of_runs_lem parent one other a b alike = same_runs parent None one other a b alike

-- Lists to which runs are put, one after the other.
use Rattle.std.proofs.Common.{◌≡◌, ◌⊎◌, ◌+◌, ◌<◌, ◌≤◌, ℕ, List, [], ◌∷◌, ◌++◌, Contains, Option, sym, ◌∙◌, subst, inl, inr, arith}
use Rattle.std.specs.Prelude.{◌↔◌}
use Rattle.std.proofs.lemmas.List.Elements.{Contains-append_left, Contains-push, Contains-push_cases}
use Rattle.sd_areas.specs.declared.prot.Prot.{Prot}
use Rattle.sd_diff.specs.declared.difference.PageRun.{PageRun}
use Rattle.sd_diff.specs.declared.difference.AreaChange.{AreaChange}
use Rattle.sd_diff.specs.Difference.{HasChange, HasPage, IsChangedIn, IsIn}

pub below_or : (a b : ℕ) → (a < b) ⊎ (b ≤ a)
below_or a b = grind arith

-- ---- any items

module _ {X : Type 0} (Has : X → Type 0) where
  abbrev Lists : List X → Type 0
  Lists xs = (x : X) × Contains xs x × Has x

  pub pushed : (xs : List X) (r : X) → Lists (xs ++ r ∷ []) ↔ (Lists xs ⊎ Has r)
  pushed xs r = (
    λ h. elim (Contains-push_cases xs r h.0 h.1) [
      | inl c ↦ inl (h.0, c, h.2)
      | inr e ↦ inr (subst Has (sym e) h.2)
    ],
    λ h. elim h [
      | inl g ↦ (g.0, Contains-append_left xs (r ∷ []) g.0 g.1, g.2)
      | inr i ↦ (r, Contains-push xs r, i)
    ],
  )

  -- the last was replaced by one that has also another
  pub joined : (ys : List X) (last long next : X) → (Has long ↔ (Has last ⊎ Has next)) → Lists (ys ++ long ∷ []) ↔ (Lists (ys ++ last ∷ []) ⊎ Has next)
  joined ys last long next longer = (
    λ h. elim ((pushed ys long).0 h) [
      | inl g ↦ inl ((pushed ys last).1 (inl g))
      | inr i ↦ elim (longer.0 i) [
        | inl j ↦ inl ((pushed ys last).1 (inr j))
        | inr j ↦ inr j
      ]
    ],
    λ h. elim h [
      | inl g ↦ elim ((pushed ys last).0 g) [
        | inl l ↦ (pushed ys long).1 (inl l)
        | inr i ↦ (pushed ys long).1 (inr (longer.1 (inl i)))
      ]
      | inr i ↦ (pushed ys long).1 (inr (longer.1 (inr i)))
    ],
  )

-- ---- pages

-- a run goes on where another ends, and they are one
pub record AreOne (last next long : PageRun) : Type 0 where
  pub space : last.space ≡ next.space
  pub behind : last.first + last.count ≡ next.first
  pub long_space : long.space ≡ last.space
  pub long_first : long.first ≡ last.first
  pub long_count : long.count ≡ last.count + next.count

pub longer_has : (last next long : PageRun) (space page : ℕ) → AreOne last next long → IsIn long space page ↔ (IsIn last space page ⊎ IsIn next space page)
longer_has last next long space page one =
    let behind = one.behind in
    let first = one.long_first in
    let count = one.long_count in (
      λ i. let low = i.first in let high = i.last in elim (below_or page (last.first + last.count)) [
        | inl less ↦ inl (record { space_is = sym one.long_space ∙ i.space_is; first = omega (arith, low, first); last = less })
        | inr more ↦ inr (record { space_is = sym one.space ∙ sym one.long_space ∙ i.space_is; first = omega (arith, more, behind); last = omega (arith, high, first, count, behind) })
      ],
      λ either. elim either [
        | inl i ↦ (let low = i.first in let high = i.last in record { space_is = one.long_space ∙ i.space_is; first = omega (arith, low, first); last = omega (arith, high, first, count) })
        | inr i ↦ (let low = i.first in let high = i.last in record { space_is = one.long_space ∙ one.space ∙ i.space_is; first = omega (arith, low, first, behind); last = omega (arith, high, first, count, behind) })
      ],
    )

pub page_pushed : (xs new : List PageRun) (r : PageRun) → new ≡ xs ++ r ∷ [] → (space page : ℕ) → HasPage new space page ↔ (HasPage xs space page ⊎ IsIn r space page)
page_pushed xs new r is space page = subst (λ ys. HasPage ys space page ↔ (HasPage xs space page ⊎ IsIn r space page)) (sym is) (pushed (λ (run : PageRun). IsIn run space page) xs r)

pub page_joined : (ys old new : List PageRun) (last next long : PageRun) → old ≡ ys ++ last ∷ [] → new ≡ ys ++ long ∷ [] → AreOne last next long
    → (space page : ℕ) → HasPage new space page ↔ (HasPage old space page ⊎ IsIn next space page)
page_joined ys old new last next long was is one space page =
    subst (λ os. HasPage new space page ↔ (HasPage os space page ⊎ IsIn next space page)) (sym was)
    (subst (λ ns. HasPage ns space page ↔ (HasPage (ys ++ last ∷ []) space page ⊎ IsIn next space page)) (sym is)
    (joined (λ (run : PageRun). IsIn run space page) ys last long next (longer_has last next long space page one)))

-- ---- changes

pub record AreOneChange (last next long : AreaChange) : Type 0 where
  pub pages : AreOne last.pages next.pages long.pages
  pub old : last.old ≡ next.old
  pub new : last.new ≡ next.new
  pub long_old : long.old ≡ last.old
  pub long_new : long.new ≡ last.new

longer_changed : (last next long : AreaChange) (space page : ℕ) (was is : Option Prot) → AreOneChange last next long
    → IsChangedIn long space page was is ↔ (IsChangedIn last space page was is ⊎ IsChangedIn next space page was is)
longer_changed last next long space page was is one =
    let pages = longer_has last.pages next.pages long.pages space page one.pages in (
      λ i. elim (pages.0 i.page_is) [
        | inl j ↦ inl (record { page_is = j; old_is = sym one.long_old ∙ i.old_is; new_is = sym one.long_new ∙ i.new_is })
        | inr j ↦ inr (record { page_is = j; old_is = sym one.old ∙ sym one.long_old ∙ i.old_is; new_is = sym one.new ∙ sym one.long_new ∙ i.new_is })
      ],
      λ either. elim either [
        | inl i ↦ record { page_is = pages.1 (inl i.page_is); old_is = one.long_old ∙ i.old_is; new_is = one.long_new ∙ i.new_is }
        | inr i ↦ record { page_is = pages.1 (inr i.page_is); old_is = one.long_old ∙ one.old ∙ i.old_is; new_is = one.long_new ∙ one.new ∙ i.new_is }
      ],
    )

pub change_pushed : (xs new : List AreaChange) (r : AreaChange) → new ≡ xs ++ r ∷ [] → (space page : ℕ) (was is : Option Prot)
    → HasChange new space page was is ↔ (HasChange xs space page was is ⊎ IsChangedIn r space page was is)
change_pushed xs new r made space page was is =
    subst (λ ys. HasChange ys space page was is ↔ (HasChange xs space page was is ⊎ IsChangedIn r space page was is)) (sym made) (pushed (λ (c : AreaChange). IsChangedIn c space page was is) xs r)

pub change_joined : (ys old new : List AreaChange) (last next long : AreaChange) → old ≡ ys ++ last ∷ [] → new ≡ ys ++ long ∷ [] → AreOneChange last next long
    → (space page : ℕ) (was is : Option Prot) → HasChange new space page was is ↔ (HasChange old space page was is ⊎ IsChangedIn next space page was is)
change_joined ys old new last next long had made one space page was is =
    subst (λ os. HasChange new space page was is ↔ (HasChange os space page was is ⊎ IsChangedIn next space page was is)) (sym had)
    (subst (λ ns. HasChange ns space page was is ↔ (HasChange (ys ++ last ∷ []) space page was is ⊎ IsChangedIn next space page was is)) (sym made)
    (joined (λ (c : AreaChange). IsChangedIn c space page was is) ys last long next (longer_changed last next long space page was is one)))

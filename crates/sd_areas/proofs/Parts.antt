-- The parts of a list of areas after others, one area at a time.
use Rattle.std.proofs.Common.{◌≡◌, ℕ, ◌+◌, ◌<◌, ◌≤◌, max, Bool, cond, ◌&&◌, List, [], ◌∷◌, ◌++◌, length, take, drop, get_or, Option, Some, None, sym, ap, subst, ◌∙◌, arith}
use Rattle.std.proofs.lemmas.Bool.{and_parts, cases_Bool, cond-true, cond-false, leb-true}
use Rattle.std.proofs.lemmas.List.{take_more, take-append-drop}
use Rattle.sd_areas.specs.declared.area.Area.{Area}
use Rattle.sd_areas.specs.declared.prot.Prot.{Prot}
use Rattle.sd_areas.specs.Areas.{AreMaximal}
use Rattle.sd_areas.specs.Runs.{last_after, end_of_all, HasPart, HasParts}
use Rattle.sd_areas.proofs.Maximal.{FollowsOn, follows_on, last_after-append, AreMaximal-front, prot_in-append, none_stands_after}

pub AreMaximal-prefix : (before : Option Area) (xs ys : List Area) → AreMaximal before (xs ++ ys) → AreMaximal before xs
AreMaximal-prefix before [] ys m = tt
AreMaximal-prefix before (x ∷ xs) ys m = (m.0, AreMaximal-prefix (Some x) xs ys m.1)

pub AreMaximal-take : (n : ℕ) (xs : List Area) → AreMaximal None xs → AreMaximal None (take n xs)
AreMaximal-take n xs m = AreMaximal-prefix None (take n xs) (drop n xs) (subst (AreMaximal None) (sym (take-append-drop n xs)) m)

-- the areas so far, and the next
pub take_next : (i : ℕ) (xs : List Area) (x : Area) → i < length xs → x ≡ get_or xs i x → take (i + 1) xs ≡ take i xs ++ x ∷ []
take_next i xs x l e = take_more xs i x l ∙ ap (λ y. take i xs ++ y ∷ []) (sym e)

-- the next area follows those so far
pub next_follows : (i : ℕ) (xs : List Area) (x : Area) → AreMaximal None xs → i < length xs → x ≡ get_or xs i x → FollowsOn (last_after None (take i xs)) x
next_follows i xs x m l e =
    follows_on (last_after None (take i xs)) x (AreMaximal-front None (take i xs) x (subst (AreMaximal None) (take_next i xs x l e) (AreMaximal-take (i + 1) xs m))).1

pub parts_none : (old : List Area) (from to : ℕ) → AreMaximal None old → end_of_all old ≤ from → HasParts old old [] from to
parts_none old from to m l = grind (arith, cases_Bool, none_stands_after, leb-true, and_parts, cond-true, cond-false)

both : (r w : Bool) (s f o : Option Prot) → cond (r && w) s (cond r f o) ≡ cond r (cond w s f) o
both r w s f o = grind arith

pub parts_next : (old done new front : List Area) (x : Area) (from to : ℕ) → AreMaximal None front → FollowsOn (last_after None front) x → HasParts old done front from to → HasPart done new x from to → HasParts old new (front ++ x ∷ []) from to
parts_next old done new front x from to m f so_far part = grind (arith, last_after-append, prot_in-append, both)

pub parts_step : (old done new xs : List Area) (i : ℕ) (x : Area) (from to : ℕ) → AreMaximal None xs → i < length xs → x ≡ get_or xs i x → HasParts old done (take i xs) from to → HasPart done new x from to → HasParts old new (take (i + 1) xs) from to
parts_step old done new xs i x from to m l e so_far part =
    subst (λ (front : List Area). HasParts old new front from to) (sym (take_next i xs x l e))
    (parts_next old done new (take i xs) x from to (AreMaximal-take i xs m) (next_follows i xs x m l e) so_far part)

-- where the parts so far end, the next may begin
pub parts_after : (old done xs : List Area) (i : ℕ) (x : Area) (from to : ℕ) → AreMaximal None xs → i < length xs → x ≡ get_or xs i x → HasParts old done (take i xs) from to → end_of_all done ≤ max x.first from
parts_after old done xs i x from to m l e so_far = grind (arith, next_follows)

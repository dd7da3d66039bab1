-- A list after a part of it was replaced.
use Rattle.std.proofs.Common.{◌≡◌, ℕ, ◌+◌, ◌-◌, ◌≤◌, List, ◌++◌, length, take, drop, sym, ◌∙◌, arith}
use Rattle.std.specs.List.{splice}
use Rattle.std.specs.Iterator.{Drains}
use Rattle.std.specs.Vec.Iter.{into_iter_items, into_iter_len, into_iter_steps}
use Rattle.std.specs.declared.vec.IntoIter.{IntoIter}
use Rattle.std.proofs.lemmas.List.{length-append, length-take-le, length-drop, map-id}
use Rattle.std.proofs.lemmas.Iterator.{items_from_drains}
use Rattle.std.proofs.lemmas.Iterator.Adapters.{YieldsList-from_vec}

pub length_spliced : {X : Type 0} (xs ys : List X) (from to : ℕ) → from ≤ to → to ≤ length xs → length (splice xs from to ys) + (to - from) ≡ length xs + length ys
length_spliced xs ys from to l h =
    omega (arith, length-append (take from xs) (ys ++ drop to xs), length-append ys (drop to xs), length-take-le from xs (omega (arith, l, h)), length-drop to xs, l, h)

-- what a vector's iterator gave is what the vector had
pub all_given : {X Z : Type 0} (s : IntoIter X Z) (xs ys : List X) → into_iter_items s ≡ ys → into_iter_len s ≡ length ys → Drains (into_iter_steps {X = X} {Z = Z}) s xs → xs ≡ ys
all_given s xs ys items len drains =
    sym (map-id xs) ∙ items_from_drains xs (drains.1.0, drains.1.1, λ _. (drains.0, drains.1.2)) (YieldsList-from_vec ys items len)

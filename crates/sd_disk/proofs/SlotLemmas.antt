-- What a write leaves in a slot's room.
use Rattle.std.proofs.Common.{◌≡◌, ℕ, ◌+◌, ◌-◌, ◌≤◌, max, List, ◌++◌, length, take, drop, ap, ◌∙◌, arith}
use Rattle.std.proofs.lemmas.Grind.{common_steps}
use Rattle.std.proofs.lemmas.Slice.{between_is}
use Rattle.std.proofs.Math.Seq.{take-append-add}
use borrow.Rule.Slice.PartMut.{put_mid}

past : (xs ys : List ℕ) (len : ℕ) → length xs ≤ len → take len (xs ++ ys) ≡ xs ++ take (len - length xs) ys
past xs ys len long =
    let split : len ≡ length xs + (len - length xs) = omega (arith, long) in
    ap (λ k. take k (xs ++ ys)) split ∙ take-append-add xs ys (len - length xs)

abbrev front : List ℕ → ℕ → List ℕ → List ℕ
front room at bytes = take at room ++ bytes

in_two : (room bytes : List ℕ) (at : ℕ) → at + length bytes ≤ length room
    → put_mid at (length bytes) room bytes ≡ front room at bytes ++ drop (at + length bytes) room
in_two room bytes at fits = grind (arith, common_steps)

pub overwritten : (room bytes : List ℕ) (len at : ℕ) → at ≤ len → len ≤ length room → at + length bytes ≤ length room
    → take (max len (at + length bytes)) (put_mid at (length bytes) room bytes) ≡ take at (take len room) ++ bytes ++ drop (at + length bytes) (take len room)
overwritten room bytes len at inside within fits = grind (arith, common_steps, between_is, in_two, past)

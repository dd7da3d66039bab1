-- Texts that are printed in parts.
use Rattle.std.proofs.Common.{◌≡◌, ℕ, List, [], ◌∷◌, ◌++◌, Result, Ok, Err, OnOk, refl}
use Rattle.hex.specs.Hex.{encode_lower, encode_with, lower_digits}

encode_with-append : (table xs ys : List ℕ) → encode_with table (xs ++ ys) ≡ encode_with table xs ++ encode_with table ys
unfolding encode_with
encode_with-append table [] ys = refl
encode_with-append table (x ∷ xs) ys = rw (encode_with-append table xs ys) refl

pub encode_lower-append : (xs ys : List ℕ) → encode_lower (xs ++ ys) ≡ encode_lower xs ++ encode_lower ys
encode_lower-append xs ys = encode_with-append lower_digits xs ys

pub encode_lower-nil : encode_lower [] ≡ []
unfolding encode_with
encode_lower-nil = refl

pub then_on_ok : {T E : Type 0} (result : Result T E) (before after : Type 0) → (before → after) → OnOk result before → OnOk result after
then_on_ok (Ok value) before after turns holds = turns holds
then_on_ok (Err why) before after turns holds = tt

-- Reading items one after the other, as a loop does.
use Rattle.std.proofs.Common.{◌≡◌, ℕ, suc, ◌-◌, ◌+◌, ◌≤◌, ◌<◌, List, [], ◌∷◌, ◌++◌, length, Option, Some, Result, Ok, Err, refl, sym, ap, ◌∙◌, append_assoc, arith}
use Rattle.std.specs.List.{slice_get}
use Rattle.std.proofs.lemmas.List.{append-nil}
use Rattle.sd_image.specs.declared.reason.Reason.{Reason}
use Rattle.sd_image.specs.declared.table_error.TableError.{TableError}
use Rattle.sd_image.specs.declared.table_error.TableError.TheVariants as errors
use Rattle.sd_image.specs.Reading.{◌>>=◌, FailsToRead, many}

-- what was read before, and what is still read
abbrev pub with_front : {X : Type 0} → List X → Result (List X × List ℕ) Reason → Result (List X × List ℕ) Reason
with_front front read = read >>= λ x. Ok (front ++ x.0, x.1)

regroup : {X : Type 0} (front : List X) (n : X) (read : Result (List X × List ℕ) Reason) → with_front front (read >>= λ x. Ok (n ∷ x.0, x.1)) ≡ with_front (front ++ n ∷ []) read
regroup {X} front n (Ok x) = ap (λ (ns : List X). Ok (ns, x.1)) (simp append_assoc)
regroup front n (Err f) = refl

pub goes_on : {X S : Type 0} (read : S → List ℕ → Result (X × List ℕ) Reason) (after : X → S) (front : List X) (count i : ℕ) (state : S) (bytes : List ℕ) (x : X) (rest : List ℕ) (total : Result (List X × List ℕ) Reason)
    → i < count → read state bytes ≡ Ok (x, rest)
    → with_front front (many read after (count - i) state bytes) ≡ total → with_front (front ++ x ∷ []) (many read after (count - (i + 1)) (after x) rest) ≡ total
unfolding many
goes_on read after front count i state bytes x rest total lt h so_far =
    let k : count - i ≡ suc (count - (i + 1)) = omega arith in
    let one : with_front front (many read after (count - i) state bytes) ≡ with_front (front ++ x ∷ []) (many read after (count - (i + 1)) (after x) rest) = rw (k, h) (regroup front x (many read after (count - (i + 1)) (after x) rest)) in
    sym one ∙ so_far

pub ends : {X S : Type 0} (read : S → List ℕ → Result (X × List ℕ) Reason) (after : X → S) (front : List X) (count i : ℕ) (state : S) (bytes : List ℕ) (e : Reason) (total : Result (List X × List ℕ) Reason)
    → i < count → read state bytes ≡ Err e → with_front front (many read after (count - i) state bytes) ≡ total → total ≡ Err e
unfolding many
ends read after front count i state bytes e total lt h so_far = grind arith

pub is_done : {X S : Type 0} (read : S → List ℕ → Result (X × List ℕ) Reason) (after : X → S) (front : List X) (count i : ℕ) (state : S) (bytes : List ℕ) (total : Result (List X × List ℕ) Reason)
    → count ≤ i → with_front front (many read after (count - i) state bytes) ≡ total → total ≡ Ok (front, bytes)
unfolding many
is_done {X} read after front count i state bytes total le so_far =
    let k : count - i ≡ 0 = omega arith in
    let one : with_front front (many read after (count - i) state bytes) ≡ Ok (front, bytes) = rw k (ap (λ (ns : List X). Ok (ns, bytes)) (append-nil front)) in
    sym so_far ∙ one

-- the last element
abbrev pub last_of : {X : Type 0} → List X → Option X
last_of xs = slice_get xs (length xs - 1)

pub last_push : {X : Type 0} (xs : List X) (x : X) → last_of (xs ++ x ∷ []) ≡ Some x
last_push (y ∷ z ∷ xs) x =
    let n : length (y ∷ z ∷ (xs ++ x ∷ [])) - 1 ≡ suc (length (z ∷ (xs ++ x ∷ [])) - 1) = omega arith in
    rw n (last_push (z ∷ xs) x)
last_push _ x = refl

-- one more item, where the caller sees what was read by a view, and memory may run out
pub ends_fails : {X S : Type 0} (read : S → List ℕ → Result (X × List ℕ) Reason) (after : X → S) (front : List X) (count i : ℕ) (state : S) (bytes : List ℕ) (e : TableError) (total : Result (List X × List ℕ) Reason)
    → i < count → FailsToRead e (read state bytes) → with_front front (many read after (count - i) state bytes) ≡ total → FailsToRead e total
ends_fails read after front count i state bytes errors.OutOfMemory total lt h so_far = tt
ends_fails read after front count i state bytes (errors.Damaged e) total lt h so_far = ends read after front count i state bytes e total lt h so_far

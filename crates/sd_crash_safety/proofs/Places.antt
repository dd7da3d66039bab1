-- Lists of which one place changes.
use Rattle.std.proofs.Common.{◌≡◌, ◌≢◌, ℕ, zero, suc, ◌<◌, List, [], ◌∷◌, length, Option, Some, None, slice_get, slice_set, refl, sym, ◌∙◌, ap, arith}
use Rattle.std.proofs.lemmas.Option.{slice_get_within}
use Rattle.sd_disk.specs.Contents.{file_at}
use Rattle.sd_gate.specs.Requests.{Asked}
use Rattle.sd_crash_safety.specs.Calls.{NoneOut}
use Rattle.sd_crash_safety.specs.LiveImages.{id_of, ids_of}
use Rattle.sd_crash_safety.specs.OpenerSteps.{nobody}
use Rattle.std.specs.Option.{option_map}
use Rattle.sd_rounds.proofs.WriteLemmas.{none_at as none_in}

-- lists of one length have values at the same places
pub has_too : {X Y : Type 0} (xs : List X) (ys : List Y) (at : ℕ) (x : X) → length ys ≡ length xs → slice_get xs at ≡ Some x
    → (y : Y) × (slice_get ys at ≡ Some y)
has_too xs [] at x count is = absurd (let within : at < length xs = slice_get_within xs at x is in omega (arith, within, count))
has_too [] (y ∷ ys) at x count is = absurd cc
has_too (z ∷ xs) (y ∷ ys) zero x count is = (y, refl)
has_too (z ∷ xs) (y ∷ ys) (suc at) x count is = has_too xs ys at x (omega (arith, count)) is

-- what is there may be put there again
pub set_again : {X : Type 0} (xs : List X) (at : ℕ) (x : X) → slice_get xs at ≡ Some x → slice_set xs at x ≡ xs
set_again [] at x is = refl
set_again (y ∷ xs) zero x is = ap (λ z. z ∷ xs) (sym (some_is is))
  where
    some_is : Some y ≡ Some x → y ≡ x
    some_is e = cc
set_again (y ∷ xs) (suc at) x is = ap (λ zs. y ∷ zs) (set_again xs at x is)

pub body_again : (bodies : List (List ℕ)) (at : ℕ) → slice_set bodies at (file_at bodies at) ≡ bodies
body_again (body ∷ bodies) (suc at) = ap (λ all. body ∷ all) (body_again bodies at)
body_again _ _ = refl

pub body_other : (bodies : List (List ℕ)) (at k : ℕ) (body : List ℕ) → k ≢ at → file_at (slice_set bodies at body) k ≡ file_at bodies k
body_other (b ∷ bodies) zero zero body other = absurd (other refl)
body_other (b ∷ bodies) (suc at) (suc k) body other = body_other bodies at k body (λ same. other (ap suc same))
body_other _ _ _ body other = refl

pub set_count : {X : Type 0} (xs : List X) (at : ℕ) (x : X) → length (slice_set xs at x) ≡ length xs
set_count (y ∷ xs) (suc at) x = ap suc (set_count xs at x)
set_count _ _ x = refl

pub set_same : {X : Type 0} (xs : List X) (at : ℕ) (was x : X) → slice_get xs at ≡ Some was → slice_get (slice_set xs at x) at ≡ Some x
set_same [] at was x e = absurd cc
set_same (y ∷ xs) zero was x e = refl
set_same (y ∷ xs) (suc at) was x e = set_same xs at was x e

-- ---- the ids of requests that are out

-- a request that takes the place of one with its id
pub ids_same : (asked : List (Option Asked)) (at : ℕ) (r was : Asked) → slice_get asked at ≡ Some (Some was) → r.id ≡ was.id
    → ids_of (slice_set asked at (Some r)) ≡ ids_of asked
ids_same [] at r was is same = refl
ids_same (a ∷ asked) zero r was is same = ap (λ o. o ∷ ids_of asked) (ap Some same ∙ ap (option_map id_of) (sym (first is)))
  where
    first : Some a ≡ Some (Some was) → a ≡ Some was
    first e = cc
ids_same (a ∷ asked) (suc at) r was is same = ap (λ all. option_map id_of a ∷ all) (ids_same asked at r was is same)

pub ids_set : (asked : List (Option Asked)) (at : ℕ) (o : Option Asked) → ids_of (slice_set asked at o) ≡ slice_set (ids_of asked) at (option_map id_of o)
ids_set (a ∷ asked) (suc at) o = ap (λ all. option_map id_of a ∷ all) (ids_set asked at o)
ids_set _ _ o = refl

-- where an id is, its request is out
pub id_there : (asked : List (Option Asked)) (at : ℕ) (request : Asked) → slice_get asked at ≡ Some (Some request) → slice_get (ids_of asked) at ≡ Some (Some request.id)
id_there [] at request is = absurd cc
id_there (a ∷ asked) zero request is = ap Some (ap (option_map id_of) (first is))
  where
    first : Some a ≡ Some (Some request) → a ≡ Some request
    first e = cc
id_there (a ∷ asked) (suc at) request is = id_there asked at request is

-- where none is, none is out
pub free_there : (asked : List (Option Asked)) (at : ℕ) → slice_get (ids_of asked) at ≡ Some None → slice_get asked at ≡ Some None
free_there [] at is = absurd cc
free_there (None ∷ asked) zero is = refl
free_there (Some r ∷ asked) zero is = absurd (let no : Some (Some r.id) ≡ Some None = is in cc)
free_there (a ∷ asked) (suc at) is = free_there asked at is

pub nobody_out : (asked : List (Option Asked)) → ids_of asked ≡ nobody → NoneOut asked
nobody_out asked is worker request out = none_in nobody worker request.id refl (ap (λ ids. slice_get ids worker) (sym is) ∙ id_there asked worker request out)

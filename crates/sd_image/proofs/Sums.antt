-- Sums over the spaces of a table, up to a place.
use Rattle.std.proofs.Common.{◌≡◌, ℕ, ◌+◌, ◌<◌, ◌≤◌, List, [], ◌∷◌, ◌++◌, length, get_or, take, map, sym, ap, arith}
use Rattle.std.specs.Prelude.{sum_by}
use Rattle.std.proofs.lemmas.List.{map_more, take-map}
use Rattle.std.proofs.lemmas.List.Sums.{sum_by-append, sum_by-take-le, sum_by-cons}
use Rattle.sd_image.specs.declared.table.SpaceTable.{SpaceTable}
use Rattle.sd_image.specs.Table.{Listed, listing_of}

pub count_more : (f : Listed → ℕ) (spaces : List SpaceTable) (i : ℕ) (s : SpaceTable) → i < length spaces → s ≡ get_or spaces i s → sum_by f (map listing_of (take (i + 1) spaces)) ≡ sum_by f (map listing_of (take i spaces)) + f (listing_of s)
count_more f spaces i s lt e =
    let more : sum_by f (map listing_of (take (i + 1) spaces)) ≡ sum_by f (map listing_of (take i spaces) ++ listing_of (get_or spaces i s) ∷ []) = ap (sum_by f) (map_more listing_of spaces i s lt) in
    let here : f (listing_of (get_or spaces i s)) ≡ f (listing_of s) = ap (λ (x : SpaceTable). f (listing_of x)) (sym e) in
    omega (arith, more, here, sum_by-append f (map listing_of (take i spaces)) (listing_of (get_or spaces i s) ∷ []), sum_by-cons f (listing_of (get_or spaces i s)) [])

pub too_many : (f : Listed → ℕ) (spaces : List SpaceTable) (i left limit : ℕ) (s : SpaceTable) → i < length spaces → s ≡ get_or spaces i s
    → left + sum_by f (map listing_of (take i spaces)) ≡ limit → (f (listing_of s) ≤ left → ⊥) → sum_by f (map listing_of spaces) ≤ limit → ⊥
too_many f spaces i left limit s lt e so_far none h =
    let more = count_more f spaces i s lt e in
    let within : sum_by f (map listing_of (take (i + 1) spaces)) ≤ sum_by f (map listing_of spaces) = rw (← take-map listing_of (i + 1) spaces) (sum_by-take-le f (map listing_of spaces) (i + 1)) in
    none (omega arith)

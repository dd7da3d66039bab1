-- Counts of pages that are left.
use Rattle.std.proofs.Common.{◌≡◌, ◌-◌, ◌+◌, ◌<◌, ◌≤◌, ℕ, List, length, min, sym, ap, arith, ◌∙◌}
use Rattle.std.proofs.lemmas.List.Sums.{sum_by-cons}
use Rattle.sd_show.specs.Items.{place_after_space, runs_in, spaces_in}
use Rattle.sd_show.specs.Counts.{runs_pages, spaces_pages}
use Rattle.sd_show.proofs.ItemLemmas.{spaces_more}

pub spaces_pages_more : (kind left : ℕ) (bytes : List ℕ) → 0 < left → 16 ≤ length bytes
    → runs_pages kind (runs_in bytes) + spaces_pages kind (spaces_in (left - 1) (place_after_space bytes)) ≡ spaces_pages kind (spaces_in left bytes)
spaces_pages_more kind left bytes some long =
    sym (ap (spaces_pages kind) (spaces_more left bytes some long)
    ∙ sum_by-cons (λ space. runs_pages kind (runs_in space)) bytes (spaces_in (left - 1) (place_after_space bytes)))

-- after the last there is nothing left
pub done : (limit total rest all : ℕ) → total ≤ limit → rest ≡ 0 → min (total + rest) limit ≡ min all limit → total ≡ min all limit
done limit total rest all fits none invariant = omega (arith, fits, none, invariant)

-- a number that stops at a limit, with a part more that stops there itself
pub more_of : (limit total part exact rest left all sum : ℕ) → sum ≡ min (total + part) limit → part ≡ min exact limit → exact + rest ≡ left
    → min (total + left) limit ≡ min all limit → min (sum + rest) limit ≡ min all limit
more_of limit total part exact rest left all sum added stopped is invariant = omega (arith, added, stopped, is, invariant)

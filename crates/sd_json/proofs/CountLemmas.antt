-- Counts with one run more.
use Rattle.std.proofs.Common.{◌≡◌, ℕ, ◌+◌, ◌-◌, ◌^◌, List, [], ◌∷◌, ◌++◌, min, sum_by, refl, sym, ap, ◌∙◌, arith}
use Rattle.std.proofs.lemmas.List.Sums.{sum_by-append, sum_by-cons}
use Rattle.sd_restore.specs.declared.placed_run.PlacedRun.{PlacedRun}
use Rattle.sd_json.specs.declared.memory.Counts.{Counts}
use Rattle.sd_json.specs.Documents.{page_count, zero_count, zeros_there}

-- the counts of runs
abbrev pub counts_of : List PlacedRun → Counts
counts_of runs = record { pages = page_count runs; zeros = zero_count runs }

capped_more : (a c top : ℕ) → min (min a top + c) top ≡ min (a + c) top
capped_more a c top = omega arith

sum_more : (f : PlacedRun → ℕ) (runs : List PlacedRun) (run : PlacedRun) → sum_by f (runs ++ run ∷ []) ≡ sum_by f runs + f run
sum_more f runs run = sum_by-append f runs (run ∷ []) ∙ ap (λ n. sum_by f runs + n) (sum_by-cons f run [] ∙ (omega arith))

pub counts_more : (runs : List PlacedRun) (run : PlacedRun)
    → record { pages = min (page_count runs + run.count) (2 ^ 64 - 1); zeros = min (zero_count runs + zeros_there run.there run.count) (2 ^ 64 - 1) }
    ≡ counts_of (runs ++ run ∷ [])
counts_more runs run =
    let pages = capped_more (sum_by (λ (r : PlacedRun). r.count) runs) run.count (2 ^ 64 - 1)
    ∙ ap (λ n. min n (2 ^ 64 - 1)) (sym (sum_more (λ (r : PlacedRun). r.count) runs run)) in
    let zeros = capped_more (sum_by (λ (r : PlacedRun). zeros_there r.there r.count) runs) (zeros_there run.there run.count) (2 ^ 64 - 1)
    ∙ ap (λ n. min n (2 ^ 64 - 1)) (sym (sum_more (λ (r : PlacedRun). zeros_there r.there r.count) runs run)) in
    ap (λ (n : ℕ). record { pages = n; zeros = min (zero_count runs + zeros_there run.there run.count) (2 ^ 64 - 1) }) pages
    ∙ ap (λ (n : ℕ). record { pages = page_count (runs ++ run ∷ []); zeros = n }) zeros

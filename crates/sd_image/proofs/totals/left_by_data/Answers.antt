use Rattle.std.proofs.Common.{◌≡◌, ◌≤◌, ℕ, List, arith, ap}
use Rattle.std.specs.Prelude.{sum_by, if◌then◌else◌}
use Rattle.sd_image.specs.declared.run.Run.{Run}
use Rattle.sd_image.specs.Table.{Listed, listing_of, is_data}
use Rattle.sd_image.proofs.Sums.{count_more, too_many}
use Rattle.sd_image.proofs.totals.left_by_data.Goals as goal

abbrev pages : Listed → ℕ
pages s = sum_by (λ (r : Run). if is_data r then r.count else 0) s.runs

pub returns-in_err-left : goal.returns-in_err-left
returns-in_err-left c =
    let none : pages (listing_of c.space-item.result) ≤ c.loop-space.left → ⊥ = rw (← c.deref.ensures.value) c.in_err-left.ensures in
    rw c.from_residual.ensures (too_many pages c.args.spaces.now c.loop-space.space-index c.loop-space.left c.args.limit c.space-item.result c.loop-space-test.true c.space-item.is c.loop-space.invariant none)

pub loop-space-preserved : goal.loop-space-preserved
loop-space-preserved c =
    let more = count_more pages c.args.spaces.now c.loop-space.space-index c.space-item.result c.loop-space-test.true c.space-item.is in
    let same : (sum_by (λ (x : Run). if is_data x then x.count else 0) c.deref.result.now) ≡ pages (listing_of c.space-item.result) = ap (λ (xs : List Run). sum_by (λ (x : Run). if is_data x then x.count else 0) xs) c.deref.ensures.value in
    omega (arith, more, same, c.in_ok-left.ensures.0, c.in_ok-left.ensures.1, c.loop-space.invariant)

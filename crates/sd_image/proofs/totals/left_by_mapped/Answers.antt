use Rattle.std.proofs.Common.{◌≡◌, ◌≤◌, ℕ, List, arith, ap}
use Rattle.std.specs.Prelude.{sum_by}
use Rattle.sd_areas.specs.declared.area.Area.{Area}
use Rattle.sd_image.specs.Table.{Listed, listing_of}
use Rattle.sd_image.proofs.Sums.{count_more, too_many}
use Rattle.sd_image.proofs.totals.left_by_mapped.Goals as goal

abbrev pages : Listed → ℕ
pages s = sum_by (λ (a : Area). a.count) s.areas

pub returns-in_err-left : goal.returns-in_err-left
returns-in_err-left c =
    let none : pages (listing_of c.space-item.result) ≤ c.loop-space.left → ⊥ = rw (← c.deref.ensures.value) c.in_err-left.ensures in
    rw c.from_residual.ensures (too_many pages c.args.spaces.now c.loop-space.space-index c.loop-space.left c.args.limit c.space-item.result c.loop-space-test.true c.space-item.is c.loop-space.invariant none)

pub loop-space-preserved : goal.loop-space-preserved
loop-space-preserved c =
    let more = count_more pages c.args.spaces.now c.loop-space.space-index c.space-item.result c.loop-space-test.true c.space-item.is in
    let same : (sum_by (λ (x : Area). x.count) c.deref.result.now) ≡ pages (listing_of c.space-item.result) = ap (λ (xs : List Area). sum_by (λ (x : Area). x.count) xs) c.deref.ensures.value in
    omega (arith, more, same, c.in_ok-left.ensures.0, c.in_ok-left.ensures.1, c.loop-space.invariant)

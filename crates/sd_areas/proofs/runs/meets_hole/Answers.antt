use Rattle.std.proofs.Common.{sym, subst, ℕ, ◌+◌, take}
use Rattle.sd_areas.specs.Runs.{IsMappedUpTo}
use Rattle.sd_areas.proofs.Parts.{next_follows}
use Rattle.sd_areas.proofs.Holes.{covered_none, covered_step, meets_at, whole}
use Rattle.sd_areas.proofs.runs.meets_hole.Goals as goal

pub reach-next-requires : goal.reach-next-requires
reach-next-requires c = (next_follows _ _ _ c.requires.maximal c.loop-area-test.true c.area-item.is).within

pub loop-area-init : goal.loop-area-init
loop-area-init c = subst (λ (n : ℕ). IsMappedUpTo _ c.args.range.now.first n) (sym c.number-next.ensures.value) (covered_none c.args.range.now.first)

pub loop-area-preserved : goal.loop-area-preserved
loop-area-preserved c = subst (λ (n : ℕ). IsMappedUpTo (take (c.loop-area.area-index + 1) c.args.areas.now) c.args.range.now.first n) (sym c.reach-next.ensures) (covered_step _ _ _ _ _ c.requires.maximal c.loop-area-test.true c.area-item.is c.loop-area.invariant)

pub returns : goal.returns
returns c = meets_at _ _ _ _ _ _ (whole _ _ c.loop-area.auto.area-index-end c.loop-area-test.false) c.number.ensures.value c.loop-area.invariant

use Rattle.std.proofs.Common.{rules, ◌≡◌, ◌+◌, drop, length, Some, ◌∙◌, ap, sym, arith}
use Rattle.std.proofs.lemmas.Slice.{between_to_end}
use Rattle.std.specs.Prelude.{nat_lt}
use Rattle.std.specs.List.{position}
use Rattle.sd_areas.specs.declared.area.Area.{Area}
use Rattle.std.proofs.lemmas.List.Sorted.{IsPartitionPoint-from_clause}
use Rattle.sd_areas.proofs.Around.{ends_by, ends_parted, below_by, above_by}
use Rattle.sd_areas.proofs.changes.neighbours.Goals as goal

pub returns-in-Some-clause-below : goal.returns-in-Some-clause-below
returns-in-Some-clause-below c =
    let point = IsPartitionPoint-from_clause (λ y. ends_by c.number-begin.result y) _ _ c.partition_point-from.ensures.partitioned (ends_parted c.number-begin.result _ c.requires.maximal) (λ a r q k. search rules) in
    below_by _ _ _ _ point c.number-begin.ensures.value

pub returns-in-None-clause-below : goal.returns-in-None-clause-below
returns-in-None-clause-below c =
    let point = IsPartitionPoint-from_clause (λ y. ends_by c.number-begin.result y) _ _ c.partition_point-from.ensures.partitioned (ends_parted c.number-begin.result _ c.requires.maximal) (λ a r q k. search rules) in
    below_by _ _ _ _ point c.number-begin.ensures.value

pub returns-in-Some-clause-above : goal.returns-in-Some-clause-above
returns-in-Some-clause-above c =
    let found : position (λ (area : Area). nat_lt (c.number-begin.result + c.args.range.now.count) area.first) (drop c.partition_point-from.result c.args.areas.now) ≡ Some c.in-Some.met =
    ap (position (λ (area : Area). nat_lt (c.number-begin.result + c.args.range.now.count) area.first)) (sym (between_to_end c.args.areas.now c.partition_point-from.result (length c.args.areas.now) (omega arith))) ∙ sym c.in-Some.ensures in
    above_by c.args.areas.now c.partition_point-from.result c.in-Some.met c.number-begin.result c.args.range.now.first c.args.range.now.count c.requires.maximal found c.number-begin.ensures.value

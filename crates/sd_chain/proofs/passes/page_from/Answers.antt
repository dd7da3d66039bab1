use Rattle.std.proofs.Common.{rules, arith, ap}
use Rattle.std.proofs.lemmas.List.Sorted.{IsPartitionPoint-from_clause}
use Rattle.sd_image.specs.declared.run.Run.{Run}
use Rattle.sd_chain.proofs.NextPages.{ends_by, ends_partitioned, least_there, none_left}
use Rattle.sd_chain.proofs.passes.page_from.Goals as goal

pub returns-then-at-runs : goal.returns-then-at-runs
returns-then-at-runs c = λ parent good.
    let point = IsPartitionPoint-from_clause (λ run. ends_by c.args.from run) _ _ c.partition_point-at.ensures.partitioned (ends_partitioned parent c.args.from _ good) (λ a r q k. search rules) in
    none_left parent c.args.from _ _ good point c.if-at-runs.true

pub returns : goal.returns
returns c = λ parent good.
    let point = IsPartitionPoint-from_clause (λ run. ends_by c.args.from run) _ _ c.partition_point-at.ensures.partitioned (ends_partitioned parent c.args.from _ good) (λ a r q k. search rules) in
    least_there parent c.args.from _ _ c.index-runs-at.result c.max.result c.new.result good point (omega (arith, c.if-at-runs.false)) c.index-runs-at.is
    (omega (arith, c.max.ensures, c.number-first.ensures.value, ap (λ (r : Run). r.first) c.index-runs-at.is)) c.new.ensures.within c.new.ensures.value

use Rattle.std.proofs.Common.{rules, ◌-◌, ◌∙◌, refl, sym, arith}
use Rattle.std.proofs.lemmas.List.Sorted.{IsPartitionPoint-from_clause}
use Rattle.std.proofs.lemmas.Option.{slice_get_read}
use Rattle.sd_chain.proofs.Runs.{begins_by, none_begins, none_has, none_is, are_partitioned, place_is}
use Rattle.sd_chain.proofs.placed.run_index.Goals as goal

pub returns-then-after-eq0-clause-none : goal.returns-then-after-eq0-clause-none
returns-then-after-eq0-clause-none c = λ parent good _.
    let point = IsPartitionPoint-from_clause (λ run. begins_by c.args.page run) _ _ c.partition_point-after.ensures.partitioned (are_partitioned parent c.args.page _ good) (λ a r q k. search rules) in
    none_begins c.args.page _ _ point c.if-after-eq0.true

pub returns-clause-run : goal.returns-clause-run
returns-clause-run c = place_is _ _ c.index-runs-at.result _ c.args.page _ c.then_some.ensures c.has_page.ensures c.index-runs-at.is

pub returns-clause-none : goal.returns-clause-none
returns-clause-none c = λ parent good none.
    let point = IsPartitionPoint-from_clause (λ run. begins_by c.args.page run) _ _ c.partition_point-after.ensures.partitioned (are_partitioned parent c.args.page _ good) (λ a r q k. search rules) in
    let at = c.partition_point-after.result - 1 in
    let got = slice_get_read c.args.runs.now _ at c.index-runs-at.result refl (omega (arith, c.if-after-eq0.false, c.partition_point-after.ensures.bound)) c.index-runs-at.is in
    none_has parent c.args.page _ _ at c.index-runs-at.result good point refl c.if-after-eq0.false c.partition_point-after.ensures.bound got
    (sym c.has_page.ensures ∙ none_is _ at _ c.then_some.ensures none)

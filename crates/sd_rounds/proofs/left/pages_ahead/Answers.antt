use Rattle.std.proofs.Common.{arith}
use Rattle.sd_rounds.proofs.AheadLemmas.{few_ahead, next_ahead, none_ahead}
use Rattle.sd_rounds.proofs.left.pages_ahead.Goals as goal

pub overflow_add-count : goal.overflow_add-count
overflow_add-count c = grind (arith, next_ahead, few_ahead)

pub loop-next-smaller : goal.loop-next-smaller
loop-next-smaller c = omega (arith, next_ahead c.plain_law.ensures c.args.memory.now c.loop-next.after c.in-Some.next c.in-Some.ensures)

pub loop-next-preserved : goal.loop-next-preserved
loop-next-preserved c = grind (arith, next_ahead)

pub returns-clause-ahead : goal.returns-clause-ahead
returns-clause-ahead c = grind (arith, none_ahead)

pub returns-clause-few : goal.returns-clause-few
returns-clause-few c = grind (arith, few_ahead)

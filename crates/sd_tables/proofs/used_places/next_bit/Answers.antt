use Rattle.std.proofs.Common.{arith}
use Rattle.sd_tables.proofs.UsedLemmas.{next_none, next_some}
use Rattle.sd_tables.proofs.used_places.next_bit.Goals as goal

pub returns-then-rest-eq0 : goal.returns-then-rest-eq0
returns-then-rest-eq0 c = next_none c.args.word c.args.from c.if-rest-eq0.true

pub returns : goal.returns
returns c = next_some c.args.word c.args.from (omega arith) c.if-rest-eq0.false

-- A difference is printed only of two memories that the store has.
use Rattle.sd_queries.proofs.difference.print_compared.Goals as goal

pub returns-in-Ok-clause-both : goal.returns-in-Ok-clause-both
returns-in-Ok-clause-both g c = λ honest zero. c.in-Ok.ensures.both honest

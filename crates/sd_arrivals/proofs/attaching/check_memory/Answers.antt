use Rattle.sd_arrivals.proofs.attaching.check_memory.Goals as goal

pub returns-then-branch-clause-memory : goal.returns-then-branch-clause-memory
returns-then-branch-clause-memory g c = λ honest. c.in_ok-has_memory.ensures.yes honest c.if-branch.true

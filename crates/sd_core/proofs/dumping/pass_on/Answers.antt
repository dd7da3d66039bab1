use Rattle.std.proofs.Common.{rules}
use Rattle.sd_core.proofs.PassLemmas.{passes_on}
use Rattle.sd_core.proofs.dumping.pass_on.Goals as goal

pub returns-in-Ok-clause-found : goal.returns-in-Ok-clause-found
returns-in-Ok-clause-found c = passes_on c.args.dumper.now c.args.memory.now c.pass.new.self c.pass.new.memory c.requires.begun c.in-Ok.found (search rules) (search rules) c.in-Ok.ensures.passes

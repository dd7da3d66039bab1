use Rattle.std.proofs.Common.{arith}
use Rattle.sd_pagetable.proofs.NestedLemmas.{alive_at}
use Rattle.sd_pagetable.proofs.TableLemmas.{some_of}
use Rattle.sd_pagetable.proofs.memory.Memory.first_page.Goals as goal

pub returns-clause-first : goal.returns-clause-first
returns-clause-first c = grind (arith, some_of, alive_at)

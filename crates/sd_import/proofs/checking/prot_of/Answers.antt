use Rattle.sd_import.proofs.CheckLemmas.{found_prots}
use Rattle.sd_import.proofs.checking.prot_of.Goals as goal

pub returns : goal.returns
returns c = found_prots c.args.memory.now c.args.space c.args.page c.in_ok-areas.field-0.now c.prot_of.result c.in_ok-areas.ensures c.prot_of.ensures

use Rattle.std.proofs.Common.{arith}
use Rattle.std.proofs.lemmas.Grind.{common_steps}
use Rattle.sd_disk.proofs.SlotLemmas.{overwritten}
use Rattle.sd_disk.proofs.slot_file.SlotFile.overwrite.Goals as goal

pub returns-clause-written : goal.returns-clause-written
returns-clause-written c = grind (arith, common_steps, overwritten, c.args.self.now.within)

use Rattle.std.proofs.Common.{arith}
use Rattle.sd_tables.proofs.UsedLemmas.{used_added}
use Rattle.sd_tables.proofs.used_places.UsedPlaces.add.Goals as goal

pub returns : goal.returns
returns c = λ other. used_added c.args.self.now.words c.args.place other (omega arith)

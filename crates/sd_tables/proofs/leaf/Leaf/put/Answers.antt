use Rattle.std.proofs.Common.{arith}
use Rattle.sd_tables.proofs.LeafLemmas.{leaf_put}
use Rattle.sd_tables.proofs.leaf.Leaf.put.Goals as goal

pub returns : goal.returns
returns c = leaf_put c.args.self.now.used.words c.add.new.self.words c.args.self.now.entries c.args.place (omega arith) c.of.result c.add.ensures c.args.entry c.of.ensures

use Rattle.std.proofs.Common.{not, ap, ◌∙◌, arith}
use Rattle.sd_tables.proofs.LeafLemmas.{leaf_has}
use Rattle.sd_tables.proofs.leaf.LeafNode.is_empty.Goals as goal

pub returns-clause-some : goal.returns-clause-some
returns-clause-some c = λ e. leaf_has c.args.self.now.used.words c.args.self.now.entries (omega arith) c.next.result (c.is_none.ensures ∙ ap not e) c.next.ensures

use Rattle.std.proofs.Common.{ap, ◌∙◌, arith}
use Rattle.sd_tables.specs.Runs.{change_of}
use Rattle.sd_tables.proofs.LeafLemmas.{leaf_used}
use Rattle.sd_tables.proofs.RunLemmas.{leaf_changed}
use Rattle.sd_tables.proofs.leaf.Leaf.change.Goals as goal

pub returns-clause-changed : goal.returns-clause-changed
returns-clause-changed c = λ _. leaf_changed c.args.change c.args.self.now.used.words c.args.self.now.entries c.args.place (omega arith) (leaf_used c.args.self.now.used.words c.args.self.now.entries c.args.place c.requires.there) _
    c.of-2.result c.in-Some.entry (c.in-Some.ensures ∙ ap (change_of c.args.change) c.entry.ensures) c.of-2.ensures

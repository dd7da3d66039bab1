use Rattle.std.proofs.Common.{not, ap, ◌∙◌, arith}
use Rattle.sd_tables.proofs.LevelLemmas.{level_has}
use Rattle.sd_tables.proofs.level.LevelNode.is_empty.Goals as goal

pub returns-clause-some : goal.returns-clause-some
returns-clause-some g c = λ e. level_has (λ table. g.T.Node.at table.value) (λ table. g.T.Node.IsKept table.value) g.T.Node.span (omega (arith, g.met.T.Node.some_span)) c.args.self.now.used.words c.args.self.now.tables c.requires.kept c.next.result (c.is_none.ensures ∙ ap not e) c.next.ensures

use Rattle.std.proofs.Common.{◌∙◌, arith}
use Rattle.sd_tables.proofs.LevelLemmas.{kept_slot, level_got}
use Rattle.sd_tables.proofs.level.LevelNode.get.Goals as goal

pub get_in-requires-clause-kept : goal.get_in-requires-clause-kept
get_in-requires-clause-kept g c = kept_slot (λ table. g.T.Node.at table.value) (λ table. g.T.Node.IsKept table.value) g.T.Node.span (omega (arith, g.met.T.Node.some_span)) c.args.self.now.used.words c.args.self.now.tables c.requires.kept c.args.page c.span.result c.span-2.result c.span.ensures c.span-2.ensures c.requires.within c.index-self-place.result

pub returns : goal.returns
returns g c = c.get_in.ensures ∙ level_got (λ table. g.T.Node.at table.value) (λ table. g.T.Node.IsKept table.value) g.T.Node.span (omega (arith, g.met.T.Node.some_span)) c.args.self.now.used.words c.args.self.now.tables c.requires.kept c.args.page c.span.result c.span-2.result c.span.ensures c.span-2.ensures c.requires.within c.index-self-place.result

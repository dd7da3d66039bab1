use Rattle.std.proofs.Common.{Some, is_some, ap, ◌∙◌, arith}
use Rattle.sd_tables.proofs.LevelLemmas.{kept_slot, level_got, level_changed, kept_same}
use Rattle.sd_tables.proofs.level.LevelNode.replace.Goals as goal

pub replace_in-requires-clause-kept : goal.replace_in-requires-clause-kept
replace_in-requires-clause-kept g c = kept_slot (λ table. g.T.Node.at table.value) (λ table. g.T.Node.IsKept table.value) g.T.Node.span (omega (arith, g.met.T.Node.some_span)) c.args.self.now.used.words c.args.self.now.tables c.requires.kept
    c.args.page c.span.result c.span-2.result c.span.ensures c.span-2.ensures c.requires.within c.index-self-place.result

pub replace_in-requires-clause-mapped : goal.replace_in-requires-clause-mapped
replace_in-requires-clause-mapped g c = ap is_some (level_got (λ table. g.T.Node.at table.value) (λ table. g.T.Node.IsKept table.value) g.T.Node.span (omega (arith, g.met.T.Node.some_span)) c.args.self.now.used.words c.args.self.now.tables c.requires.kept
    c.args.page c.span.result c.span-2.result c.span.ensures c.span-2.ensures c.requires.within c.index-self-place.result) ∙ c.requires.there

pub returns-clause-kept : goal.returns-clause-kept
returns-clause-kept g c = kept_same (λ table. g.T.Node.at table.value) (λ table. g.T.Node.IsKept table.value) g.T.Node.span (omega (arith, g.met.T.Node.some_span)) c.args.self.now.used.words c.args.self.now.tables c.requires.kept
    c.args.page c.span.result c.span-2.result c.span.ensures c.span-2.ensures c.requires.within c.index-self-place.result c.replace_in.new.slot c.replace_in.ensures.kept c.replace_in.ensures.there

pub returns-clause-value : goal.returns-clause-value
returns-clause-value g c = level_changed (λ table. g.T.Node.at table.value) (λ table. g.T.Node.IsKept table.value) g.T.Node.span (omega (arith, g.met.T.Node.some_span)) c.args.self.now.used.words c.args.self.now.tables c.requires.kept
    c.args.page c.span.result c.span-2.result c.span.ensures c.span-2.ensures c.requires.within c.index-self-place.result c.replace_in.new.slot (Some c.args.entry) c.replace_in.ensures.value

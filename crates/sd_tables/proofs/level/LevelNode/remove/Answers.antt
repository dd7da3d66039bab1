use Rattle.std.proofs.Common.{None, sym, ◌∙◌, arith}
use Rattle.sd_tables.proofs.LevelLemmas.{kept_slot, level_got, level_changed, kept_removed, kept_same}
use Rattle.sd_tables.proofs.level.LevelNode.remove.Goals as goal

pub remove_in-before-requires-clause-kept : goal.remove_in-before-requires-clause-kept
remove_in-before-requires-clause-kept g c = kept_slot (λ table. g.T.Node.at table.value) (λ table. g.T.Node.IsKept table.value) g.T.Node.span (omega (arith, g.met.T.Node.some_span)) c.args.self.now.used.words c.args.self.now.tables c.requires.kept
    c.args.page c.span.result c.span-2.result c.span.ensures c.span-2.ensures c.requires.within c.index-self-place.result

pub returns-then-is_none-clause-kept : goal.returns-then-is_none-clause-kept
returns-then-is_none-clause-kept g c = kept_removed (λ table. g.T.Node.at table.value) (λ table. g.T.Node.IsKept table.value) g.T.Node.span (omega (arith, g.met.T.Node.some_span)) c.args.self.now.used.words c.args.self.now.tables c.requires.kept
    c.args.page c.span.result c.span-2.result c.span.ensures c.span-2.ensures c.requires.within c.index-self-place.result c.remove_in-before.new.slot c.remove_in-before.ensures.kept c.remove.new.self.words c.if-is_none.ensures c.remove.ensures

pub returns-then-is_none-clause-before : goal.returns-then-is_none-clause-before
returns-then-is_none-clause-before g c = c.remove_in-before.ensures.before ∙ level_got (λ table. g.T.Node.at table.value) (λ table. g.T.Node.IsKept table.value) g.T.Node.span (omega (arith, g.met.T.Node.some_span)) c.args.self.now.used.words c.args.self.now.tables c.requires.kept
    c.args.page c.span.result c.span-2.result c.span.ensures c.span-2.ensures c.requires.within c.index-self-place.result

pub returns-then-is_none-clause-value : goal.returns-then-is_none-clause-value
returns-then-is_none-clause-value g c = level_changed (λ table. g.T.Node.at table.value) (λ table. g.T.Node.IsKept table.value) g.T.Node.span (omega (arith, g.met.T.Node.some_span)) c.args.self.now.used.words c.args.self.now.tables c.requires.kept
    c.args.page c.span.result c.span-2.result c.span.ensures c.span-2.ensures c.requires.within c.index-self-place.result c.remove_in-before.new.slot None c.remove_in-before.ensures.value

pub returns-else-is_none-clause-kept : goal.returns-else-is_none-clause-kept
returns-else-is_none-clause-kept g c = kept_same (λ table. g.T.Node.at table.value) (λ table. g.T.Node.IsKept table.value) g.T.Node.span (omega (arith, g.met.T.Node.some_span)) c.args.self.now.used.words c.args.self.now.tables c.requires.kept
    c.args.page c.span.result c.span-2.result c.span.ensures c.span-2.ensures c.requires.within c.index-self-place.result c.remove_in-before.new.slot c.remove_in-before.ensures.kept (c.if-is_none.ensures ∙ sym (c.remove_in-before.ensures.there c.if-is_none.ensures))

pub returns-else-is_none-clause-before : goal.returns-else-is_none-clause-before
returns-else-is_none-clause-before g c = c.remove_in-before.ensures.before ∙ level_got (λ table. g.T.Node.at table.value) (λ table. g.T.Node.IsKept table.value) g.T.Node.span (omega (arith, g.met.T.Node.some_span)) c.args.self.now.used.words c.args.self.now.tables c.requires.kept
    c.args.page c.span.result c.span-2.result c.span.ensures c.span-2.ensures c.requires.within c.index-self-place.result

pub returns-else-is_none-clause-value : goal.returns-else-is_none-clause-value
returns-else-is_none-clause-value g c = level_changed (λ table. g.T.Node.at table.value) (λ table. g.T.Node.IsKept table.value) g.T.Node.span (omega (arith, g.met.T.Node.some_span)) c.args.self.now.used.words c.args.self.now.tables c.requires.kept
    c.args.page c.span.result c.span-2.result c.span.ensures c.span-2.ensures c.requires.within c.index-self-place.result c.remove_in-before.new.slot None c.remove_in-before.ensures.value

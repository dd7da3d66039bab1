use Rattle.std.proofs.Common.{Some, sym, ◌∙◌, arith}
use Rattle.sd_tables.proofs.LevelLemmas.{kept_slot, level_got, level_changed, level_same, kept_added, kept_same, at_exit}
use Rattle.sd_tables.proofs.level.LevelNode.insert.Goals as goal

pub insert_in-requires-clause-kept : goal.insert_in-requires-clause-kept
insert_in-requires-clause-kept g c = kept_slot (λ table. g.T.Node.at table.value) (λ table. g.T.Node.IsKept table.value) g.T.Node.span (omega (arith, g.met.T.Node.some_span)) c.args.self.now.used.words c.args.self.now.tables c.requires.kept
    c.args.page c.span.result c.span-2.result c.span.ensures c.span-2.ensures c.requires.within c.index-self-place.result

pub returns-in_err-before-clause-kept : goal.returns-in_err-before-clause-kept
returns-in_err-before-clause-kept g c = kept_same (λ table. g.T.Node.at table.value) (λ table. g.T.Node.IsKept table.value) g.T.Node.span (omega (arith, g.met.T.Node.some_span)) c.args.self.now.used.words c.args.self.now.tables c.requires.kept
    c.args.page c.span.result c.span-2.result c.span.ensures c.span-2.ensures c.requires.within c.index-self-place.result c.insert_in.new.slot c.insert_in.ensures.kept c.in_err-before.ensures.same

pub returns-in_err-before-clause-err : goal.returns-in_err-before-clause-err
returns-in_err-before-clause-err g c = at_exit c.from_residual.result (level_same (λ table. g.T.Node.at table.value) (λ table. g.T.Node.IsKept table.value) g.T.Node.span (omega (arith, g.met.T.Node.some_span)) c.args.self.now.used.words c.args.self.now.tables c.requires.kept
    c.args.page c.span.result c.span-2.result c.span.ensures c.span-2.ensures c.requires.within c.index-self-place.result c.insert_in.new.slot c.in_err-before.ensures.err)

pub returns-in_err-before-clause-full : goal.returns-in_err-before-clause-full
returns-in_err-before-clause-full g c = at_exit c.from_residual.result (sym (level_got (λ table. g.T.Node.at table.value) (λ table. g.T.Node.IsKept table.value) g.T.Node.span (omega (arith, g.met.T.Node.some_span)) c.args.self.now.used.words c.args.self.now.tables c.requires.kept
    c.args.page c.span.result c.span-2.result c.span.ensures c.span-2.ensures c.requires.within c.index-self-place.result) ∙ c.in_err-before.ensures.full)

pub returns-clause-kept : goal.returns-clause-kept
returns-clause-kept g c = kept_added (λ table. g.T.Node.at table.value) (λ table. g.T.Node.IsKept table.value) g.T.Node.span (omega (arith, g.met.T.Node.some_span)) c.args.self.now.used.words c.args.self.now.tables c.requires.kept
    c.args.page c.span.result c.span-2.result c.span.ensures c.span-2.ensures c.requires.within c.index-self-place.result c.insert_in.new.slot c.insert_in.ensures.kept c.add.new.self.words c.in_ok-before.ensures.there c.add.ensures

pub returns-clause-before : goal.returns-clause-before
returns-clause-before g c = c.in_ok-before.ensures.before ∙ level_got (λ table. g.T.Node.at table.value) (λ table. g.T.Node.IsKept table.value) g.T.Node.span (omega (arith, g.met.T.Node.some_span)) c.args.self.now.used.words c.args.self.now.tables c.requires.kept
    c.args.page c.span.result c.span-2.result c.span.ensures c.span-2.ensures c.requires.within c.index-self-place.result

pub returns-clause-value : goal.returns-clause-value
returns-clause-value g c = level_changed (λ table. g.T.Node.at table.value) (λ table. g.T.Node.IsKept table.value) g.T.Node.span (omega (arith, g.met.T.Node.some_span)) c.args.self.now.used.words c.args.self.now.tables c.requires.kept
    c.args.page c.span.result c.span-2.result c.span.ensures c.span-2.ensures c.requires.within c.index-self-place.result c.insert_in.new.slot (Some c.args.entry) c.in_ok-before.ensures.value

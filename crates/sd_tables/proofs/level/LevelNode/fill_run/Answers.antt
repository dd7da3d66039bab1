use Rattle.std.proofs.Common.{◌∙◌, arith}
use Rattle.sd_tables.proofs.LevelLemmas.{kept_slot, kept_same, kept_added, level_got, level_same, at_exit}
use Rattle.sd_tables.proofs.RunLemmas.{first_le, level_fill}
use Rattle.sd_tables.proofs.level.LevelNode.fill_run.Goals as goal

pub fill_in-requires-clause-kept : goal.fill_in-requires-clause-kept
fill_in-requires-clause-kept g c = kept_slot (λ table. g.T.Node.at table.value) (λ table. g.T.Node.IsKept table.value) g.T.Node.span (omega (arith, g.met.T.Node.some_span)) c.args.self.now.used.words c.args.self.now.tables c.requires.kept
    c.args.from c.span.result c.span-3.result c.span.ensures c.span-3.ensures c.requires.within c.index-self-place.result

pub returns-in_err-reached-clause-kept : goal.returns-in_err-reached-clause-kept
returns-in_err-reached-clause-kept g c = kept_same (λ table. g.T.Node.at table.value) (λ table. g.T.Node.IsKept table.value) g.T.Node.span (omega (arith, g.met.T.Node.some_span)) c.args.self.now.used.words c.args.self.now.tables c.requires.kept
    c.args.from c.span.result c.span-3.result c.span.ensures c.span-3.ensures c.requires.within c.index-self-place.result c.fill_in.new.slot c.fill_in.ensures.kept c.in_err-reached.ensures.same

pub returns-in_err-reached-clause-err : goal.returns-in_err-reached-clause-err
returns-in_err-reached-clause-err g c = at_exit c.from_residual.result (level_same (λ table. g.T.Node.at table.value) (λ table. g.T.Node.IsKept table.value) g.T.Node.span (omega (arith, g.met.T.Node.some_span)) c.args.self.now.used.words c.args.self.now.tables c.requires.kept
    c.args.from c.span.result c.span-3.result c.span.ensures c.span-3.ensures c.requires.within c.index-self-place.result c.fill_in.new.slot c.in_err-reached.ensures.err)

pub returns-clause-kept : goal.returns-clause-kept
returns-clause-kept g c = kept_added (λ table. g.T.Node.at table.value) (λ table. g.T.Node.IsKept table.value) g.T.Node.span (omega (arith, g.met.T.Node.some_span)) c.args.self.now.used.words c.args.self.now.tables c.requires.kept
    c.args.from c.span.result c.span-3.result c.span.ensures c.span-3.ensures c.requires.within c.index-self-place.result c.fill_in.new.slot c.fill_in.ensures.kept c.add.new.self.words c.in_ok-reached.ensures.there c.add.ensures

pub returns-clause-more : goal.returns-clause-more
returns-clause-more g c = λ none.
    let more = c.in_ok-reached.ensures.more (level_got (λ table. g.T.Node.at table.value) (λ table. g.T.Node.IsKept table.value) g.T.Node.span (omega (arith, g.met.T.Node.some_span)) c.args.self.now.used.words c.args.self.now.tables c.requires.kept
    c.args.from c.span.result c.span-3.result c.span.ensures c.span-3.ensures c.requires.within c.index-self-place.result ∙ none) in
    let begins = first_le (λ table. g.T.Node.at table.value) (λ table. g.T.Node.IsKept table.value) g.T.Node.span (omega (arith, g.met.T.Node.some_span)) c.args.self.now.used.words c.args.self.now.tables c.requires.kept
    c.args.from c.span.result c.span-3.result c.span-2.result c.span.ensures c.span-3.ensures c.span-2.ensures c.requires.within in
    omega arith

pub returns-clause-run : goal.returns-clause-run
returns-clause-run g c = level_fill (λ table. g.T.Node.at table.value) (λ table. g.T.Node.IsKept table.value) g.T.Node.span (omega (arith, g.met.T.Node.some_span)) c.args.self.now.used.words c.args.self.now.tables c.requires.kept
    c.args.from c.span.result c.span-3.result c.span-2.result c.span.ensures c.span-3.ensures c.span-2.ensures c.requires.within c.index-self-place.result c.args.entry c.fill_in.new.slot c.in_ok-reached.reached c.in_ok-reached.ensures.span c.in_ok-reached.ensures.run

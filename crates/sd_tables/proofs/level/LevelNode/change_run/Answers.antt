use Rattle.std.proofs.Common.{arith}
use Rattle.sd_tables.proofs.LevelLemmas.{kept_slot, kept_same}
use Rattle.sd_tables.proofs.RunLemmas.{level_run}
use Rattle.sd_tables.proofs.level.LevelNode.change_run.Goals as goal

pub change_in-requires-clause-kept : goal.change_in-requires-clause-kept
change_in-requires-clause-kept g c = kept_slot (λ table. g.T.Node.at table.value) (λ table. g.T.Node.IsKept table.value) g.T.Node.span (omega (arith, g.met.T.Node.some_span)) c.args.self.now.used.words c.args.self.now.tables c.requires.kept
    c.args.from c.span.result c.span-3.result c.span.ensures c.span-3.ensures c.requires.within c.index-self-place.result

pub returns-clause-kept : goal.returns-clause-kept
returns-clause-kept g c = kept_same (λ table. g.T.Node.at table.value) (λ table. g.T.Node.IsKept table.value) g.T.Node.span (omega (arith, g.met.T.Node.some_span)) c.args.self.now.used.words c.args.self.now.tables c.requires.kept
    c.args.from c.span.result c.span-3.result c.span.ensures c.span-3.ensures c.requires.within c.index-self-place.result c.change_in.new.slot c.change_in.ensures.kept c.change_in.ensures.there

pub returns-clause-run : goal.returns-clause-run
returns-clause-run g c = level_run (λ table. g.T.Node.at table.value) (λ table. g.T.Node.IsKept table.value) g.T.Node.span (omega (arith, g.met.T.Node.some_span)) c.args.self.now.used.words c.args.self.now.tables c.requires.kept
    c.args.from c.span.result c.span-3.result c.span-2.result c.span.ensures c.span-3.ensures c.span-2.ensures c.requires.within c.index-self-place.result c.args.change c.change_in.new.slot c.change_in.result c.change_in.ensures.span c.change_in.ensures.run

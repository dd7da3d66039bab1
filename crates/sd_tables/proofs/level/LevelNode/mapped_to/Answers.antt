use Rattle.std.proofs.Common.{arith}
use Rattle.sd_tables.proofs.LevelLemmas.{kept_slot}
use Rattle.sd_tables.proofs.RunLemmas.{level_mapped}
use Rattle.sd_tables.proofs.level.LevelNode.mapped_to.Goals as goal

pub mapped_in-requires-clause-kept : goal.mapped_in-requires-clause-kept
mapped_in-requires-clause-kept g c = kept_slot (λ table. g.T.Node.at table.value) (λ table. g.T.Node.IsKept table.value) g.T.Node.span (omega (arith, g.met.T.Node.some_span)) c.args.self.now.used.words c.args.self.now.tables c.requires.kept
    c.args.from c.span.result c.span-3.result c.span.ensures c.span-3.ensures c.requires.within c.index-self-place.result

pub returns-clause-mapped : goal.returns-clause-mapped
returns-clause-mapped g c = level_mapped (λ table. g.T.Node.at table.value) (λ table. g.T.Node.IsKept table.value) g.T.Node.span (omega (arith, g.met.T.Node.some_span)) c.args.self.now.used.words c.args.self.now.tables c.requires.kept
    c.args.from c.span.result c.span-3.result c.span-2.result c.span.ensures c.span-3.ensures c.span-2.ensures c.requires.within c.index-self-place.result c.mapped_in.result c.mapped_in.ensures.span c.mapped_in.ensures.mapped

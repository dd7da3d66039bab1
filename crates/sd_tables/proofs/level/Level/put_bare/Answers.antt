use Rattle.std.proofs.Common.{◌<◌, length, arith}
use Rattle.sd_tables.proofs.CopyLemmas.{kept_place, level-next, level-kept, level-all}
use Rattle.sd_tables.proofs.level.Level.put_bare.Goals as goal

pub bare_copy_in-requires-clause-kept : goal.bare_copy_in-requires-clause-kept
bare_copy_in-requires-clause-kept g c = kept_place (λ table. g.T.Node.at table.value) (λ table. g.T.Node.IsKept table.value) g.T.Node.span c.args.other.now.used.words c.args.other.now.tables c.requires.kept
    c.loop-place.self.tables c.loop-place.from c.in-Some.place c.in-Some.ensures c.index-other-place.result

pub loop-place-preserved : goal.loop-place-preserved
loop-place-preserved g c =
    let l : c.in-Some.place < length c.loop-place.self.tables = (let n = c.in-Some.ensures.1 in let p = c.loop-place.invariant.kept.places in omega arith) in
    record {
      within = (let n = c.in-Some.ensures.1 in omega arith);
      kept = level-kept (λ table. g.T.Node.at table.value) (λ table. g.T.Node.IsKept table.value) g.T.Node.span c.args.other.now.used.words c.args.other.now.tables c.requires.kept
          c.loop-place.self.tables c.loop-place.from c.in-Some.place c.in-Some.ensures c.index-other-place.result c.in_ok-self.field-0
          (omega (arith, g.met.T.Node.some_span)) c.loop-place.self.used.words c.add.new.self.words c.loop-place.invariant.kept c.in_ok-self.ensures.kept c.in_ok-self.ensures.there c.add.ensures;
      so = level-next (λ table. g.T.Node.at table.value) (λ table. g.T.Node.IsKept table.value) g.T.Node.span c.args.other.now.used.words c.args.other.now.tables c.requires.kept
          c.loop-place.self.tables c.loop-place.from c.in-Some.place c.in-Some.ensures c.index-other-place.result c.in_ok-self.field-0 l c.loop-place.invariant.so c.in_ok-self.ensures.value;
    }

pub returns-clause-value : goal.returns-clause-value
returns-clause-value g c = level-all (λ table. g.T.Node.at table.value) (λ table. g.T.Node.IsKept table.value) g.T.Node.span c.args.other.now.used.words c.args.other.now.tables c.requires.kept
    c.loop-place.self.tables c.loop-place.from c.in_default.ensures c.loop-place.invariant.so

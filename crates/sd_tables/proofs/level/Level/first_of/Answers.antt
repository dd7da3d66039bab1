use Rattle.sd_tables.proofs.LevelLemmas.{kept_got, first_got_none, first_got_some}
use Rattle.sd_tables.proofs.level.Level.first_of.Goals as goal

pub first_in-requires-clause-kept : goal.first_in-requires-clause-kept
first_in-requires-clause-kept g c = kept_got (λ table. g.T.Node.at table.value) (λ table. g.T.Node.IsKept table.value) g.T.Node.span c.args.self.now.used.words c.args.self.now.tables c.requires.kept c.args.place c.requires.place c.index-self-place.result

pub returns-in_err-found : goal.returns-in_err-found
returns-in_err-found g c = rw c.from_residual.ensures (first_got_none (λ table. g.T.Node.at table.value) (λ table. g.T.Node.IsKept table.value) g.T.Node.span c.args.self.now.used.words c.args.self.now.tables c.requires.kept c.args.place c.requires.place c.index-self-place.result c.args.page c.in_err-found.ensures)

pub returns : goal.returns
returns g c = first_got_some (λ table. g.T.Node.at table.value) (λ table. g.T.Node.IsKept table.value) g.T.Node.span c.args.self.now.used.words c.args.self.now.tables c.requires.kept c.args.place c.requires.place c.index-self-place.result c.span.result c.args.page c.in_ok-found.found c.in_ok-found.entry c.span.ensures c.in_ok-found.ensures

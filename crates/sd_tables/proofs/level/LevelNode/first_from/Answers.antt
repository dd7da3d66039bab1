use Rattle.std.proofs.Common.{sym, ◌∙◌, arith}
use Rattle.sd_tables.proofs.LevelLemmas.{found_here, nowhere, of_next}
use Rattle.sd_tables.proofs.level.LevelNode.first_from.Goals as goal

pub returns-then-is_some : goal.returns-then-is_some
returns-then-is_some g c = found_here (λ table. g.T.Node.at table.value) (λ table. g.T.Node.IsKept table.value) g.T.Node.span (omega (arith, g.met.T.Node.some_span)) c.args.self.now.used.words c.args.self.now.tables c.requires.kept
    c.args.page c.span.result c.span-2.result c.span.ensures c.span-2.ensures c.requires.within c.first_of-found.result (sym c.is_some.ensures ∙ c.if-is_some.true) c.first_of-found.ensures

pub returns-in_err-next : goal.returns-in_err-next
returns-in_err-next g c = rw c.from_residual.ensures (nowhere (λ table. g.T.Node.at table.value) (λ table. g.T.Node.IsKept table.value) g.T.Node.span (omega (arith, g.met.T.Node.some_span)) c.args.self.now.used.words c.args.self.now.tables c.requires.kept
    c.args.page c.span.result c.span-2.result c.span.ensures c.span-2.ensures c.requires.within c.first_of-found.result (sym c.is_some.ensures ∙ c.if-is_some.false) c.first_of-found.ensures c.in_err-next.ensures)

pub returns : goal.returns
returns g c = of_next (λ table. g.T.Node.at table.value) (λ table. g.T.Node.IsKept table.value) g.T.Node.span (omega (arith, g.met.T.Node.some_span)) c.args.self.now.used.words c.args.self.now.tables c.requires.kept
    c.args.page c.span.result c.span-2.result c.span.ensures c.span-2.ensures c.requires.within c.first_of-found.result (sym c.is_some.ensures ∙ c.if-is_some.false) c.first_of-found.ensures c.in_ok-next.next c.in_ok-next.ensures c.first_of.result c.first_of.ensures

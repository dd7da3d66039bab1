use Rattle.std.proofs.Common.{None, sym, subst, Box, Global}
use Rattle.std.proofs.lemmas.Option.{same_Some}
use Rattle.sd_tables.specs.Radix.{HasMappedPage}
use Rattle.sd_tables.proofs.RunLemmas.{fill_after}
use Rattle.sd_tables.proofs.SlotLemmas.{has_put}
use Rattle.sd_tables.proofs.slot.fill_in.Goals as goal

pub returns-in-Some-clause-kept : goal.returns-in-Some-clause-kept
returns-in-Some-clause-kept g c = λ x e. subst (λ (t : Box g.row.T.Denot Global). g.T.Node.IsKept t.value × HasMappedPage g.T.Node.span (g.T.Node.at t.value)) (same_Some _ x e) (
  c.fill_run.ensures.kept,
  fill_after c.args.entry g.T.Node.span (g.T.Node.at c.deref_mut.result.now) (g.T.Node.at c.fill_run.new.self) c.args.from c.fill_run.result
      (subst (λ (t : g.row.T.Denot). HasMappedPage g.T.Node.span (g.T.Node.at t)) (sym c.deref_mut.ensures.value) (c.requires.kept c.in-Some.table c.in-Some.is).1) c.fill_run.ensures.run c.fill_run.ensures.err,
)

pub returns-clause-kept : goal.returns-clause-kept
returns-clause-kept g c = λ x e. subst (λ (t : Box g.row.T.Denot Global). g.T.Node.IsKept t.value × HasMappedPage g.T.Node.span (g.T.Node.at t.value)) (same_Some _ x e)
    (c.in_ok-with_page.ensures.kept, has_put g.T.Node.span (λ _. None) (g.T.Node.at c.in_ok-with_page.field-0.value) c.args.from c.args.entry c.requires.within c.in_ok-with_page.ensures.value)

use Rattle.std.proofs.Common.{sym, subst, Box, Global}
use Rattle.std.proofs.lemmas.Option.{same_Some}
use Rattle.sd_tables.specs.Radix.{HasMappedPage}
use Rattle.sd_tables.proofs.CopyLemmas.{has_copy}
use Rattle.sd_tables.proofs.slot.bare_copy_in.Goals as goal

pub returns-clause-kept : goal.returns-clause-kept
returns-clause-kept g c = λ x e. subst (λ (t : Box g.row.T.Denot Global). g.T.Node.IsKept t.value × HasMappedPage g.T.Node.span (g.T.Node.at t.value)) (same_Some _ x e) (
  c.in_ok-bare_copy.ensures.kept,
  has_copy g.T.Node.span (g.T.Node.at c.deref.result.now) (g.T.Node.at c.in_ok-bare_copy.field-0.value) c.in_ok-bare_copy.ensures.value
      (subst (λ (t : g.row.T.Denot). HasMappedPage g.T.Node.span (g.T.Node.at t)) (sym c.deref.ensures) (c.requires.kept c.in-Some.table c.in-Some.is).1),
)

use Rattle.std.proofs.Common.{sym, subst, ap, ◌∙◌, refl, Box, Global}
use Rattle.std.proofs.lemmas.Option.{same_Some}
use Rattle.sd_tables.specs.Radix.{HasMappedPage, slot_at}
use Rattle.sd_tables.proofs.RunLemmas.{changes-has, changes-seen}
use Rattle.sd_tables.proofs.slot.change_in.Goals as goal

pub returns-in-Some-clause-kept : goal.returns-in-Some-clause-kept
returns-in-Some-clause-kept g c = λ x e. subst (λ (t : Box g.row.T.Denot Global). g.T.Node.IsKept t.value × HasMappedPage g.T.Node.span (g.T.Node.at t.value)) (same_Some _ x e) (
  c.change_run.ensures.kept,
  changes-has c.args.change g.T.Node.span (g.T.Node.at c.deref_mut.result.now) (g.T.Node.at c.change_run.new.self) c.args.from c.change_run.result c.change_run.ensures.run
      (subst (λ (t : g.row.T.Denot). HasMappedPage g.T.Node.span (g.T.Node.at t)) (sym c.deref_mut.ensures.value) (c.requires.kept c.in-Some.table c.in-Some.is).1),
)

pub returns-in-Some-clause-run : goal.returns-in-Some-clause-run
returns-in-Some-clause-run g c = changes-seen c.args.change (g.T.Node.at c.deref_mut.result.now) (g.T.Node.at c.change_run.new.self) _ _ c.args.from c.change_run.result
    (λ q. ap (λ slot. slot_at (λ (table : Box g.row.T.Denot Global). g.T.Node.at table.value) slot q) c.in-Some.is ∙ ap (λ t. g.T.Node.at t q) (sym c.deref_mut.ensures.value))
    (λ q. refl) c.change_run.ensures.run

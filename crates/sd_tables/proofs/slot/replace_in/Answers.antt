use Rattle.std.proofs.Common.{subst, Box, Global}
use Rattle.std.proofs.lemmas.Option.{same_Some}
use Rattle.sd_tables.specs.Radix.{HasMappedPage}
use Rattle.sd_tables.proofs.SlotLemmas.{has_put}
use Rattle.sd_tables.proofs.slot.replace_in.Goals as goal

pub returns-in-Some-clause-kept : goal.returns-in-Some-clause-kept
returns-in-Some-clause-kept g c = λ x e. subst (λ (t : Box g.row.T.Denot Global). g.T.Node.IsKept t.value × HasMappedPage g.T.Node.span (g.T.Node.at t.value)) (same_Some _ x e)
    (c.replace.ensures.kept, has_put g.T.Node.span (g.T.Node.at c.deref_mut.result.now) (g.T.Node.at c.replace.new.self) c.args.page c.args.entry c.requires.within c.replace.ensures.value)

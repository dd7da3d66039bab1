use Rattle.std.proofs.Common.{refl, sym, ◌∙◌}
use Rattle.sd_tables.proofs.slot.remove_in.Goals as goal

pub returns-then-is_bare-clause-value : goal.returns-then-is_bare-clause-value
returns-then-is_bare-clause-value g c = λ other. sym (c.if-is_bare.ensures.bare refl other) ∙ c.take_out-before.ensures.value other

pub returns-else-is_bare-clause-kept : goal.returns-else-is_bare-clause-kept
returns-else-is_bare-clause-kept g c = c.if-is_bare.ensures.some refl

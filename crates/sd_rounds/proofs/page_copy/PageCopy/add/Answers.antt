use Rattle.std.proofs.Common.{◌==◌, sym, ◌∙◌, ap, arith}
use Rattle.sd_rounds.proofs.PageCopyLemmas.{more_zeros, zeros_more, is_bare}
use Rattle.sd_rounds.proofs.page_copy.PageCopy.add.Goals as goal

pub invariant_of-self : goal.invariant_of-self
invariant_of-self c = zeros_more c.self.inside.front c.self.inside.buffer.items c.self.inside.zeros c.self.invariant (is_bare c.self.inside.buffer.items (ap (λ n. n == 0) (sym c.self.inside.buffer.ok.0) ∙ sym c.is_empty.ensures ∙ c.if-is_empty.true)) c.if-self-le-PAGE_SIZE.true

pub returns-then-self-le-PAGE_SIZE-clause-items : goal.returns-then-self-le-PAGE_SIZE-clause-items
returns-then-self-le-PAGE_SIZE-clause-items c = grind (arith, more_zeros, is_bare)

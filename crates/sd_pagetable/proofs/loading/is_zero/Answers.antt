use Rattle.std.proofs.Common.{sym, ◌∙◌}
use Rattle.sd_pagetable.proofs.LoadedLemmas.{zero_bytes}
use Rattle.sd_pagetable.proofs.loading.is_zero.Goals as goal

pub returns-clause-zeros : goal.returns-clause-zeros
returns-clause-zeros c = λ holds. zero_bytes c.args.page.now c.told-page (sym c.are_zeros.ensures ∙ holds)

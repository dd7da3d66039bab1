use Rattle.std.proofs.Common.{◌≤◌, ap, ◌∙◌, sym, subst}
use Rattle.sd_pagetable.specs.Contents.{Contents, page_count}
use Rattle.sd_pagetable.proofs.paging.Paging.mapped.Goals as goal

pub returns-clause-value : goal.returns-clause-value
returns-clause-value c = c.self.invariant.mapped ∙ ap (λ (m : Contents). page_count m.spaces) c.self.view_is

pub returns-clause-few : goal.returns-clause-few
returns-clause-few c = subst (λ n. n ≤ 65536) (sym c.self.invariant.mapped) c.self.invariant.sound.few

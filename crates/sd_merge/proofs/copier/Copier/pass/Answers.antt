use Rattle.std.proofs.Common.{None, ℕ, Option, subst}
use Rattle.std.proofs.lemmas.Result.{IfOk-weaker}
use Rattle.sd_chain.specs.Passes.{IsNextPageOfImage}
use Rattle.sd_merge.proofs.PassLemmas.{next_of, table_step}
use Rattle.sd_merge.proofs.copier.Copier.pass.Goals as goal

pub returns-in_default-next_page-clause-steps : goal.returns-in_default-next_page-clause-steps
returns-in_default-next_page-clause-steps c =
    IfOk-weaker c.close.result _ _
    (λ step is. table_step c.args.ticket c.args.catalog.now c.args.self.now c.close.new.self step
    (λ are. next_of c.args.catalog.now _ c.args.self.now c.last.result None c.self.view_is c.last.ensures
    (subst (λ (o : Option (ℕ × ℕ)). IsNextPageOfImage c.args.catalog.now c.self.inside.order.source.serial c.last.result o) c.in_default-next_page.is (c.next_page.ensures are))) is)
    c.close.ensures.table

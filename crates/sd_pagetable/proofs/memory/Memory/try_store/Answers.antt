use Rattle.std.proofs.Common.{ap, sym, subst, is_some, arith}
use Rattle.sd_pagetable.specs.Contents.{Contents}
use Rattle.sd_pagetable.specs.View.{HasEntry}
use Rattle.sd_pagetable.specs.Access.{stored_at}
use Rattle.sd_pagetable.proofs.MemoryLemmas.{plain_stored, page_of_seen, areas_stored}
use Rattle.sd_pagetable.proofs.memory.Memory.try_store.Goals as goal

pub returns-clause-memory : goal.returns-clause-memory
returns-clause-memory c = grind (arith, page_of_seen, plain_stored)

pub invariant_of-self : goal.invariant_of-self
invariant_of-self c =
    let x = page_of_seen c.self.inside.paging c.args.space c.in_ok-place.place.page c.in_ok-place.place.entry (subst (λ (m : Contents). HasEntry m c.args.space c.in_ok-place.place.page c.in_ok-place.place.entry) (sym c.self.view_is) c.in_ok-place.ensures.entry) in
    areas_stored c.self.inside.areas c.self.inside.paging c.write.new.self c.args.space c.in_ok-place.place.page (λ b. stored_at b c.in_ok-place.place.offset c.args.bytes.now) c.self.invariant (ap is_some x.1) c.write.ensures

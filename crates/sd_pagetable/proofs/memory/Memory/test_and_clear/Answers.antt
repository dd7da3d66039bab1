use Rattle.std.proofs.Common.{ap, ◌∙◌, sym, false, arith}
use Rattle.sd_tables.specs.declared.entry.Entry.{Entry}
use Rattle.sd_pagetable.proofs.MemoryLemmas.{plain_same, page_of_seen, areas_write_protected}
use Rattle.sd_pagetable.proofs.memory.Memory.test_and_clear.Goals as goal

pub returns-clause-memory : goal.returns-clause-memory
returns-clause-memory c = grind (arith, page_of_seen, plain_same)

pub invariant_of-self : goal.invariant_of-self
invariant_of-self c =
    let x = page_of_seen c.self.inside.paging c.args.space c.args.page c.in_ok-entry.entry (sym c.entry.ensures.value ∙ c.in_ok-entry.was) in
    areas_write_protected c.self.inside.areas c.self.inside.paging c.write_protect.new.self c.args.space c.args.page c.in_ok-entry.entry.prot false x.0 c.self.invariant x.1 (ap (λ (e : Entry). e.prot) (sym x.2)) c.write_protect.ensures

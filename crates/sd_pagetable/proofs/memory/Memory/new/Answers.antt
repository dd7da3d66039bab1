use Rattle.std.proofs.Common.{ap, ◌∙◌, is_some}
use Rattle.std.specs.FinMap as finmap
use Rattle.sd_pagetable.specs.Nested.{is_alive}
use Rattle.sd_pagetable.specs.Contents.{Contents}
use Rattle.sd_pagetable.proofs.MemoryLemmas.{areas_of_one, plain_of_one, alone_begins}
use Rattle.sd_pagetable.proofs.memory.Memory.new.Goals as goal
use Rattle.std.specs.FinMap.{get-empty}
use Rattle.std.specs.Ordering.{nat_cmp}

pub add_space-requires-clause-fresh : goal.add_space-requires-clause-fresh
add_space-requires-clause-fresh c = ap (λ (m : Contents). is_alive m.spaces c.new-space.result) c.new-paging.ensures ∙ ap is_some (get-empty nat_cmp c.new-space.result)

pub invariant_of-result : goal.invariant_of-result
invariant_of-result c = areas_of_one c.new-areas.result c.insert.new.self c.add_space.new.self c.new-space.result c.new.result c.new-areas.ensures.empty c.new.ensures c.in_ok-insert.ensures.updates.0
    (ap (λ (m : Contents). m.spaces) c.in_ok-add_space.ensures.ok ∙ ap (λ (m : Contents). finmap.insert m.spaces c.new-space.result finmap.empty) c.new-paging.ensures)

pub returns-clause-memory : goal.returns-clause-memory
returns-clause-memory c = plain_of_one c.new-paging.result c.add_space.new.self c.new-space.result (ap (λ (m : Contents). m.spaces) c.in_ok-add_space.ensures.ok)
    (ap (λ (m : Contents). m.spaces) c.new-paging.ensures) c.new-space.ensures

pub returns-clause-begins : goal.returns-clause-begins
returns-clause-begins c = alone_begins c.new-paging.result c.add_space.new.self c.new-space.result (ap (λ (m : Contents). m.spaces) c.in_ok-add_space.ensures.ok)
    (ap (λ (m : Contents). m.spaces) c.new-paging.ensures)

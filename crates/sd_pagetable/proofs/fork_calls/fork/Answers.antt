use Rattle.std.proofs.Common.{sym, subst, ◌∙◌, arith}
use Rattle.sd_pagetable.specs.Kept.{HasAreas}
use Rattle.sd_pagetable.proofs.MemoryLemmas.{plain_alive}
use Rattle.sd_pagetable.proofs.RangeRefusals.{many_pages, few_pages}
use Rattle.sd_pagetable.proofs.ForkCalls.{fork_dead, fork_alive, is_sixteen, is_fewer, space_pages, apart_from, areas_back, areas_forked, plain_forked}
use Rattle.sd_pagetable.proofs.fork_calls.fork.Goals as goal

pub returns-then-not-is_alive-clause-due : goal.returns-then-not-is_alive-clause-due
returns-then-not-is_alive-clause-due c = grind (arith, fork_dead)

pub returns-in_default-clause-due : goal.returns-in_default-clause-due
returns-in_default-clause-due c = grind (arith, fork_alive, is_sixteen)

pub overflow_add-mapped : goal.overflow_add-mapped
overflow_add-mapped c = grind (arith, space_pages)

pub returns-then-mapped-pages_in-gt-MAPPED_PAGE_LIMIT-clause-due : goal.returns-then-mapped-pages_in-gt-MAPPED_PAGE_LIMIT-clause-due
returns-then-mapped-pages_in-gt-MAPPED_PAGE_LIMIT-clause-due c = grind (arith, fork_alive, is_fewer, many_pages)

pub copy_space-requires-clause-fresh : goal.copy_space-requires-clause-fresh
copy_space-requires-clause-fresh c = sym (plain_alive c.args.paging.now c.in-Some.child) ∙ c.in-Some.ensures.0.free

pub returns-in-Err-clause-kept : goal.returns-in-Err-clause-kept
returns-in-Err-clause-kept c = grind (arith, plain_alive, areas_back)

pub returns-clause-kept : goal.returns-clause-kept
returns-clause-kept c = subst (HasAreas c.add_areas.new.areas) (sym c.in_default-copy_space.ensures.ok)
    (areas_forked c.args.areas.now c.add_areas.new.areas c.args.paging.now c.args.space c.in-Some.child c.in_ok-own.own c.requires.kept c.in_ok-own.ensures.found c.in_ok-add_areas.ensures.ok)

pub returns-clause-due : goal.returns-clause-due
returns-clause-due c = grind (arith, fork_alive, is_fewer, few_pages)

pub returns-in_err-own-clause-tested : goal.returns-in_err-own-clause-tested
returns-in_err-own-clause-tested c = grind (arith, fork_alive, is_fewer, few_pages)

pub returns-in_err-add_areas-clause-tested : goal.returns-in_err-add_areas-clause-tested
returns-in_err-add_areas-clause-tested c = grind (arith, fork_alive, is_fewer, few_pages)

pub returns-in-Err-clause-tested : goal.returns-in-Err-clause-tested
returns-in-Err-clause-tested c = grind (arith, fork_alive, is_fewer, few_pages)

pub returns-clause-step : goal.returns-clause-step
returns-clause-step c = (sym c.if-not-is_alive.ensures, sym (plain_alive c.args.paging.now c.in-Some.child) ∙ c.in-Some.ensures.0.free, c.in_default-copy_space.ensures.ok)

pub returns-clause-memory : goal.returns-clause-memory
returns-clause-memory c = grind (arith, plain_alive, plain_forked, apart_from)

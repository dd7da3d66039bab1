use Rattle.std.proofs.Common.{ap, ◌∙◌}
use Rattle.sd_pagetable.specs.Nested.{is_alive}
use Rattle.sd_pagetable.specs.Contents.{Contents}
use Rattle.sd_pagetable.proofs.RangeSteps.{alive_with}
use Rattle.sd_pagetable.proofs.ForkCalls.{apart_from, copied_child, still_alive, shared}
use Rattle.sd_pagetable.proofs.fork_calls.copy_space.Goals as goal

pub share_pages-requires-clause-parent : goal.share_pages-requires-clause-parent
share_pages-requires-clause-parent c = ap (λ (m : Contents). is_alive m.spaces c.args.space) c.in_ok-add_copy.ensures.ok ∙ still_alive c.args.paging.now c.args.child c.args.space _ c.requires.alive

pub share_pages-requires-clause-child : goal.share_pages-requires-clause-child
share_pages-requires-clause-child c = ap (λ (m : Contents). is_alive m.spaces c.args.child) c.in_ok-add_copy.ensures.ok ∙ alive_with c.args.paging.now c.args.child _

pub share_pages-requires-clause-copied : goal.share_pages-requires-clause-copied
share_pages-requires-clause-copied c = copied_child c.args.paging.now c.add_copy.new.self c.args.space c.args.child (apart_from c.args.paging.now c.args.space c.args.child c.requires.alive c.requires.fresh) c.in_ok-add_copy.ensures.ok

pub returns-clause-ok : goal.returns-clause-ok
returns-clause-ok c = shared c.args.paging.now c.add_copy.new.self c.share_pages.new.paging c.args.space c.args.child _ (apart_from c.args.paging.now c.args.space c.args.child c.requires.alive c.requires.fresh)
    c.in_ok-add_copy.ensures.ok c.share_pages.ensures

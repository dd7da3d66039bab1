use Rattle.sd_areas.specs.Memory.{memory_of}
use Rattle.sd_audit.proofs.Seen.{pages_in}
use Rattle.sd_fold.proofs.CopyLemmas.{all_copied, copied_more}
use Rattle.sd_audit.proofs.copying.copy_of.Goals as goal

pub loop-space-preserved-in_ok-insert : goal.loop-space-preserved-in_ok-insert
loop-space-preserved-in_ok-insert c = copied_more pages_in c.args.snapshot.now.spaces.entries c.loop-space.space-iterator c.next.new.self c.loop-space.spaces.entries c.insert.new.self.entries
    c.in-Some.space.now c.in-Some.pages.now c.in_ok-copy_of_pages.field-0 c.loop-space.invariant c.in-Some.ensures.steps c.in_ok-copy_of_pages.ensures c.in_ok-insert.ensures.entries

pub loop-space-preserved : goal.loop-space-preserved
loop-space-preserved c = copied_more pages_in c.args.snapshot.now.spaces.entries c.loop-space.space-iterator c.next.new.self c.loop-space.spaces.entries c.insert.new.self.entries
    c.in-Some.space.now c.in-Some.pages.now c.in_ok-copy_of_pages.field-0 c.loop-space.invariant c.in-Some.ensures.steps c.in_ok-copy_of_pages.ensures c.in_ok-insert.ensures.entries

pub returns : goal.returns
unfolding memory_of
returns c = all_copied pages_in c.args.snapshot.now.spaces.entries c.loop-space.space-iterator c.loop-space.spaces.entries c.loop-space.invariant c.in-None.ensures.steps.0

use Rattle.std.proofs.Common.{◌∙◌, sym, inl, inr}
use Rattle.std.specs.Iterator.Adapters.{zip_first, zip_second}
use Rattle.sd_areas.specs.Memory.{memory_of}
use Rattle.sd_audit.proofs.Seen.{pages_in}
use Rattle.sd_audit.proofs.SameLemmas.{differ, differ_by_test, differ_in_length, same_at_end, told_apart, told_false, told_same}
use Rattle.sd_audit.proofs.same.is_same_memory.Goals as goal
use Rattle.sd_audit.proofs.same.is_same_memory.Goals.{then-ne-via-then-ne, then-ne-via-else-ne+then-not-is_same_space}

pub returns-then-len : goal.returns-then-len
unfolding memory_of
returns-then-len c = told_apart (differ_in_length pages_in c.args.one.now.spaces.entries c.args.other.now.spaces.entries c.len.ensures.ordered c.len-2.ensures.ordered
    (λ e. c.if-len.true (c.len.ensures.len ∙ e ∙ sym c.len-2.ensures.len)))

pub returns-then-ne : goal.returns-then-ne
unfolding memory_of
returns-then-ne c = told_apart (differ pages_in c.args.one.now.spaces.entries c.args.other.now.spaces.entries
    (zip_first c.loop-space.space-iterator) (zip_second c.loop-space.space-iterator) (zip_first c.next.new.self) (zip_second c.next.new.self)
    c.in-Some.space.now c.in-Some.twin.now c.in-Some.pages.now c.in-Some.others.now c.loop-space.invariant
    c.in-Some.ensures.steps.0 c.in-Some.ensures.steps.1 c.len.ensures.ordered c.len-2.ensures.ordered
    (λ both. elim c.then-ne.branch [
      | then-ne-via-then-ne w ↦ differ_by_test c.ne.result c.in-Some.space.now c.in-Some.twin.now c.ne.ensures w.if-ne.true both.0
      | then-ne-via-else-ne+then-not-is_same_space w ↦ told_false w.is_same_space.result w.is_same_space.ensures.1 w.if-not-is_same_space.true both.1
    ]))

pub returns : goal.returns
unfolding memory_of
returns c = told_same (same_at_end pages_in c.args.one.now.spaces.entries c.args.other.now.spaces.entries
    (zip_first c.loop-space.space-iterator) (zip_second c.loop-space.space-iterator) c.loop-space.invariant
    (elim c.in-None.ensures.steps [ inl first ↦ inl first.1.0 | inr second ↦ inr second.1.0 ]))

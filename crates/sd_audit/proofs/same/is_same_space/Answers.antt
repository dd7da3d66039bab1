use Rattle.std.proofs.Common.{◌∙◌, sym, inl, inr}
use Rattle.std.specs.Iterator.Adapters.{zip_first, zip_second}
use Rattle.sd_areas.specs.Memory.{page_of_snapshot, space_of}
use Rattle.sd_audit.proofs.SameLemmas.{differ, differ_by_test, differ_in_length, same_at_end, told_apart, told_false, told_same}
use Rattle.sd_audit.proofs.same.is_same_space.Goals as goal
use Rattle.sd_audit.proofs.same.is_same_space.Goals.{then-ne-via-then-ne, then-ne-via-else-ne+then-not-is_same_page}

pub returns-then-len : goal.returns-then-len
unfolding space_of
returns-then-len c = told_apart (differ_in_length page_of_snapshot c.args.one.now.entries c.args.other.now.entries c.len.ensures.ordered c.len-2.ensures.ordered
    (λ e. c.if-len.true (c.len.ensures.len ∙ e ∙ sym c.len-2.ensures.len)))

pub returns-then-ne : goal.returns-then-ne
unfolding space_of
returns-then-ne c = told_apart (differ page_of_snapshot c.args.one.now.entries c.args.other.now.entries
    (zip_first c.loop-page.page-iterator) (zip_second c.loop-page.page-iterator) (zip_first c.next.new.self) (zip_second c.next.new.self)
    c.in-Some.page.now c.in-Some.twin.now c.in-Some.found.now c.in-Some.wanted.now c.loop-page.invariant
    c.in-Some.ensures.steps.0 c.in-Some.ensures.steps.1 c.len.ensures.ordered c.len-2.ensures.ordered
    (λ both. elim c.then-ne.branch [
      | then-ne-via-then-ne w ↦ differ_by_test c.ne.result c.in-Some.page.now c.in-Some.twin.now c.ne.ensures w.if-ne.true both.0
      | then-ne-via-else-ne+then-not-is_same_page w ↦ told_false w.is_same_page.result w.is_same_page.ensures.1 w.if-not-is_same_page.true both.1
    ]))

pub returns : goal.returns
unfolding space_of
returns c = told_same (same_at_end page_of_snapshot c.args.one.now.entries c.args.other.now.entries
    (zip_first c.loop-page.page-iterator) (zip_second c.loop-page.page-iterator) c.loop-page.invariant
    (elim c.in-None.ensures.steps [ inl first ↦ inl first.1.0 | inr second ↦ inr second.1.0 ]))

use Rattle.std.proofs.Common.{ap, ◌∙◌, sym}
use Rattle.std.specs.Option.{option_map_or}
use Rattle.sd_pagetable.specs.Contents.{Contents, word_at, word_of_page}
use Rattle.sd_pagetable.specs.View.{page_of_entry, contents_of}
use Rattle.sd_pagetable.proofs.ViewLemmas.{entry_there, none_there}
use Rattle.sd_pagetable.proofs.paging.Paging.word.Goals as goal
use Rattle.sd_pagetable.proofs.WordLemmas.{word_none, word_alone, word_shared}

pub returns-in_default : goal.returns-in_default
returns-in_default c = sym (ap (λ o. option_map_or (word_of_page c.args.self.now) o 0) (none_there c.self.inside.frames c.self.inside.tables c.args.self.now c.args.space c.args.page c.self.view_is (sym c.in_default.ensures)))

pub returns-in_default-frame : goal.returns-in_default-frame
returns-in_default-frame c =
    let there = entry_there c.self.inside.frames c.self.inside.tables c.args.space c.args.page c.in-Some.entry (sym c.get.ensures ∙ c.in-Some.is) in
    word_none (contents_of c.self.inside.frames c.self.inside.tables) c.args.space c.args.page (page_of_entry c.self.inside.frames c.in-Some.entry) _ there c.in_default-frame.is c.dirty_bit-soft_dirty.ensures
    ∙ ap (λ (m : Contents). word_at m c.args.space c.args.page) c.self.view_is

pub returns-then-count-eq1 : goal.returns-then-count-eq1
returns-then-count-eq1 c =
    let there = entry_there c.self.inside.frames c.self.inside.tables c.args.space c.args.page c.in-Some.entry (sym c.get.ensures ∙ c.in-Some.is) in
    word_alone (contents_of c.self.inside.frames c.self.inside.tables) c.args.space c.args.page (page_of_entry c.self.inside.frames c.in-Some.entry) c.in-Some-frame.frame _ there c.in-Some-frame.is (sym (c.self.invariant.counts c.in-Some-frame.frame) ∙ sym c.count.ensures ∙ c.if-count-eq1.true) c.dirty_bit-soft_dirty.ensures
    ∙ ap (λ (m : Contents). word_at m c.args.space c.args.page) c.self.view_is

pub returns-else-count-eq1 : goal.returns-else-count-eq1
returns-else-count-eq1 c =
    let there = entry_there c.self.inside.frames c.self.inside.tables c.args.space c.args.page c.in-Some.entry (sym c.get.ensures ∙ c.in-Some.is) in
    word_shared (contents_of c.self.inside.frames c.self.inside.tables) c.args.space c.args.page (page_of_entry c.self.inside.frames c.in-Some.entry) c.in-Some-frame.frame _ there c.in-Some-frame.is (λ one. c.if-count-eq1.false (c.count.ensures ∙ c.self.invariant.counts c.in-Some-frame.frame ∙ one)) c.dirty_bit-soft_dirty.ensures
    ∙ ap (λ (m : Contents). word_at m c.args.space c.args.page) c.self.view_is

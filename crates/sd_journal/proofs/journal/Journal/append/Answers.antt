use Rattle.std.proofs.Common.{◌≡◌, ◌+◌, ◌-◌, ◌≤◌, ◌<◌, [], ◌∷◌, length, reverse, vec_len, vec_capacity, sym, ◌∙◌, ap, arith, length-append}
use Rattle.sd_journal.specs.Kept.{JournalView, entry_count}
use Rattle.sd_journal.specs.Marked.{Told}
use Rattle.sd_journal.proofs.KeptLemmas.{count_in, within_more, after_entry}
use Rattle.sd_journal.proofs.journal.Journal.append.Goals as goal

pub invariant_of-self : goal.invariant_of-self
invariant_of-self c =
    let count : entry_count c.args.self.now ≡ length c.self.inside.entries.items =
    ap entry_count (sym c.self.view_is) ∙ count_in _ c.self.inside.entries.items c.self.inside.marks.items in
    let long : vec_len c.self.inside.entries ≡ length c.self.inside.entries.items = c.self.inside.entries.ok.0 in
    let held : c.args.self.now.held ≡ c.self.inside.held = ap (λ (journal : JournalView). journal.held) (sym c.self.view_is) in
    let limit : c.args.self.now.limit ≡ c.self.inside.limit = ap (λ (journal : JournalView). journal.limit) (sym c.self.view_is) in
    let longer : length c.push_into_room.new.entries.items ≡ length c.self.inside.entries.items + 1 =
    ap length c.push_into_room.ensures.items ∙ length-append c.self.inside.entries.items (c.args.entry ∷ []) in
    let wide : vec_capacity c.self.inside.entries ≤ vec_capacity c.push_into_room.new.entries = c.push_into_room.ensures.capacity in
    let before : length c.self.inside.entries.items + c.self.inside.held ≤ c.self.inside.limit = c.self.invariant.within in
    let spare : length c.self.inside.entries.items + c.self.inside.held ≤ vec_capacity c.self.inside.entries = c.self.invariant.room in
    let room : c.args.self.now.room ≡ vec_capacity c.self.inside.entries - length c.self.inside.entries.items =
    ap (λ (journal : JournalView). journal.room) (sym c.self.view_is) in
    let free : entry_count c.args.self.now + c.args.self.now.held < c.args.self.now.limit = c.requires.free in
    let roomy : c.args.self.now.held < c.args.self.now.room = c.requires.room in
    let more : c.self.inside.first + length c.self.inside.entries.items ≤ c.self.inside.first + length c.push_into_room.new.entries.items = omega arith in
    record {
      first = c.self.invariant.first;
      most = c.self.invariant.most;
      within = omega arith;
      room = omega arith;
      marks = within_more _ _ (reverse c.self.inside.marks.items) more c.self.invariant.marks;
    }

pub returns-clause-items : goal.returns-clause-items
returns-clause-items c =
    let longer : length c.push_into_room.new.entries.items ≡ length c.self.inside.entries.items + 1 =
    ap length c.push_into_room.ensures.items ∙ length-append c.self.inside.entries.items (c.args.entry ∷ []) in
    let one : c.self.inside.first + length c.push_into_room.new.entries.items ≡ c.self.inside.first + length c.self.inside.entries.items + 1 = omega arith in
    after_entry (c.self.inside.first + length c.self.inside.entries.items) (c.self.inside.first + length c.push_into_room.new.entries.items) c.args.entry
    c.self.inside.entries.items c.push_into_room.new.entries.items c.self.inside.marks.items c.self.invariant.marks one c.push_into_room.ensures.items
    ∙ ap (λ (journal : JournalView). Told c.args.entry ∷ journal.items) c.self.view_is

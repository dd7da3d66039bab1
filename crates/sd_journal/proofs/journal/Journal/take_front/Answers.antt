use Rattle.std.proofs.Common.{◌≡◌, ◌+◌, ◌-◌, ◌≤◌, length, vec_len, vec_capacity, sym, ◌∙◌, ap, arith, length-drop}
use Rattle.std.proofs.lemmas.List.{length-take-le}
use Rattle.sd_journal.specs.Kept.{JournalView, entry_count}
use Rattle.sd_journal.proofs.KeptLemmas.{count_in}
use Rattle.sd_journal.proofs.TakenLemmas.{taken, taken_parts, within_kept}
use Rattle.sd_journal.proofs.journal.Journal.take_front.Goals as goal

pub split_front-taken-requires-clause-within : goal.split_front-taken-requires-clause-within
split_front-taken-requires-clause-within c =
    let count : entry_count c.args.self.now ≡ length c.self.inside.entries.items =
    ap entry_count (sym c.self.view_is) ∙ count_in _ c.self.inside.entries.items c.self.inside.marks.items in
    let long : vec_len c.self.inside.entries ≡ length c.self.inside.entries.items = c.self.inside.entries.ok.0 in
    let asked : c.args.count ≤ entry_count c.args.self.now = c.requires.within in
    omega arith

pub split_front-taken-requires-clause-room : goal.split_front-taken-requires-clause-room
split_front-taken-requires-clause-room c =
    let count : entry_count c.args.self.now ≡ length c.self.inside.entries.items =
    ap entry_count (sym c.self.view_is) ∙ count_in _ c.self.inside.entries.items c.self.inside.marks.items in
    let long : vec_len c.self.inside.entries ≡ length c.self.inside.entries.items = c.self.inside.entries.ok.0 in
    let asked : entry_count c.args.self.now + c.args.self.now.held ≤ vec_capacity c.args.room + c.args.count = c.requires.room in
    omega arith

pub invariant_of-self : goal.invariant_of-self
invariant_of-self c =
    let entries = c.self.inside.entries.items in
    let count : entry_count c.args.self.now ≡ length entries =
    ap entry_count (sym c.self.view_is) ∙ count_in _ entries c.self.inside.marks.items in
    let asked : c.args.count ≤ entry_count c.args.self.now = c.requires.within in
    let inside : c.args.count ≤ length entries = omega arith in
    let kept = c.split_front-taken.ensures.kept in
    let left : length c.split_front-taken.new.entries.items ≡ length entries - c.args.count = ap length kept ∙ length-drop c.args.count entries in
    let held : c.args.self.now.held ≡ c.self.inside.held = ap (λ (journal : JournalView). journal.held) (sym c.self.view_is) in
    let asked_room : entry_count c.args.self.now + c.args.self.now.held ≤ vec_capacity c.args.room + c.args.count = c.requires.room in
    let capacity : vec_capacity c.args.room ≤ vec_capacity c.split_front-taken.new.entries = c.split_front-taken.ensures.capacity in
    let first : c.args.self.now.first ≡ c.self.inside.first = ap (λ (journal : JournalView). journal.first) (sym c.self.view_is) in
    let numbers = c.requires.numbers in
    let within = c.self.invariant.within in
    record {
      first = omega (arith, first, numbers);
      most = c.self.invariant.most;
      within = omega (arith, left, inside, within);
      room = omega (arith, held, left, inside, count, asked_room, capacity);
      marks = within_kept c.self.inside.first c.args.count entries c.split_front-taken.new.entries.items c.self.inside.marks.items c.forget_before.new.marks.items
          inside kept c.forget_before.ensures c.self.invariant.marks;
    }

pub returns : goal.returns
returns c =
    let entries = c.self.inside.entries.items in
    let count : entry_count c.args.self.now ≡ length entries =
    ap entry_count (sym c.self.view_is) ∙ count_in _ entries c.self.inside.marks.items in
    let asked : c.args.count ≤ entry_count c.args.self.now = c.requires.within in
    let inside : c.args.count ≤ length entries = omega arith in
    let t = taken c.self.inside.first c.args.count entries c.self.inside.marks.items c.requires.some inside c.self.invariant.marks in
    record {
      gone = t.gone;
      parts = ap (λ (journal : JournalView). journal.items) (sym c.self.view_is)
          ∙ taken_parts c.self.inside.first c.args.count entries c.split_front-taken.new.entries.items c.self.inside.marks.items c.forget_before.new.marks.items t
          c.split_front-taken.ensures.kept c.forget_before.ensures;
      newest = t.newest;
      entries = c.split_front-taken.ensures.taken ∙ t.entries_are;
      count = ap length c.split_front-taken.ensures.taken ∙ length-take-le c.args.count entries inside;
      first = ap (λ (journal : JournalView). journal.first + c.args.count) c.self.view_is;
      held = ap (λ (journal : JournalView). journal.held) c.self.view_is;
      limit = ap (λ (journal : JournalView). journal.limit) c.self.view_is;
    }

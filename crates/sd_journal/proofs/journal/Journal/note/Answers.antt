use Rattle.std.proofs.Common.{◌≡◌, ◌+◌, ◌∷◌, length, sym, ◌∙◌, ap}
use Rattle.sd_journal.specs.Kept.{JournalView, next_number}
use Rattle.sd_journal.specs.Marked.{Noted}
use Rattle.sd_journal.proofs.KeptLemmas.{after_mark, count_in, within_mark}
use Rattle.sd_journal.proofs.journal.Journal.note.Goals as goal

pub invariant_of-self : goal.invariant_of-self
invariant_of-self c =
    let next = c.self.inside.first + length c.self.inside.entries.items in
    let long : c.next_number-before.result ≡ next =
    c.next_number-before.ensures ∙ ap next_number (sym c.self.view_is) ∙ ap (λ n. c.self.inside.first + n) (count_in next c.self.inside.entries.items c.self.inside.marks.items) in
    record {
      first = c.self.invariant.first;
      most = c.self.invariant.most;
      within = c.self.invariant.within;
      room = c.self.invariant.room;
      marks = within_mark c.args.mark c.next_number-before.result next c.self.inside.marks.items c.note_after.new.marks.items long c.note_after.ensures.items c.self.invariant.marks;
    }

pub returns-clause-items : goal.returns-clause-items
returns-clause-items c =
    let next = c.self.inside.first + length c.self.inside.entries.items in
    let long : c.next_number-before.result ≡ next =
    c.next_number-before.ensures ∙ ap next_number (sym c.self.view_is) ∙ ap (λ n. c.self.inside.first + n) (count_in next c.self.inside.entries.items c.self.inside.marks.items) in
    after_mark c.args.mark next c.next_number-before.result c.self.inside.entries.items c.self.inside.marks.items c.note_after.new.marks.items long c.note_after.ensures.items
    ∙ ap (λ (journal : JournalView). Noted c.args.mark ∷ journal.items) c.self.view_is

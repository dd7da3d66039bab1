use Rattle.std.proofs.Common.{reverse, sym, ◌∙◌, ap}
use Rattle.sd_journal.specs.Kept.{JournalView}
use Rattle.sd_journal.specs.Marked.{entries_of}
use Rattle.std.proofs.lemmas.List.{reverse-reverse}
use Rattle.sd_journal.proofs.KeptLemmas.{entries_in}
use Rattle.sd_journal.proofs.journal.Journal.entries.Goals as goal

pub returns : goal.returns
returns c =
    let entries = c.self.inside.entries.items in
    c.deref.ensures.value ∙ sym (reverse-reverse entries) ∙ ap reverse (sym (entries_in _ entries c.self.inside.marks.items))
    ∙ ap (λ (journal : JournalView). reverse (entries_of journal.items)) c.self.view_is

use Rattle.std.proofs.Common.{◌≡◌, ℕ, MatchOption, List, reverse, sym, ◌∙◌, ap, subst}
use Rattle.std.proofs.lemmas.List.{reverse-reverse}
use Rattle.sd_journal.specs.declared.entry.Entry.{Entry}
use Rattle.sd_journal.specs.Kept.{JournalView}
use Rattle.sd_journal.specs.Marked.{entries_of}
use Rattle.sd_journal.specs.Trimming.{EndsAt}
use Rattle.sd_journal.proofs.KeptLemmas.{entries_in}
use Rattle.sd_journal.proofs.journal.Journal.ended_at.Goals as goal

pub returns-clause-ends : goal.returns-clause-ends
returns-clause-ends c =
    let entries = c.self.inside.entries.items in
    let same : c.deref.result.now ≡ reverse (entries_of c.args.self.now.items) =
    c.deref.ensures.value ∙ sym (reverse-reverse entries) ∙ ap reverse (sym (entries_in _ entries c.self.inside.marks.items))
    ∙ ap (λ (journal : JournalView). reverse (entries_of journal.items)) c.self.view_is in
    subst (λ (es : List Entry). MatchOption c.ended_at.result ((count : ℕ) → EndsAt c.args.checkpoint es count → ⊥) (EndsAt c.args.checkpoint es)) same c.ended_at.ensures.ends

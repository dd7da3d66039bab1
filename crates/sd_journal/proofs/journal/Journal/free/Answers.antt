use Rattle.std.proofs.Common.{◌≡◌, length, vec_len, sym, ◌∙◌, ap, arith}
use Rattle.sd_journal.specs.Kept.{JournalView, entry_count}
use Rattle.sd_journal.proofs.KeptLemmas.{count_in}
use Rattle.sd_journal.proofs.journal.Journal.free.Goals as goal

pub returns : goal.returns
returns c =
    let count : entry_count c.args.self.now ≡ length c.self.inside.entries.items =
    ap entry_count (sym c.self.view_is) ∙ count_in _ c.self.inside.entries.items c.self.inside.marks.items in
    let long : vec_len c.self.inside.entries ≡ length c.self.inside.entries.items = c.self.inside.entries.ok.0 in
    let held : c.args.self.now.held ≡ c.self.inside.held = ap (λ (journal : JournalView). journal.held) (sym c.self.view_is) in
    let limit : c.args.self.now.limit ≡ c.self.inside.limit = ap (λ (journal : JournalView). journal.limit) (sym c.self.view_is) in
    let within = c.self.invariant.within in
    omega arith

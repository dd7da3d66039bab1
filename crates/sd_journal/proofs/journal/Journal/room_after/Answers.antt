use Rattle.std.proofs.Common.{rules, ◌≡◌, ◌≤◌, ◌<◌, ◌+◌, length, vec_len, sym, ◌∙◌, ap, arith}
use Rattle.sd_journal.specs.Kept.{JournalView, entry_count}
use Rattle.sd_journal.proofs.KeptLemmas.{count_in}
use Rattle.sd_journal.proofs.journal.Journal.room_after.Goals as goal

pub overflow_sub-len : goal.overflow_sub-len
overflow_sub-len c =
    let count : entry_count c.args.self.now ≡ length c.self.inside.entries.items =
    ap entry_count (sym c.self.view_is) ∙ count_in _ c.self.inside.entries.items c.self.inside.marks.items in
    let long : vec_len c.self.inside.entries ≡ length c.self.inside.entries.items = c.self.inside.entries.ok.0 in
    let asked : c.args.count ≤ entry_count c.args.self.now = c.requires in
    omega (arith, c.len.ensures)

pub returns-clause-room : goal.returns-clause-room
returns-clause-room c =
    let count : entry_count c.args.self.now ≡ length c.self.inside.entries.items =
    ap entry_count (sym c.self.view_is) ∙ count_in _ c.self.inside.entries.items c.self.inside.marks.items in
    let long : vec_len c.self.inside.entries ≡ length c.self.inside.entries.items = c.self.inside.entries.ok.0 in
    let held : c.args.self.now.held ≡ c.self.inside.held = ap (λ (journal : JournalView). journal.held) (sym c.self.view_is) in
    let asked : c.args.count ≤ entry_count c.args.self.now = c.requires in
    omega (arith, c.in_ok-try_reserve.ensures.ok, c.len.ensures, count, long, held, asked)

pub returns-in_err-try_reserve-clause-some : goal.returns-in_err-try_reserve-clause-some
returns-in_err-try_reserve-clause-some c =
    let count : entry_count c.args.self.now ≡ length c.self.inside.entries.items =
    ap entry_count (sym c.self.view_is) ∙ count_in _ c.self.inside.entries.items c.self.inside.marks.items in
    let long : vec_len c.self.inside.entries ≡ length c.self.inside.entries.items = c.self.inside.entries.ok.0 in
    let held : c.args.self.now.held ≡ c.self.inside.held = ap (λ (journal : JournalView). journal.held) (sym c.self.view_is) in
    let asked : c.args.count ≤ entry_count c.args.self.now = c.requires in
    let more : c.args.count < entry_count c.args.self.now + c.args.self.now.held =
    omega (arith, c.in_err-try_reserve.ensures.full, c.new-room.ensures.len, c.len.ensures, count, long, held, asked) in
    search rules

use Rattle.std.proofs.Common.{◌≡◌, ◌+◌, ◌≤◌, length, reverse, vec_len, vec_capacity, sym, ◌∙◌, ap, subst, arith}
use Rattle.sd_journal.specs.Kept.{JournalView, entry_count, AreWithin}
use Rattle.sd_journal.proofs.KeptLemmas.{count_in}
use Rattle.sd_journal.proofs.journal.Journal.hold.Goals as goal

pub invariant_of-self-2 : goal.invariant_of-self-2
invariant_of-self-2 c =
    let count : entry_count c.args.self.now ≡ length c.self.inside.entries.items =
    ap entry_count (sym c.self.view_is) ∙ count_in _ c.self.inside.entries.items c.self.inside.marks.items in
    let long : vec_len c.self.inside.entries ≡ length c.self.inside.entries.items = c.self.inside.entries.ok.0 in
    let held : c.args.self.now.held ≡ c.self.inside.held = ap (λ (journal : JournalView). journal.held) (sym c.self.view_is) in
    let limit : c.args.self.now.limit ≡ c.self.inside.limit = ap (λ (journal : JournalView). journal.limit) (sym c.self.view_is) in
    let told = c.in_ok-try_reserve.ensures in
    let same : length c.try_reserve.new.self.items ≡ length c.self.inside.entries.items = ap length told.items in
    let wide : vec_len c.try_reserve.new.self + (c.self.inside.held + c.args.count) ≤ vec_capacity c.try_reserve.new.self = told.ok in
    let new_long : vec_len c.try_reserve.new.self ≡ length c.try_reserve.new.self.items = c.try_reserve.new.self.ok.0 in
    let asked : entry_count c.args.self.now + c.args.self.now.held + c.args.count ≤ c.args.self.now.limit = c.requires in
    record {
      first = c.self.invariant.first;
      most = c.self.invariant.most;
      within = omega arith;
      room = omega arith;
      marks = subst (λ n. AreWithin (c.self.inside.first + n) (reverse c.self.inside.marks.items)) (sym same) c.self.invariant.marks;
    }

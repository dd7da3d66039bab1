use Rattle.std.proofs.Common.{◌≡◌, ◌-◌, length, nat_lt, is_some, refl, ◌∙◌, ap, arith}
use Rattle.sd_journal.specs.Marked.{entries_of}
use Rattle.sd_crash_safety.specs.View.{CoreView}
use Rattle.sd_core.specs.Beginning.{are_used_up, free_entries, is_down, is_not_open}
use Rattle.sd_core.proofs.BeginLemmas.{is_busy, same_first}
use Rattle.sd_core.proofs.state.Core.refusal_of_begin.Goals as goal

pub returns : goal.returns
returns c =
    let free = c.free.ensures in
    let same : c.free.result ≡ c.self.inside.journal.limit - length (entries_of c.self.inside.journal.items) - c.self.inside.journal.held = omega (arith, free) in
    let is = c.self.view_is in
    c.first_of.ensures ∙ same_first c.args.self.now c.args.rounds _ _ _ _ _ _
    (c.is_not_open.ensures ∙ ap (λ (v : CoreView). is_not_open v.standing) is)
    (c.is_down.ensures ∙ ap (λ (v : CoreView). is_down v.standing) is)
    (is_busy c.self.inside.dumper.running c.is_idle.result c.is_idle.ensures ∙ ap (λ (v : CoreView). is_some v.dumper.running) is)
    refl
    (ap (λ n. nat_lt n 2) same ∙ ap (λ (v : CoreView). nat_lt (free_entries v) 2) is)
    (c.are_used_up.ensures ∙ ap (λ (v : CoreView). are_used_up v.numbers) is)

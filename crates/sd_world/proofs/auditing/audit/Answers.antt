use Rattle.std.proofs.Common.{◌≡◌, ◌↔◌, IfOk, IsTrue, reverse, subst, sym}
use Rattle.sd_audit.specs.ShowsOne.{ShowsOne, base_from_snapshot}
use Rattle.sd_crash_safety.specs.View.{history_of}
use Rattle.sd_journal.specs.Legal.{IsLegal}
use Rattle.sd_journal.specs.Marked.{entries_of}
use Rattle.sd_world.proofs.AuditLemmas.{audited, same_history}
use Rattle.sd_world.proofs.auditing.audit.Goals as goal

-- src/auditing.rt:43:5
pub audit-requires : goal.audit-requires
audit-requires g c =
    let core = c.args.core.now in
    let entries = c.entries-entries.result.now in
    let base = base_from_snapshot c.base_number.result c.base.result.now in
    let history = same_history (history_of core) entries (subst (λ items. entries ≡ reverse (entries_of items)) c.journal.ensures.items c.entries-entries.ensures) in
    c.journal_laws.ensures.legal_alike core.base base (reverse entries) (sym c.base_number.ensures) (sym c.base.ensures)
    (subst (IsLegal core.base) history (c.tracked_laws.ensures.legal core.base core.items c.sound.ensures.marked))

-- src/auditing.rt:24:1
pub returns-clause-exact : goal.returns-clause-exact
returns-clause-exact g c = λ honest.
    let core = c.args.core.now in
    let entries = c.entries-entries.result.now in
    let contents = g.D.Disk.contents c.args.disk.now in
    let base = base_from_snapshot c.base_number.result c.base.result.now in
    let history = same_history (history_of core) entries (subst (λ items. entries ≡ reverse (entries_of items)) c.journal.ensures.items c.entries-entries.ensures) in
    audited c.journal_laws.ensures c.audit.result base core.base (history_of core) contents c.base_number.ensures c.base.ensures
    (subst (λ h. IfOk c.audit.result (λ told. IsTrue told ↔ ShowsOne base h contents)) (sym history) (c.audit.ensures.exact honest))

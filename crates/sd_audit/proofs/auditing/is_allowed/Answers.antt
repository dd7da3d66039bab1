use Rattle.std.proofs.Common.{reverse, refl}
use Rattle.sd_journal.specs.History.{Base}
use Rattle.sd_audit.specs.ShowsOne.{base_from_snapshot}
use Rattle.sd_audit.proofs.AuditLemmas.{another_checkpoint}
use Rattle.sd_audit.proofs.SameLemmas.{told_apart, told_false}
use Rattle.sd_audit.proofs.auditing.is_allowed.Goals as goal

pub returns-then-not-is_last_or_pending : goal.returns-then-not-is_last_or_pending
returns-then-not-is_last_or_pending c =
    let base : Base = base_from_snapshot c.args.number c.args.base.now in
    told_apart (another_checkpoint base (reverse c.args.entries.now) c.args.found.now c.in-Some.snapshot c.in-Some.is
    (told_false c.is_last_or_pending.result (c.is_last_or_pending.ensures base refl).1 c.if-not-is_last_or_pending.true))

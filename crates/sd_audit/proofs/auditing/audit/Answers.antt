use Rattle.std.proofs.Common.{reverse}
use Rattle.std.proofs.lemmas.Result.{err_from_is_err_and}
use Rattle.std.specs.Option.{option_map}
use Rattle.sd_audit.specs.ShowsOne.{base_from_snapshot, shown_by}
use Rattle.sd_audit.proofs.AuditLemmas.{told_of_one}
use Rattle.sd_audit.proofs.auditing.audit.Goals as goal

pub returns-in_err-found-clause-good : goal.returns-in_err-found-clause-good
returns-in_err-found-clause-good g c = λ honest shown shows.
    let p = err_from_is_err_and c.from_residual.result c.from_residual.ensures.1 in
    rw (p.1, p.2) (c.in_err-found.ensures.good honest shown shows)

pub returns-clause-exact : goal.returns-clause-exact
returns-clause-exact g c = λ honest. told_of_one c.shown_once.ensures (base_from_snapshot c.args.number c.args.base.now) (reverse c.args.entries.now)
    (g.D.Disk.contents c.args.disk.now) (option_map shown_by c.in_ok-found.found) c.in_ok-is_allowed.field-0 (c.in_ok-found.ensures.shown honest) c.in_ok-is_allowed.ensures

use Rattle.std.proofs.lemmas.Result.{err_from_is_err_and}
use Rattle.sd_receipts.proofs.EntryLemmas.{never}
use Rattle.sd_receipts.proofs.FaultLemmas.{fault_apart, fault_is}
use Rattle.sd_receipts.proofs.checking.check_entries.Goals as goal

pub returns-in_err-check_each : goal.returns-in_err-check_each
returns-in_err-check_each c =
    let p = err_from_is_err_and c.from_residual.result c.from_residual.ensures.1 in
    let fault = c.in_err-check_each.field-0.0 in
    let is = fault_is c.args.first c.args.entries.now c.args.receipts.now c.args.acks.now fault c.in_err-check_each.ensures.fault in
    rw (p.1, p.2) (record {
      exact = (λ ok. absurd (never ok), λ accounts. absurd (fault_apart c.args.first c.args.entries.now c.args.receipts.now c.args.acks.now fault is accounts));
      fault = is;
    })

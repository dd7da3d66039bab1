use Rattle.std.proofs.Common.{◌≡◌, ◌∙◌, Err, ap, sym, subst, refl}
use Rattle.sd_image.specs.declared.table_error.TableError.{TableError}
use Rattle.sd_image.specs.Reading.{FailsToRead, table_in}
use Rattle.sd_restore.specs.Faulty.{IsFaulty}
use Rattle.sd_restore.specs.Reading.{table_bytes}
use Rattle.sd_restore.proofs.FileLemmas.{is_decoded, table_is_faulty}
use Rattle.sd_restore.proofs.decoded.decode_slot.Goals as goal

pub returns-in-Ok-clause-decoded : goal.returns-in-Ok-clause-decoded
returns-in-Ok-clause-decoded c = λ file has is digest.
    is_decoded c.file_is_image.ensures file (record { header = c.args.header; table = c.in-Ok.table }) has (sym is ∙ c.in-Ok.ensures.found.0) c.in-Ok.ensures.found.1 digest

pub returns-in-Err-Damaged-clause-faulty : goal.returns-in-Err-Damaged-clause-faulty
returns-in-Err-Damaged-clause-faulty c = λ file has is.
    let breaks : table_in c.args.header c.args.table.now ≡ Err c.in-Err-Damaged.reason =
    subst (λ (e : TableError). FailsToRead e (table_in c.args.header c.args.table.now)) c.in-Err-Damaged.field-0-is c.in-Err-Damaged.ensures.exact in
    let table : table_in c.args.header (table_bytes c.args.header file) ≡ Err c.in-Err-Damaged.reason = ap (table_in c.args.header) (sym is) ∙ breaks in (
      refl,
      subst (IsFaulty file) (sym c.in-Err-Damaged.reason-is)
          (table_is_faulty c.good_header_has_no_reason.ensures file c.args.header c.in-Err-Damaged.reason has table),
    )
